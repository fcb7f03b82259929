-- The totals of a channel balance: the end that is named is its one peer, and a denomination that is too long is nowhere.
use Rattle.std.proofs.Common.{◌≡◌, ℕ, ◌+◌, Bool, true, false, not, List, [], ◌∷◌, refl, sym, ap, ◌∙◌, subst, Option, Some, None, Ok, option_map, slice_get, if◌then◌else◌, arith}
use Rattle.std.specs.Prelude.{nat_le, length, IsTrue}
use Rattle.std.specs.List.{list_all, sum_by}
use Rattle.std.specs.Option.{option_and_then, option_map_or, unwrap_or}
use Rattle.std.proofs.lemmas.List.Sums.{sum_by-cons}
use Rattle.ibc_ids.specs.Texts.{Text, same_text}
use Rattle.ibc_ids.specs.Names.{is_denom}
use Rattle.ibc_ids.specs.declared.refusal.Refusal.TheVariants.{UnknownChain, UnknownChannel, WrongState, WrongPeer, TooLarge, BadMessage}
use Rattle.ibc_ids.proofs.Texts.{text_same}
use Rattle.ibc_wire.specs.declared.records.ConnectionEnd.{ConnectionEnd}
use Rattle.ibc_wire.specs.declared.token.Token.{Token}
use Rattle.ibc_machine.specs.chain.Records.{Records, MachineChain, Client, Channel, Commitment, client_at, channel_at}
use Rattle.ibc_machine.specs.ics04.Channels.{is_established, client_of, peer_channel_of}
use Rattle.ibc_machine.specs.ics20.TokenData.{Data, is_data, is_token, is_amount, data_of, tokens_of, amount_of}
use Rattle.ibc_machine.specs.ics20.Bank.{Balances, supply}
use Rattle.ibc_machine.specs.ics20.Transfers.{transfer_port, came_over}
use Rattle.ibc_machine.specs.chain.Machine.{World}
use Rattle.ibc_machine.specs.promises.Histories.{End}
use Rattle.ibc_machine.specs.promises.Peers.{records_of, end_at, are_peers}
use Rattle.ibc_machine.specs.promises.Totals.{Totals, totals, totals_between, named_peer, peer_at, are_bounded, flight, flight_between, amount_under_way, has_succeeded, escrow_balance, vouchers, denom_with_hop}
use Rattle.ibc_machine.specs.promises.Laws.{HasOnePeer}
use Rattle.ibc_machine.proofs.DataRead.{data_spelled}
use Rattle.ibc_machine.proofs.PassedRows.{Gives, gives_expect, gives_require, gives_ok}
use Rattle.ibc_laws.proofs.basics.PassedTests.{both, no_longer}
use Rattle.ibc_laws.proofs.basics.ListPlaces.{some_is}
use Rattle.ibc_laws.proofs.peers.Peers.{Stands, Peers, true_peers, stands, stands_same}

-- ---- of what is no denomination nothing is held, and nothing is under way

apart_from : (x y : Text) → is_denom x ≡ true → is_denom y ≡ false → same_text x y ≡ false
apart_from x y is not_one = go (same_text x y) refl
  where
    go : (b : Bool) → same_text x y ≡ b → same_text x y ≡ false
    go true same = absurd (let e : true ≡ false = sym is ∙ ap is_denom (text_same x y same) ∙ not_one in cc e)
    go false other = other

nothing_held : (denom : Text) → is_denom denom ≡ false → (b : Balances) → list_all (λ (entry : (Text × Text) × ℕ). is_denom entry.0.1) b ≡ true → supply b denom ≡ 0
nothing_held denom not_one [] e = refl
nothing_held denom not_one (entry ∷ b) e =
    let tests = both (is_denom entry.0.1) (list_all (λ (x : (Text × Text) × ℕ). is_denom x.0.1) b) e in
    let here : (if same_text entry.0.1 denom then entry.1 else 0) ≡ 0 = ap (λ (t : Bool). if t then entry.1 else 0) (apart_from entry.0.1 denom tests.0 not_one) in
    let more = nothing_held denom not_one b tests.1 in
    let sum = sum_by-cons (λ (x : (Text × Text) × ℕ). if same_text x.0.1 denom then x.1 else 0) entry b in
    omega (arith, here, more, sum)

nothing_in : (denom : Text) → is_denom denom ≡ false → (tokens : List Token) → list_all is_token tokens ≡ true → amount_of denom tokens ≡ 0
nothing_in denom not_one [] e = refl
nothing_in denom not_one (token ∷ tokens) e =
    let tests = both (is_token token) (list_all is_token tokens) e in
    let is = (both (is_amount token.amount) (is_denom token.denom) tests.0).1 in
    let here : (if same_text token.denom denom then token.amount else 0) ≡ 0 = ap (λ (t : Bool). if t then token.amount else 0) (apart_from token.denom denom is not_one) in
    let more = nothing_in denom not_one tokens tests.1 in
    let sum = sum_by-cons (λ (t : Token). if same_text t.denom denom then t.amount else 0) token tokens in
    omega (arith, here, more, sum)

nothing_told : (version denom : Text) → is_denom denom ≡ false → (c : Commitment) → amount_of denom (tokens_of version c) ≡ 0
nothing_told version denom not_one c = go (data_of version c.payload) refl
  where
    go : (o : Option Data) → data_of version c.payload ≡ o → amount_of denom (option_map_or (λ (d : Data). d.tokens) o []) ≡ 0
    go None is = refl
    go (Some d) is =
        let good = (data_spelled version c.payload d is).0 in
        nothing_in denom not_one d.tokens (list_of version d good)
      where
        list_of : (version : Text) (d : Data) → is_data version d ≡ true → list_all is_token d.tokens ≡ true
        list_of version d good = (both _ (list_all is_token d.tokens) (both _ _ (both _ _ (both _ _ good).0).0).0).1

chosen : (b : Bool) (n : ℕ) → n ≡ 0 → (if b then 0 else n) ≡ 0
chosen true n e = refl
chosen false n e = e

nothing_under_way : (version denom : Text) → is_denom denom ≡ false → (theirs : Channel) (sent : List (ℕ × Commitment)) → sum_by (amount_under_way version denom theirs) sent ≡ 0
nothing_under_way version denom not_one theirs [] = refl
nothing_under_way version denom not_one theirs (entry ∷ sent) =
    let here : amount_under_way version denom theirs entry ≡ 0 = chosen (has_succeeded theirs entry.0) _ (nothing_told version denom not_one entry.1) in
    let more = nothing_under_way version denom not_one theirs sent in
    let sum = sum_by-cons (amount_under_way version denom theirs) entry sent in
    omega (arith, here, more, sum)

no_flight : (denom : Text) → is_denom denom ≡ false → (mine theirs : Option Channel) → flight_between denom mine theirs ≡ 0
no_flight denom not_one (Some mine) (Some theirs) = nothing_under_way mine.end.version denom not_one theirs mine.commitments
no_flight denom not_one (Some mine) None = refl
no_flight denom not_one None (Some theirs) = refl
no_flight denom not_one None None = refl

-- ---- the totals

-- as the fourth law says
abbrev pub AreBalanced : Totals → Type 0
AreBalanced t = t.escrow ≡ t.vouchers + t.out + t.back

-- each chain holds denominations alone
abbrev pub HoldDenominations : World → Type 0
HoldDenominations world = (k : ℕ) (chain : MachineChain) → slice_get world k ≡ Some chain
    → list_all (λ (entry : (Text × Text) × ℕ). is_denom entry.0.1) chain.records.apps.balances ≡ true

abbrev end_of : ℕ → Text → Text → End
end_of chain port channel = record { chain = chain; port = port; channel = channel }

standing : (world : World) (e : End) (m : Channel) → Stands world e m → end_at world e ≡ Some m
standing world e m s =
    ap (λ (o : Option MachineChain). option_and_then (λ (r : Records). channel_at r.core e.port e.channel) (option_map (λ (c : MachineChain). c.records) o)) s.there ∙ s.is

module _ (world : World) (one_peer : HasOnePeer world)
    (conserved : (e f : End) (denom : Text) → IsTrue (are_peers world e f) → e.port ≡ transfer_port → came_over e.port e.channel denom ≡ false
    → escrow_balance world e denom ≡ vouchers world f denom + flight world e f denom + flight world f e (denom_with_hop f denom))
    (hold : HoldDenominations world) (chain : ℕ) (channel denom : Text) where
  abbrev e : End
  e = end_of chain transfer_port channel

  -- the peer is the end that is named
  is_named : (g : End) (p : Peers world e g) → named_peer p.here.chain.records.core p.mine ≡ Some g
  is_named g p =
      let n = p.names_them in
      let core = p.here.chain.records.core in
      let client : client_of core p.mine.end.connection ≡ n.connection.client =
      ap (λ (o : Option ConnectionEnd). option_map_or (λ (c : ConnectionEnd). c.client) o []) n.there in
      let there : client_at core (client_of core p.mine.end.connection) ≡ Some n.client = ap (client_at core) client ∙ n.client_there in
      let name : peer_channel_of p.mine.end ≡ g.channel = ap (λ (o : Option Text). unwrap_or o []) n.channel in
      let same : end_of n.client.state.chain p.mine.end.peer_port (peer_channel_of p.mine.end) ≡ g =
      λ i. end_of (n.tracks i) (sym n.port i) (name i) in
      ap (option_map (λ (c : Client). end_of c.state.chain p.mine.end.peer_port (peer_channel_of p.mine.end))) there ∙ ap Some same

  too_long : (g : End) → nat_le (length (denom_with_hop g denom)) 256 ≡ false → is_denom (denom_with_hop g denom) ≡ false
  too_long g e = rw e refl

  with_peer : (g : End) → are_peers world e g ≡ true → came_over transfer_port channel denom ≡ false → AreBalanced (totals_between world e g denom)
  with_peer g peers foreign = go (nat_le (length (denom_with_hop g denom)) 256) refl
    where
      law : escrow_balance world e denom ≡ vouchers world g denom + flight world e g denom + flight world g e (denom_with_hop g denom)
      law = conserved e g denom peers refl foreign

      go : (b : Bool) → nat_le (length (denom_with_hop g denom)) 256 ≡ b
          → escrow_balance world e denom ≡ (if b then vouchers world g denom else 0) + flight world e g denom + (if b then flight world g e (denom_with_hop g denom) else 0)
      go true fits = law
      go false long =
          let p = true_peers world e g peers in
          let held : vouchers world g denom ≡ 0 =
          ap (λ (o : Option MachineChain). supply (option_map_or (λ (c : MachineChain). c.records.apps.balances) o []) (denom_with_hop g denom)) p.there.there
          ∙ nothing_held (denom_with_hop g denom) (too_long g long) p.there.chain.records.apps.balances (hold g.chain p.there.chain p.there.there) in
          let back : flight world g e (denom_with_hop g denom) ≡ 0 = no_flight (denom_with_hop g denom) (too_long g long) (end_at world g) (end_at world e) in
          omega (arith, law, held, back)

  checked : (records : Records) → records_of world chain ≡ Some records → (mine : Channel) → channel_at records.core transfer_port channel ≡ Some mine
      → is_established mine ≡ true → came_over transfer_port channel denom ≡ false → (f : End) → peer_at world records.core mine ≡ Some f → AreBalanced (totals_between world e f denom)
  checked records there mine end established foreign f found =
      let own : end_at world e ≡ Some mine = ap (option_and_then (λ (r : Records). channel_at r.core transfer_port channel)) there ∙ end in
      let peer = one_peer.one e mine own established in
      let g = peer.0 in
      let p = true_peers world e g peer.1 in
      let same : p.mine ≡ mine = stands_same e p.mine mine p.here (stands world e mine own) in
      let its : p.here.chain.records ≡ records = some_is (ap (option_map (λ (c : MachineChain). c.records)) p.here.there) there in
      let named : named_peer records.core mine ≡ Some g =
      subst (λ (x : Records × Channel). named_peer x.0.core x.1 ≡ Some g) (λ i. (its i, same i)) (is_named g p) in
      let found_g : peer_at world records.core mine ≡ Some g =
      ap (option_and_then (λ (h : End). option_map (λ (t : Channel). h) (end_at world h))) named
      ∙ ap (option_map (λ (t : Channel). g)) (standing world g p.theirs p.there) in
      subst (λ (h : End). AreBalanced (totals_between world e h denom)) (some_is found_g found) (with_peer g peer.1 foreign)

  answers : Gives AreBalanced (totals world chain channel denom)
  unfolding totals
  answers =
      gives_expect (records_of world chain) UnknownChain _ λ records there.
      gives_expect (channel_at records.core transfer_port channel) UnknownChannel _ λ mine end.
      gives_require (is_established mine) WrongState _ λ established.
      gives_require (not (came_over transfer_port channel denom)) BadMessage _ λ foreign.
      gives_expect (peer_at world records.core mine) WrongPeer _ λ f found.
      gives_require (are_bounded (totals_between world e f denom)) TooLarge _ λ bounded.
      gives_ok AreBalanced (totals_between world e f denom)
      (checked records there mine end established (no_longer (came_over transfer_port channel denom) foreign) f found)

  -- what is answered balances
  pub totals_balance : (t : Totals) → totals world chain channel denom ≡ Ok t → AreBalanced t
  totals_balance = answers.gives
