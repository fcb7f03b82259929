-- A step changes the supply of no denomination but of those that came over a channel of its chain. So a base
-- denomination keeps its supply, and what else a chain holds came over one of its channels, whose peer has it in escrow.
use Rattle.std.proofs.Common.{◌≡◌, ℕ, zero, suc, ◌≤◌, Bool, true, false, refl, ap, sym, ◌∙◌, subst, List, [], ◌∷◌, ◌++◌, length, drop, Option, Some, None, inl, inr, ◌⊎◌, arith, slice_get, slice_set, if◌then◌else◌}
use Rattle.std.specs.List.{sum_by}
use Rattle.std.specs.Option.{option_map_or}
use Rattle.ibc_ids.specs.Texts.{Text}
use Rattle.ibc_ids.specs.Names.{is_base_denom, hop}
use Rattle.ibc_ids.proofs.Hops.{came_over_is, came_over_by}
use Rattle.ibc_wire.specs.declared.packet.Packet.{Packet}
use Rattle.ibc_wire.specs.declared.token.Token.{Token}
use Rattle.ibc_machine.specs.chain.Records.{Core, MachineChain, Channel}
use Rattle.ibc_machine.specs.ics20.TokenData.{amount_of}
use Rattle.ibc_machine.specs.ics20.Bank.{Balances, supply, balance, escrow}
use Rattle.ibc_machine.specs.ics20.Transfers.{transfer_port, came_over, without_hop}
use Rattle.ibc_machine.specs.chain.Genesis.{GenesisState, start, is_allowed, starting_balances}
use Rattle.ibc_machine.specs.chain.Machine.{World}
use Rattle.ibc_machine.specs.ledger.Ledgers.{is_typed}
use Rattle.ibc_machine.specs.promises.Histories.{Happened, End}
use Rattle.ibc_machine.specs.promises.Totals.{balances_of, escrow_balance}
use Rattle.ibc_machine.specs.promises.Laws.{IsPast}
use Rattle.ibc_machine.proofs.Measures.{IsSorted, Moved, weigh}
use Rattle.ibc_laws.specs.Tokens.{SupplyStays, NoVoucherWithoutEscrow, IsBacked, transfer_end, supply_at}
use Rattle.ibc_laws.proofs.basics.ListPlaces.{some_is, placed, same_or_not, get-set_same, get-set_other}
use Rattle.ibc_laws.proofs.steps.Told.{Told, told_of}
use Rattle.ibc_laws.proofs.steps.CoreSteps.{rank}
use Rattle.ibc_laws.proofs.steps.MachineSteps.{Moves, Stepped, rests, moves, stepped}
use Rattle.ibc_laws.proofs.steps.WorldGrowth.{chain_grows}
use Rattle.ibc_laws.proofs.steps.Induction.{past_has}
use Rattle.ibc_laws.proofs.peers.Invariant.{Inv}
use Rattle.ibc_laws.proofs.peers.Peers.{Stands, Peers, peers_flip, peers_true}
use Rattle.ibc_laws.proofs.peers.FirstLaw.{peer_of, peers_of}
use Rattle.ibc_laws.proofs.tokens.Hops.{HasNoSlash, base_has_no_slash}
use Rattle.ibc_laws.proofs.tokens.ChannelNames.{channel_has_no_slash}
use Rattle.ibc_laws.proofs.tokens.HeldAndIssued.{sum-same, of_denom, if_of, differ, unburnt_sum}
use Rattle.ibc_laws.proofs.tokens.TokenMoves.{unless_burnt, receive_out, receive_gain, hopped_token, sent_tokens, refunded_tokens, received_tokens}
use Rattle.ibc_laws.proofs.tokens.Ports.{transfer_peer}
use Rattle.ibc_laws.proofs.tokens.Unopened.{held_at_start, lemma_starts_fairly}
use Rattle.ibc_laws.proofs.tokens.FourthLaw.{Conserving, conserving_start, conserving_step}
use Rattle.ibc_laws.proofs.tokens.BalancesMoved.{HasTransfers, BalancesMoved, stay, leave, come_back, arrive, lemma_balances_moved}

-- ---- what a step does to the supply of a denomination

-- the denomination came over a channel that stands
abbrev CameOver : Core → Text → Type 0
CameOver core denom = (channel : Text) × HasTransfers core channel × (came_over transfer_port channel denom ≡ true)

abbrev SameOrCame : Core → Balances → Balances → Text → Type 0
SameOrCame core before after denom = (supply after denom ≡ supply before denom) ⊎ CameOver core denom

-- what a list of tokens of a denomination that isn't burnt leaves is what it pays
lemma_kept_whole : (channel denom : Text) (tokens : List Token) → came_over transfer_port channel denom ≡ false
    → sum_by (λ token. unless_burnt transfer_port channel token (if_of denom token)) tokens ≡ amount_of denom tokens
lemma_kept_whole channel denom tokens over =
    unburnt_sum transfer_port channel denom tokens ∙ ap (λ b. if b then 0 else amount_of denom tokens) over

module _ (denom : Text) (b after : Balances) (sorted : IsSorted b) where
  lemma_sent_same : (channel user : Text) (tokens : List Token) → came_over transfer_port channel denom ≡ false
      → Moved (of_denom denom) b after (amount_of denom tokens) (sum_by (λ token. unless_burnt transfer_port channel token (if_of denom token)) tokens)
      → supply after denom ≡ supply b denom
  lemma_sent_same channel user tokens over m = let x = m.measured in let kept = lemma_kept_whole channel denom tokens over in omega arith

  lemma_refunded_same : (channel user : Text) (tokens : List Token) → came_over transfer_port channel denom ≡ false
      → Moved (of_denom denom) b after (sum_by (λ token. unless_burnt transfer_port channel token (if_of denom token)) tokens) (amount_of denom tokens)
      → supply after denom ≡ supply b denom
  lemma_refunded_same channel user tokens over m = let x = m.measured in let kept = lemma_kept_whole channel denom tokens over in omega arith

  -- a token that arrives and isn't of a denomination over the channel came out of the escrow
  lemma_gains_as_out : (p : Packet) (user : Text) → p.destination_port ≡ transfer_port → came_over transfer_port p.destination_channel denom ≡ false
      → (token : Token) → receive_gain (of_denom denom) p user token ≡ receive_out (of_denom denom) p token
  lemma_gains_as_out p user to over token = go (came_over p.source_port p.source_channel token.denom)
    where
      other : hop p.destination_port p.destination_channel ++ token.denom ≡ denom → ⊥
      other same =
          let came = came_over_by p.destination_port p.destination_channel token.denom in
          let here = subst (λ x. came_over p.destination_port p.destination_channel x ≡ true) same came in
          absurd (cc (subst (λ port. came_over port p.destination_channel denom ≡ true) to here, over))

      go : (q : Bool) → (if q then weigh (of_denom denom) user (without_hop p token) else weigh (of_denom denom) user (hopped_token p token))
          ≡ (if q then weigh (of_denom denom) (escrow p.destination_channel) (without_hop p token) else 0)
      go true = refl
      go false = ap (λ t. if t then token.amount else 0) (differ (hop p.destination_port p.destination_channel ++ token.denom) denom other)

  lemma_received_same : (p : Packet) (user : Text) (tokens : List Token) → p.destination_port ≡ transfer_port → came_over transfer_port p.destination_channel denom ≡ false
      → Moved (of_denom denom) b after (sum_by (receive_out (of_denom denom) p) tokens) (sum_by (receive_gain (of_denom denom) p user) tokens)
      → supply after denom ≡ supply b denom
  lemma_received_same p user tokens to over m =
      let x = m.measured in
      let same = sum-same (receive_gain (of_denom denom) p user) (receive_out (of_denom denom) p) tokens (lemma_gains_as_out p user to over) in
      omega arith

  -- it came over the channel, or its supply stays
  lemma_by_channel : (core : Core) (channel : Text) → HasTransfers core channel
      → (came_over transfer_port channel denom ≡ false → supply after denom ≡ supply b denom) → SameOrCame core b after denom
  lemma_by_channel core channel has same = go (came_over transfer_port channel denom) refl
    where
      go : (q : Bool) → came_over transfer_port channel denom ≡ q → SameOrCame core b after denom
      go true over = inr (channel, has, over)
      go false over = inl (same over)

  lemma_supply_moved : (core : Core) (told : Told) → BalancesMoved core told b after → SameOrCame core b after denom
  lemma_supply_moved core told (stay same) = inl (ap (λ x. supply x denom) same)
  lemma_supply_moved core told (leave channel user tokens n c has tells moved) =
      lemma_by_channel core channel has (λ over. lemma_sent_same channel user tokens over (sent_tokens (of_denom denom) channel user tokens b after sorted moved))
  lemma_supply_moved core told (come_back channel user tokens has is moved) =
      lemma_by_channel core channel has (λ over. lemma_refunded_same channel user tokens over (refunded_tokens (of_denom denom) channel user tokens b after sorted moved))
  lemma_supply_moved core told (arrive in_flight p user tokens has to is moved) =
      lemma_by_channel core p.destination_channel has
      (λ over. lemma_received_same p user tokens to over (received_tokens (of_denom denom) in_flight p user tokens b after sorted moved))

-- a base denomination came over no channel
lemma_no_base : (channel denom : Text) → is_base_denom denom ≡ true → came_over transfer_port channel denom ≡ true → ⊥
lemma_no_base channel denom base over =
    absurd (cc (subst HasNoSlash (came_over_is transfer_port channel denom over) (base_has_no_slash denom base)))

-- ---- runs

record Supplies (genesis : GenesisState) (hs : List Happened) (w : World) : Type 0 where
  conserving : Conserving hs w
  base : (k : ℕ) (denom : Text) → is_base_denom denom ≡ true → supply (balances_of w k) denom ≡ supply (balances_of (start genesis) k) denom
  came : (k : ℕ) (c : MachineChain) → slice_get w k ≡ Some c → (denom : Text) → 1 ≤ supply c.records.apps.balances denom
      → (is_base_denom denom ≡ true) ⊎ CameOver c.records.core denom

module _ (genesis : GenesisState) (chains : ℕ) (hs : List Happened) (w : World) (h : Happened) (v : World) (typed : is_typed h.0 ≡ true) (was : Supplies genesis hs w) where
  abbrev inv : Inv w
  inv = was.conserving.known.once.inv

  moved : (s : Moves chains w h v) (denom : Text) → SameOrCame s.before.records.core s.before.records.apps.balances s.now.records.apps.balances denom
  moved s denom =
      lemma_supply_moved denom s.before.records.apps.balances s.now.records.apps.balances (was.conserving.known.kinds.each s.k s.before s.there).sorted
      s.before.records.core (told_of h) (lemma_balances_moved chains w s.k s.before (told_of h) s.now s.step)

  lemma_base_same : (s : Moves chains w h v) (denom : Text) → is_base_denom denom ≡ true
      → supply s.now.records.apps.balances denom ≡ supply s.before.records.apps.balances denom
  lemma_base_same s denom base = elim (moved s denom) [
    | inl same ↦ same
    | inr over ↦ absurd (lemma_no_base over.0 denom base over.2)
  ]

  abbrev of : Option MachineChain → Balances
  of o = option_map_or (λ (c : MachineChain). c.records.apps.balances) o []

  lemma_base_after : Stepped chains w h v → (k : ℕ) (denom : Text) → is_base_denom denom ≡ true → supply (balances_of v k) denom ≡ supply (balances_of w k) denom
  lemma_base_after (rests quiet same) k denom base = ap (λ (x : World). supply (balances_of x k) denom) same
  lemma_base_after (moves s) k denom base =
      ap (λ (x : World). supply (balances_of x k) denom) s.after
      ∙ elim (same_or_not k s.k) [
        | inl here ↦ (
            let now = ap (λ i. supply (of (slice_get (slice_set w s.k s.now) i)) denom) here
            ∙ ap (λ o. supply (of o) denom) (get-set_same w s.k s.before s.now s.there) in
            let before_it = ap (λ i. supply (of (slice_get w i)) denom) here ∙ ap (λ o. supply (of o) denom) s.there in
            now ∙ lemma_base_same s denom base ∙ sym before_it
            )
        | inr other ↦ ap (λ o. supply (of o) denom) (get-set_other w s.k k s.now other)
      ]

  lemma_came_after : Stepped chains w h v → (k : ℕ) (c : MachineChain) → slice_get v k ≡ Some c → (denom : Text) → 1 ≤ supply c.records.apps.balances denom
      → (is_base_denom denom ≡ true) ⊎ CameOver c.records.core denom
  lemma_came_after (rests quiet same) k c there denom some = was.came k c (subst (λ (x : World). slice_get x k ≡ Some c) same there) denom some
  lemma_came_after (moves s) k c there denom some =
      elim (placed w s.k s.before s.now s.there k c (subst (λ (x : World). slice_get x k ≡ Some c) s.after there)) [
        | inl here ↦ subst (λ (d : MachineChain). (is_base_denom denom ≡ true) ⊎ CameOver d.records.core denom) here.1
            (now (subst (λ (d : MachineChain). 1 ≤ supply d.records.apps.balances denom) (sym here.1) some))
        | inr other ↦ was.came k c other.1 denom some
      ]
    where
      later : CameOver s.before.records.core denom → CameOver s.now.records.core denom
      later x =
          let grows = chain_grows chains w s.k s.before (inv.shaped.each s.k s.before s.there) (told_of h) s.now s.step in
          let m = grows.core.channels transfer_port x.0 x.1.0 x.1.1 in
          (x.0, (m.0, m.1), x.2)

      now : 1 ≤ supply s.now.records.apps.balances denom → (is_base_denom denom ≡ true) ⊎ CameOver s.now.records.core denom
      now some = elim (moved s denom) [
        | inr over ↦ inr (later over)
        | inl same ↦ elim (was.came s.k s.before s.there denom (omega arith)) [
          | inl base ↦ inl base
          | inr over ↦ inr (later over)
        ]
      ]

  lemma_supplies_step : Stepped chains w h v → Supplies genesis (hs ++ h ∷ []) v
  lemma_supplies_step step = record {
    conserving = conserving_step chains hs w h v was.conserving typed step;
    base = λ k denom base. lemma_base_after step k denom base ∙ was.base k denom base;
    came = lemma_came_after step;
  }

lemma_came_at_start : (genesis : GenesisState) → is_allowed genesis ≡ true → (k : ℕ) (c : MachineChain) → slice_get (start genesis) k ≡ Some c
    → (denom : Text) → 1 ≤ supply c.records.apps.balances denom → (is_base_denom denom ≡ true) ⊎ CameOver c.records.core denom
lemma_came_at_start genesis allowed k c there denom some = go (is_base_denom denom) refl
  where
    go : (b : Bool) → is_base_denom denom ≡ b → (is_base_denom denom ≡ true) ⊎ CameOver c.records.core denom
    go true is = inl is
    go false is =
        let s = lemma_starts_fairly genesis allowed k c there in
        let none : supply (starting_balances s.0.balances) denom ≡ 0 = held_at_start (of_denom denom)
        (λ user base a_user a_base. differ base denom (λ same. absurd (cc (sym a_base ∙ ap is_base_denom same ∙ is))))
        s.0.balances s.0.balances s.2 [] tt refl in
        let of_chain : supply (starting_balances s.0.balances) denom ≡ supply c.records.apps.balances denom = ap (λ (d : MachineChain). supply d.records.apps.balances denom) s.1 in
        absurd (omega arith)

lemma_supplies : (genesis : GenesisState) (happened : List Happened) (world : World) → IsPast genesis happened world → Supplies genesis happened world
lemma_supplies genesis happened world past = past_has genesis (Supplies genesis)
    (λ happened old h new typed was step. lemma_supplies_step genesis (length genesis.chains) happened old h new typed was (stepped genesis old h new step))
    (record {
      conserving = conserving_start genesis past.allowed;
      base = λ k denom base. refl;
      came = lemma_came_at_start genesis past.allowed;
    }) happened world past

pub lemma_supply_stays : SupplyStays
lemma_supply_stays genesis happened world chain denom past base = (lemma_supplies genesis happened world past).base chain denom base

-- ---- no voucher without escrow

module _ (hs : List Happened) (world : World) (all : Conserving hs world) (chain : ℕ) (denom : Text) (c : MachineChain) (there : slice_get world chain ≡ Some c)
    (over : CameOver c.records.core denom) (some : 1 ≤ supply c.records.apps.balances denom) where
  abbrev f : End
  f = transfer_end chain over.0

  abbrev rest : Text
  rest = drop (length (hop transfer_port over.0)) denom

  whole : denom ≡ hop transfer_port over.0 ++ rest
  whole = came_over_is transfer_port over.0 denom over.2

  here : Stands world f over.1.0
  here = record { chain = c; there = there; is = over.1.1 }

  lemma_backed_by : (e : End) → Peers world f e → IsBacked world chain denom
  lemma_backed_by e p =
      let inv = all.known.once.inv in
      let port = transfer_peer world inv all.known.kinds f e p refl in
      let q = peers_flip f e p in
      let enough : supply q.there.chain.records.apps.balances (hop transfer_port over.0 ++ rest) ≤ balance q.here.chain.records.apps.balances (escrow e.channel) rest =
      (let equation = all.balanced e f q port refl rest in omega arith) in
      let at_home : escrow_balance world e rest ≡ balance q.here.chain.records.apps.balances (escrow e.channel) rest = ap (λ (o : Option MachineChain). balance (option_map_or (λ (c : MachineChain). c.records.apps.balances) o []) (escrow e.channel) rest) q.here.there in
      let at_chain : supply_at world chain denom ≡ supply q.there.chain.records.apps.balances denom = ap (λ (o : Option MachineChain). supply (option_map_or (λ (c : MachineChain). c.records.apps.balances) o []) denom) q.there.there in
      let same : supply q.there.chain.records.apps.balances denom ≡ supply q.there.chain.records.apps.balances (hop transfer_port over.0 ++ rest) =
      ap (λ d. supply q.there.chain.records.apps.balances d) whole in
      record {
        channel = over.0;
        there = rest;
        came = whole;
        peer = e;
        are_peers = peers_true world e f q;
        held = omega arith;
      }

  lemma_backed : IsBacked world chain denom
  lemma_backed = by_rank (rank over.1.0.end.state) refl
    where
      by_rank : (r : ℕ) → rank over.1.0.end.state ≡ r → IsBacked world chain denom
      by_rank zero is =
          let clear = channel_has_no_slash c.records.core (all.known.once.inv.shaped.each chain c there).core transfer_port over.0 over.1.0 over.1.1 in
          let none = ((all.unopened chain c there).untouched over.0 clear (λ n at_. ap (λ (z : Channel). rank z.end.state) (some_is at_ over.1.1) ∙ is)).made rest in
          let same = ap (λ d. supply c.records.apps.balances d) whole in
          absurd (omega arith)
      by_rank (suc r) is =
          let peer = peer_of world all.known.once.inv f over.1.0 here (omega arith) in
          lemma_backed_by peer.other (peers_of world f over.1.0 here peer)

pub lemma_no_voucher_without_escrow : NoVoucherWithoutEscrow
lemma_no_voucher_without_escrow genesis happened world chain denom past some = go (slice_get world chain) refl
  where
    all : Supplies genesis happened world
    all = lemma_supplies genesis happened world past

    go : (o : Option MachineChain) → slice_get world chain ≡ o → (is_base_denom denom ≡ true) ⊎ IsBacked world chain denom
    go (Some c) there =
        let held : 1 ≤ supply c.records.apps.balances denom = (let same = ap (λ (o : Option MachineChain). supply (option_map_or (λ (c : MachineChain). c.records.apps.balances) o []) denom) there in omega arith) in
        elim (all.came chain c there denom held) [
          | inl base ↦ inl base
          | inr over ↦ inr (lemma_backed happened world all.conserving chain denom c there over held)
        ]
    go None there =
        let none = ap (λ (o : Option MachineChain). supply (option_map_or (λ (c : MachineChain). c.records.apps.balances) o []) denom) there in
        absurd (omega arith)
