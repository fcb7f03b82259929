-- The totals of a channel by what stands at its two ends.
use Rattle.std.proofs.Common.{◌≡◌, ℕ, ◌<◌, ◌≤◌, ◌^◌, ◌&&◌, Bool, true, false, ltb, leb, length, ◌++◌, List, [], refl, sym, ap, ◌∙◌, Option, Some, None, Ok, Err, option_map, slice_get, if◌then◌else◌, ◌⊎◌, inl, inr, subst, MatchOption}
use Rattle.std.proofs.lemmas.Option.{slice_get-map}
use Rattle.std.specs.Option.{option_map_or, option_and_then, unwrap_or}
use Rattle.std.proofs.lemmas.Bool.{lt-ltb, le-ltb}
use Rattle.ibc_ids.specs.Texts.{Text}
use Rattle.ibc_ids.specs.Names.{hop}
use Rattle.ibc_ids.specs.declared.refusal.Refusal.TheVariants.{NoMemory, UnknownChain, UnknownChannel, WrongState, WrongPeer, TooLarge, BadMessage}
use Rattle.ibc_ids.specs.declared.refusal.Refusal.{Refusal}
use Rattle.ibc_wire.specs.declared.records.ChannelEnd.{ChannelEnd}
use Rattle.ibc_machine.specs.chain.Records.{Core, MachineChain, Client, Channel, Records, client_at, channel_at}
use Rattle.ibc_machine.specs.ics04.Channels.{is_established, client_of, peer_channel_of}
use Rattle.ibc_machine.specs.ics20.Bank.{Balances, balance, supply, escrow}
use Rattle.ibc_machine.specs.chain.Checks.{Checked, require, go_on, and_then, ◌>>◌}
use Rattle.ibc_machine.specs.ics20.Transfers.{transfer_port, came_over}
use Rattle.ibc_machine.specs.chain.Machine.{World}
use Rattle.ibc_machine.specs.promises.Histories.{End}
use Rattle.ibc_machine.specs.ledger.Ledgers.{Ledger, state_of, machine_of}
use Rattle.ibc_machine.specs.promises.Peers.{records_of, end_at}
use Rattle.ibc_machine.specs.promises.Totals.{Totals, totals, totals_between, peer_at, are_bounded, balances_of, flight_between}
use Rattle.ibc_world_core.specs.Totals.{IsOwnEnd, IsPeerEnd, StandsAt, AnswersWith, named_end, tracked_over, peer_amounts}

-- ---- what stands at a chain that is there

module _ (world : World) (k : ℕ) (chain : MachineChain) (there : slice_get world k ≡ Some chain) where
  pub its_records : records_of world k ≡ Some chain.records
  its_records = ap (option_map (λ (c : MachineChain). c.records)) there

  pub its_end : (port channel : Text) → end_at world (record { chain = k; port = port; channel = channel }) ≡ channel_at chain.records.core port channel
  its_end port channel = ap (option_and_then (λ (r : Records). channel_at r.core port channel)) its_records

  its_balances : balances_of world k ≡ chain.records.apps.balances
  its_balances = ap (λ (o : Option MachineChain). option_map_or (λ (c : MachineChain). c.records.apps.balances) o []) there

-- ---- the checks that stand before the sums

module _ (world : World) (chain : ℕ) (channel denom : Text) where
  pub no_chain : slice_get world chain ≡ None → totals world chain channel denom ≡ Err UnknownChain
  unfolding totals go_on and_then
  no_chain gone = let e : records_of world chain ≡ None = ap (option_map (λ (c : MachineChain). c.records)) gone in rw e refl

  module _ (ledger : Ledger) (of : slice_get world chain ≡ Some (state_of ledger).chain) where
    pub no_channel : channel_at (state_of ledger).chain.records.core transfer_port channel ≡ None → totals world chain channel denom ≡ Err UnknownChannel
    unfolding totals go_on and_then
    no_channel gone = let e = its_records world chain (state_of ledger).chain of in rw e (rw gone refl)

    module _ (mine : Channel) (end : channel_at (state_of ledger).chain.records.core transfer_port channel ≡ Some mine) where
      pub not_established : is_established mine ≡ false → totals world chain channel denom ≡ Err WrongState
      unfolding totals go_on and_then
      not_established other = let e = its_records world chain (state_of ledger).chain of in rw e (rw end (rw other refl))

      pub its_own : is_established mine ≡ true → came_over transfer_port channel denom ≡ true → totals world chain channel denom ≡ Err BadMessage
      unfolding totals go_on and_then
      its_own established own = let e = its_records world chain (state_of ledger).chain of in rw e (rw end (rw established (rw own refl)))

-- ---- the sums

abbrev end_of : ℕ → Text → Text → End
end_of chain port channel = record { chain = chain; port = port; channel = channel }

third_fails : (a b c d : Bool) → c ≡ false → (a && b && c && d) ≡ false
third_fails true true c d e = rw e refl
third_fails true false c d e = refl
third_fails false b c d e = refl

fourth_fails : (a b c d : Bool) → d ≡ false → (a && b && c && d) ≡ false
fourth_fails true true true d e = e
fourth_fails true true false d e = refl
fourth_fails true false c d e = refl
fourth_fails false b c d e = refl

all_hold : (a b c d : Bool) → a ≡ true → b ≡ true → c ≡ true → d ≡ true → (a && b && c && d) ≡ true
all_hold a b c d i j k l = rw i (rw j (rw k l))

both : (b : Bool) (x y : ℕ) → ◌≡◌ {A = ℕ × ℕ} (if b then (x, y) else (0, 0)) (if b then x else 0, if b then y else 0)
both true x y = refl
both false x y = refl

passes : (t : Totals) → are_bounded t ≡ true → (require (are_bounded t) TooLarge >> Ok t) ≡ Ok t
unfolding and_then
passes t e = rw e refl

stops : (t : Totals) → are_bounded t ≡ false → (require (are_bounded t) TooLarge >> Ok t) ≡ Err TooLarge
unfolding and_then
stops t e = rw e refl

module _ (world : World) (chain : ℕ) (channel denom : Text) (ledger : Ledger) (mine : Channel) (of : StandsAt world chain ledger) (own : IsOwnEnd channel denom ledger mine) where
  abbrev core : Core
  core = (state_of ledger).chain.records.core

  pub no_peer : peer_at world core mine ≡ None → totals world chain channel denom ≡ Err WrongPeer
  unfolding totals go_on and_then
  no_peer gone = let e = its_records world chain (state_of ledger).chain of in rw e (rw own.end (rw own.established (rw own.not_its_own (rw gone refl))))

  module _ (place : ℕ) (peer : Ledger) (name : Text) (theirs : Channel) (tracked : tracked_over ledger mine ≡ Some place) (there : StandsAt world place peer) (p : IsPeerEnd mine peer name theirs) where
    abbrev e : End
    e = end_of chain transfer_port channel

    abbrev f : End
    f = end_of place mine.end.peer_port name

    own_there : end_at world e ≡ Some mine
    own_there = its_end world chain (state_of ledger).chain of transfer_port channel ∙ own.end

    peer_there : end_at world f ≡ Some theirs
    peer_there = its_end world place (state_of peer).chain there mine.end.peer_port name ∙ p.end

    named : (o : Option Client) → option_map (λ (c : Client). c.state.chain) o ≡ Some place
        → option_map (λ (c : Client). end_of c.state.chain mine.end.peer_port (peer_channel_of mine.end)) o ≡ Some f
    named None is = absurd cc
    named (Some c) is =
        let same : c.state.chain ≡ place = cc in
        ap (λ (n : ℕ). Some (end_of n mine.end.peer_port (peer_channel_of mine.end))) same
        ∙ ap (λ (o : Option Text). Some (end_of place mine.end.peer_port (unwrap_or o []))) p.named

    pub found : peer_at world core mine ≡ Some f
    found =
        ap (option_and_then (λ (g : End). option_map (λ (t : Channel). g) (end_at world g))) (named (client_at core (client_of core mine.end.connection)) tracked)
        ∙ ap (option_map (λ (t : Channel). f)) peer_there

    abbrev far : ℕ × ℕ
    far = peer_amounts (state_of peer).chain mine name theirs denom

    abbrev counted : Totals
    counted = record {
      escrow = balance (state_of ledger).chain.records.apps.balances (escrow channel) denom;
      vouchers = far.0;
      out = flight_between denom (Some mine) (Some theirs);
      back = far.1;
    }

    abbrev longer : Text
    longer = hop mine.end.peer_port name ++ denom

    abbrev fits : Bool
    fits = leb (length longer) 256

    between : totals_between world e f denom ≡ counted
    between =
        let apart = both fits (supply (state_of peer).chain.records.apps.balances longer) (flight_between longer (Some theirs) (Some mine)) in
        let held : (if fits then supply (balances_of world place) longer else 0) ≡ far.0 =
        ap (λ (b : Balances). if fits then supply b longer else 0) (its_balances world place (state_of peer).chain there) ∙ sym (ap (λ (x : ℕ × ℕ). x.0) apart) in
        let back : (if fits then flight_between longer (end_at world f) (end_at world e) else 0) ≡ far.1 =
        ap (λ (x : Option Channel × Option Channel). if fits then flight_between longer x.0 x.1 else 0) (λ i. (peer_there i, own_there i)) ∙ sym (ap (λ (x : ℕ × ℕ). x.1) apart) in
        λ i. record {
          escrow = balance (its_balances world chain (state_of ledger).chain of i) (escrow channel) denom;
          vouchers = held i;
          out = flight_between denom (own_there i) (peer_there i);
          back = back i;
        }

    judged : totals world chain channel denom ≡ (require (are_bounded (totals_between world e f denom)) TooLarge >> Ok (totals_between world e f denom))
    unfolding totals go_on and_then
    judged = let r = its_records world chain (state_of ledger).chain of in rw r (rw own.end (rw own.established (rw own.not_its_own (rw found refl))))

    judged_so : totals world chain channel denom ≡ (require (are_bounded counted) TooLarge >> Ok counted)
    judged_so = judged ∙ ap (λ (t : Totals). require (are_bounded t) TooLarge >> Ok t) between

    pub too_much_out : 2 ^ 128 ≤ flight_between denom (Some mine) (Some theirs) → totals world chain channel denom ≡ Err TooLarge
    too_much_out past =
        judged_so ∙ stops counted (third_fails (ltb counted.escrow (2 ^ 128)) (ltb counted.vouchers (2 ^ 128)) (ltb counted.out (2 ^ 128)) (ltb counted.back (2 ^ 128)) (le-ltb counted.out (2 ^ 128) past))

    pub too_much_back : 2 ^ 128 ≤ far.1 → totals world chain channel denom ≡ Err TooLarge
    too_much_back past =
        judged_so ∙ stops counted (fourth_fails (ltb counted.escrow (2 ^ 128)) (ltb counted.vouchers (2 ^ 128)) (ltb counted.out (2 ^ 128)) (ltb counted.back (2 ^ 128)) (le-ltb counted.back (2 ^ 128) past))

    pub answered : (t : Totals) → t.escrow < 2 ^ 128 → t.vouchers < 2 ^ 128 → t.out < 2 ^ 128 → t.back < 2 ^ 128
        → t.escrow ≡ counted.escrow → (t.vouchers, t.back) ≡ far → t.out ≡ counted.out → totals world chain channel denom ≡ Ok t
    answered t a b c d escrow away out =
        let same : counted ≡ t = λ i. record { escrow = sym escrow i; vouchers = (sym away i).0; out = sym out i; back = (sym away i).1 } in
        judged_so ∙ ap (λ (t : Totals). require (are_bounded t) TooLarge >> Ok t) same
        ∙ passes t (all_hold (ltb t.escrow (2 ^ 128)) (ltb t.vouchers (2 ^ 128)) (ltb t.out (2 ^ 128)) (ltb t.back (2 ^ 128)) (lt-ltb t.escrow (2 ^ 128) a) (lt-ltb t.vouchers (2 ^ 128) b) (lt-ltb t.out (2 ^ 128) c) (lt-ltb t.back (2 ^ 128) d))

-- ---- by the ledgers of a world

pub chain_there : (ledgers : List Ledger) (k : ℕ) (ledger : Ledger) → slice_get ledgers k ≡ Some ledger → slice_get (machine_of ledgers) k ≡ Some (state_of ledger).chain
chain_there ledgers k ledger there = slice_get-map (λ (l : Ledger). (state_of l).chain) ledgers k ∙ ap (option_map (λ (l : Ledger). (state_of l).chain)) there

pub chain_gone : (ledgers : List Ledger) (k : ℕ) → slice_get ledgers k ≡ None → slice_get (machine_of ledgers) k ≡ None
chain_gone ledgers k gone = slice_get-map (λ (l : Ledger). (state_of l).chain) ledgers k ∙ ap (option_map (λ (l : Ledger). (state_of l).chain)) gone

-- ---- the peer that is named

-- what was asked of the end is asked of the channel
pub tracked_as : (core : Core) (mine : Channel) (end : ChannelEnd) (answer : Option ℕ) → end ≡ mine.end
    → answer ≡ option_map (λ (c : Client). c.state.chain) (client_at core (client_of core end.connection))
    → option_map (λ (c : Client). c.state.chain) (client_at core (client_of core mine.end.connection)) ≡ answer
tracked_as core mine end answer same is = sym (is ∙ ap (λ (e : ChannelEnd). option_map (λ (c : Client). c.state.chain) (client_at core (client_of core e.connection))) same)

-- ---- where no peer is found

module _ (world : World) (core : Core) (mine : Channel) where
  abbrev client : Option Client
  client = client_at core (client_of core mine.end.connection)

  abbrev at_chain : ℕ → End
  at_chain k = end_of k mine.end.peer_port (peer_channel_of mine.end)

  tracked_then : (k : ℕ) (o : Option Client) → option_map (λ (c : Client). c.state.chain) o ≡ Some k → option_map (λ (c : Client). at_chain c.state.chain) o ≡ Some (at_chain k)
  tracked_then k None is = absurd cc
  tracked_then k (Some c) is = let same : c.state.chain ≡ k = cc in ap (λ (n : ℕ). Some (at_chain n)) same

  untracked_then : (o : Option Client) → option_map (λ (c : Client). c.state.chain) o ≡ None → option_map (λ (c : Client). at_chain c.state.chain) o ≡ None
  untracked_then None is = refl
  untracked_then (Some c) is = absurd cc

  abbrev stands_there : Option End → Option End
  stands_there = option_and_then (λ (f : End). option_map (λ (t : Channel). f) (end_at world f))

  pub untracked : option_map (λ (c : Client). c.state.chain) client ≡ None → peer_at world core mine ≡ None
  untracked none = ap stands_there (untracked_then client none)

  not_there : (k : ℕ) → option_map (λ (c : Client). c.state.chain) client ≡ Some k → end_at world (at_chain k) ≡ None → peer_at world core mine ≡ None
  not_there k tracked gone = ap stands_there (tracked_then k client tracked) ∙ ap (option_map (λ (t : Channel). at_chain k)) gone

  no_end : (k : ℕ) → slice_get world k ≡ None → end_at world (at_chain k) ≡ None
  no_end k gone = ap (λ (o : Option MachineChain). option_and_then (λ (r : Records). channel_at r.core mine.end.peer_port (peer_channel_of mine.end)) (option_map (λ (c : MachineChain). c.records) o)) gone

  pub no_ledger : (k : ℕ) → option_map (λ (c : Client). c.state.chain) client ≡ Some k → slice_get world k ≡ None → peer_at world core mine ≡ None
  no_ledger k tracked gone = not_there k tracked (no_end k gone)

  pub none_named : (k : ℕ) (peer : Ledger) → option_map (λ (c : Client). c.state.chain) client ≡ Some k → StandsAt world k peer → named_end peer mine ≡ None → peer_at world core mine ≡ None
  none_named k peer tracked there gone =
      not_there k tracked (its_end world k (state_of peer).chain there mine.end.peer_port (peer_channel_of mine.end) ∙ gone)

-- ---- by the end that was found of a ledger

module _ (ledger : Ledger) (channel denom : Text) (held : Ledger) (name : Text) (mine : Channel) (own : IsOwnEnd name denom held mine) (ledger_is : held ≡ ledger) (name_is : name ≡ channel) where
  pub own_of : IsOwnEnd channel denom ledger mine
  own_of = subst (λ (n : Text). IsOwnEnd n denom ledger mine) name_is (subst (λ (l : Ledger). IsOwnEnd name denom l mine) ledger_is own)

  pub tracked_of : {o : Option ℕ} → tracked_over held mine ≡ o → tracked_over ledger mine ≡ o
  tracked_of {o} is = subst (λ (l : Ledger). tracked_over l mine ≡ o) ledger_is is

  module _ (world : World) (chain : ℕ) (of : StandsAt world chain ledger) where
    pub without_client : tracked_over held mine ≡ None → totals world chain channel denom ≡ Err WrongPeer
    without_client none =
        no_peer world chain channel denom ledger mine of own_of (untracked world (state_of ledger).chain.records.core mine (tracked_of none))

    pub without_ledger : (k : ℕ) → tracked_over held mine ≡ Some k → slice_get world k ≡ None → totals world chain channel denom ≡ Err WrongPeer
    without_ledger k tracked gone =
        no_peer world chain channel denom ledger mine of own_of (no_ledger world (state_of ledger).chain.records.core mine k (tracked_of tracked) gone)

    pub with_peer : {answer : Checked Totals} (k : ℕ) (peer : Ledger) → tracked_over held mine ≡ Some k → StandsAt world k peer → AnswersWith held mine peer name denom answer → totals world chain channel denom ≡ answer
    with_peer {answer} k peer tracked there so =
        subst (λ (n : Text). totals world chain n denom ≡ answer) name_is
        (so world chain k (subst (λ (l : Ledger). StandsAt world chain l) (sym ledger_is) of) tracked there)

-- ---- refusals

pub or_memory : {P Q : Type 0} (x : Refusal) → (P → Q) → (x ≡ NoMemory) ⊎ P → (x ≡ NoMemory) ⊎ Q
or_memory x says (inl memory) = inl memory
or_memory x says (inr so) = inr (says so)

pub or_last : {P Q R : Type 0} (x : Refusal) → (P → R) → (x ≡ NoMemory) ⊎ P → (x ≡ NoMemory) ⊎ Q ⊎ R
or_last x says (inl memory) = inl memory
or_last x says (inr so) = inr (inr (says so))

pub too_large : {P : Type 0} (Q : Refusal → Type 0) (x : Refusal) → (P → Q TooLarge) → (x ≡ NoMemory) ⊎ ((x ≡ TooLarge) × P) → (x ≡ NoMemory) ⊎ Q x
too_large Q x says (inl memory) = inl memory
too_large Q x says (inr (is, past)) = inr (subst Q (sym is) (says past))

-- ---- what is said by cases of an option

pub said : {A : Type 0} (P : Type 0) (Q : A → Type 0) (o : Option A) (a : A) → o ≡ Some a → MatchOption o P Q → Q a
said {A} P Q o a is m = subst (λ (x : Option A). MatchOption x P Q) is m

pub said_none : {A : Type 0} (P : Type 0) (Q : A → Type 0) (o : Option A) → o ≡ None → MatchOption o P Q → P
said_none {A} P Q o is m = subst (λ (x : Option A). MatchOption x P Q) is m
