-- Before a channel was OPEN its escrow is empty, nothing is issued with its hop, and it has sent nothing; the step
-- that opens it keeps that.
use Rattle.std.proofs.Common.{◌≡◌, ℕ, zero, suc, true, false, ◌&&◌, if◌then◌else◌, map, ◌∷◌, refl, ap, sym, ◌∙◌, subst, [], ◌++◌, Some, arith, inl, inr, slice_get, List}
use Rattle.std.specs.List.{list_all, fold}
use Rattle.ibc_ids.specs.Texts.{Text, same_text}
use Rattle.ibc_ids.specs.Names.{is_user, is_base_denom, hop}
use Rattle.ibc_machine.specs.chain.Records.{Core, Records, MachineChain, Channel, channel_at}
use Rattle.ibc_machine.specs.ics24.Evidence.{Host}
use Rattle.ibc_machine.specs.chain.Handlers.{host_of}
use Rattle.ibc_machine.specs.ics20.Bank.{Balances, balance, with_balance, supply, escrow}
use Rattle.ibc_machine.specs.ics04.Channels.{new_channel}
use Rattle.ibc_machine.specs.chain.Genesis.{GenesisState, ChainState, Holding, is_allowed, is_fair, start, starting_chain, starting_balances}
use Rattle.ibc_machine.specs.ics20.Transfers.{transfer_port}
use Rattle.ibc_machine.specs.chain.Machine.{World}
use Rattle.ibc_machine.specs.ledger.Ledgers.{is_typed}
use Rattle.ibc_machine.specs.promises.Histories.{Happened}
use Rattle.ibc_laws.proofs.basics.PassedTests.{both}
use Rattle.ibc_laws.proofs.basics.ListPlaces.{placed, some_is}
use Rattle.ibc_laws.proofs.steps.Told.{Told, told_of}
use Rattle.ibc_laws.proofs.steps.CoreSteps.{rank}
use Rattle.ibc_laws.proofs.steps.EndSteps.{open_rank}
use Rattle.ibc_laws.proofs.steps.WorldGrowth.{ChainStep, GoodStep, chain_grows, chain_shaped}
use Rattle.ibc_laws.proofs.peers.Invariant.{Inv}
use Rattle.ibc_laws.proofs.tokens.ChainKinds.{Kinds}
use Rattle.ibc_laws.proofs.steps.MachineSteps.{Stepped, rests, moves}
use Rattle.ibc_laws.proofs.tokens.Hops.{HasNoSlash, base_has_no_slash, escrow_is_no_user}
use Rattle.ibc_machine.proofs.Measures.{Test, IsSorted, measure, measure-with_balance, sorted-with_balance}
use Rattle.ibc_laws.proofs.tokens.BalanceSteps.{starting_sorted}
use Rattle.ibc_laws.proofs.tokens.HeldAndIssued.{differ, balance_is, of_denom, escrowed_as}
use Rattle.ibc_laws.proofs.tokens.ChannelNames.{channel_has_no_slash}
use Rattle.ibc_laws.proofs.tokens.TokenShifts.{Unshifted}
use Rattle.ibc_laws.proofs.tokens.TokenEffects.{OwnEffect, does_nothing, sends_out, takes_in, turns_down, is_done, is_refused, is_over}
use Rattle.ibc_laws.proofs.tokens.KeyEffects.{KeyEffect, left_alone, opened_now, went_on, key_effect}

-- no channel of the name has been OPEN yet
abbrev pub IsUnopened : Core → Text → Type 0
IsUnopened core name = (m : Channel) → channel_at core transfer_port name ≡ Some m → rank m.end.state ≡ 0

-- the escrow of the channel is empty, and nothing is issued with its hop
pub record IsUntouched (b : Balances) (name : Text) : Type 0 where
  pub held : (denom : Text) → balance b (escrow name) denom ≡ 0
  pub made : (denom : Text) → supply b (hop transfer_port name ++ denom) ≡ 0

untouched_on : (before after : Balances) (name : Text) → IsUntouched before name → Unshifted before after name → IsUntouched after name
untouched_on before after name was shift = record {
  held = λ denom. let old = was.held denom in let x = shift.held denom in omega arith;
  made = λ denom. let old = was.made denom in let x = shift.made denom in omega arith;
}

pub record Unopened (records : Records) : Type 0 where
  pub untouched : (name : Text) → HasNoSlash name → IsUnopened records.core name → IsUntouched records.apps.balances name
  pub unsent : (name : Text) → IsUnopened records.core name → (m : Channel) → channel_at records.core transfer_port name ≡ Some m → m.commitments ≡ []

-- an end that wasn't OPEN moved no token
module _ (w : World) (host : Host) (core : Core) (name : Text) (before after : Balances) (m n : Channel) (unopened : rank m.end.state ≡ 0) where
  nothing_done : OwnEffect w host core name before after m n → Unshifted before after name × (n.commitments ≡ m.commitments)
  nothing_done (does_nothing books shift) = (shift, books.0)
  nothing_done (sends_out c is sent acks shift) = let z = open_rank m.end.state is in absurd (omega arith)
  nothing_done (takes_in p r books shift) = let z = open_rank m.end.state r.state in absurd (omega arith)
  nothing_done (turns_down p ack r bad books shift) = let z = open_rank m.end.state r.state in absurd (omega arith)
  nothing_done (is_done p s good books shift) = let z = s.settles.settled in absurd (omega arith)
  nothing_done (is_refused p s bad books shift) = let z = s.settles.settled in absurd (omega arith)
  nothing_done (is_over p s books shift) = let z = s.settles.settled in absurd (omega arith)

module _ (w : World) (host : Host) (before after : Records) (was : Unopened before) (name : Text) (unopened : IsUnopened before.core name) where
  still_untouched : HasNoSlash name → KeyEffect w host before after name → IsUntouched after.apps.balances name
  still_untouched clear (left_alone shift back) = untouched_on before.apps.balances after.apps.balances name (was.untouched name clear unopened) shift
  still_untouched clear (opened_now shift none end is) = untouched_on before.apps.balances after.apps.balances name (was.untouched name clear unopened) shift
  still_untouched clear (went_on m n there now own) =
      untouched_on before.apps.balances after.apps.balances name (was.untouched name clear unopened)
      (nothing_done w host before.core name before.apps.balances after.apps.balances m n (unopened m there) own).0

  still_unsent : KeyEffect w host before after name → (k : Channel) → channel_at after.core transfer_port name ≡ Some k → k.commitments ≡ []
  still_unsent (left_alone shift back) k is = was.unsent name unopened k (back k is)
  still_unsent (opened_now shift none end now) k is = sent_of (some_is now is)
    where
      sent_of : new_channel end ≡ k → k.commitments ≡ []
      sent_of same = ap (λ (x : Channel). x.commitments) (sym same)
  still_unsent (went_on m n there now own) k is =
      ap (λ (x : Channel). x.commitments) (some_is is now)
      ∙ (nothing_done w host before.core name before.apps.balances after.apps.balances m n (unopened m there) own).1
      ∙ was.unsent name unopened m there

-- ---- every step

module _ (chains : ℕ) (w : World) (inv : Inv w) (kinds : Kinds w) (k : ℕ) (c : MachineChain) (there : slice_get w k ≡ Some c) (was : Unopened c.records)
    (told : Told) (d : MachineChain) (step : ChainStep chains w k c told d) (good : GoodStep chains w k c told d step) where
  effect : (name : Text) → HasNoSlash name → KeyEffect w (host_of chains k c) c.records d.records name
  effect name clear = key_effect chains w k c (inv.shaped.each k c there).core (kinds.each k c there).sorted name clear told d step good

  -- what wasn't OPEN before is as it was, whatever it is now
  pub untouched_now : (name : Text) → HasNoSlash name → IsUnopened c.records.core name → IsUntouched d.records.apps.balances name
  untouched_now name clear unopened = still_untouched w (host_of chains k c) c.records d.records was name unopened clear (effect name clear)

  pub unsent_now : (name : Text) → HasNoSlash name → IsUnopened c.records.core name → (m : Channel)
      → channel_at d.records.core transfer_port name ≡ Some m → m.commitments ≡ []
  unsent_now name clear unopened m is = still_unsent w (host_of chains k c) c.records d.records was name unopened (effect name clear) m is

  -- what isn't OPEN now wasn't before
  was_unopened : (name : Text) → IsUnopened d.records.core name → IsUnopened c.records.core name
  was_unopened name unopened m is =
      let n = (chain_grows chains w k c (inv.shaped.each k c there) told d step).core.channels transfer_port name m is in
      let now = unopened n.0 n.1 in
      let up = n.2.end.ranks in
      omega arith

  pub unopened_on : Unopened d.records
  unopened_on = record {
    untouched = λ name clear unopened. untouched_now name clear (was_unopened name unopened);
    unsent = λ name unopened m is. unsent_now name
        (channel_has_no_slash d.records.core (chain_shaped chains w k c (inv.shaped.each k c there) told d step).core transfer_port name m is)
        (was_unopened name unopened) m is;
  }

pub unopened_step : (chains : ℕ) (w : World) (h : Happened) (v : World) → Inv w → Kinds w → is_typed h.0 ≡ true → Stepped chains w h v
    → ((x : ℕ) (c : MachineChain) → slice_get w x ≡ Some c → Unopened c.records) → (x : ℕ) (c : MachineChain) → slice_get v x ≡ Some c → Unopened c.records
unopened_step chains w h v inv kinds typed (rests quiet same) was x c is = was x c (subst (λ y. slice_get y x ≡ Some c) same is)
unopened_step chains w h v inv kinds typed (moves s) was x c is =
    elim (placed w s.k s.before s.now s.there x c (subst (λ y. slice_get y x ≡ Some c) s.after is)) [
      | inl here ↦ subst (λ (z : MachineChain). Unopened z.records) here.1
          (unopened_on chains w inv kinds s.k s.before s.there (was s.k s.before s.there) (told_of h) s.now s.step (s.good typed))
      | inr other ↦ was x c other.1
    ]

-- ---- the start: users hold base denominations

-- a test that no user passes with a base denomination
abbrev pub NoUsers : Test → Type 0
NoUsers test = (user denom : Text) → is_user user ≡ true → is_base_denom denom ≡ true → test (user, denom) ≡ false

no_escrow : (name denom : Text) → NoUsers (escrowed_as name denom)
no_escrow name denom user base is is_base =
    ap (λ t. t && same_text base denom) (differ user (escrow name) (λ e. escrow_is_no_user name user is (sym e)))

no_voucher : (name denom : Text) → NoUsers (of_denom (hop transfer_port name ++ denom))
no_voucher name denom user base is is_base = differ base (hop transfer_port name ++ denom)
    (λ e. absurd (cc (subst HasNoSlash e (base_has_no_slash base is_base))))

pub held_at_start : (test : Test) → NoUsers test → (all holdings : List Holding) → list_all (is_fair all) holdings ≡ true → (b : Balances) → IsSorted b
    → measure test b ≡ 0 → measure test (fold (λ balances (h : Holding). with_balance h.0 h.1 h.2 balances) b holdings) ≡ 0
held_at_start test none all [] fair b sorted zero_ = zero_
held_at_start test none all (h ∷ holdings) fair b sorted zero_ =
    let parts = both (is_fair all h) _ fair in
    let names = both (is_user h.0) (is_base_denom h.1) (both _ _ (both _ _ parts.0).0).0 in
    let fails = none h.0 h.1 names.0 names.1 in
    let step = measure-with_balance test h.0 h.1 h.2 b sorted in
    let gone = ap (λ t. if t then balance b h.0 h.1 else 0) fails in
    let new = ap (λ t. if t then h.2 else 0) fails in
    held_at_start test none all holdings parts.1 (with_balance h.0 h.1 h.2 b) (sorted-with_balance h.0 h.1 h.2 b sorted) (omega arith)

unopened_start_of : (s : ChainState) → list_all (is_fair s.balances) s.balances ≡ true → Unopened (starting_chain s).records
unopened_start_of s fair = record {
  untouched = λ name clear unopened. record {
    held = λ denom. balance_is (starting_balances s.balances) (starting_sorted s.balances) (escrow name) denom
        ∙ held_at_start (escrowed_as name denom) (no_escrow name denom) s.balances s.balances fair [] tt refl;
    made = λ denom. held_at_start (of_denom (hop transfer_port name ++ denom)) (no_voucher name denom) s.balances s.balances fair [] tt refl;
  };
  unsent = λ name unopened m is. absurd (cc is);
}

fair_chains : (genesis : GenesisState) → is_allowed genesis ≡ true
    → list_all (λ (chain : ChainState). list_all (is_fair chain.balances) chain.balances) genesis.chains ≡ true
unfolding is_allowed
fair_chains genesis allowed = (both _ _ allowed).1

fair_at : (starts : List ChainState) → list_all (λ (chain : ChainState). list_all (is_fair chain.balances) chain.balances) starts ≡ true
    → (x : ℕ) (c : MachineChain) → slice_get (map starting_chain starts) x ≡ Some c → (s : ChainState) × (starting_chain s ≡ c) × (list_all (is_fair s.balances) s.balances ≡ true)
fair_at [] fair x c e = absurd (cc e)
fair_at (s ∷ starts) fair zero c e = (s, some_is refl e, (both (list_all (is_fair s.balances) s.balances) _ fair).0)
fair_at (s ∷ starts) fair (suc x) c e = fair_at starts (both (list_all (is_fair s.balances) s.balances) _ fair).1 x c e

-- each chain begins with the balances of its own part of an allowed genesis, which are fair
abbrev pub StartsFairly : MachineChain → Type 0
StartsFairly c = (s : ChainState) × (starting_chain s ≡ c) × (list_all (is_fair s.balances) s.balances ≡ true)

pub lemma_starts_fairly : (genesis : GenesisState) → is_allowed genesis ≡ true → (x : ℕ) (c : MachineChain) → slice_get (start genesis) x ≡ Some c → StartsFairly c
lemma_starts_fairly genesis allowed = fair_at genesis.chains (fair_chains genesis allowed)

pub unopened_start : (genesis : GenesisState) → is_allowed genesis ≡ true → (x : ℕ) (c : MachineChain) → slice_get (start genesis) x ≡ Some c → Unopened c.records
unopened_start genesis allowed x c is =
    let s = lemma_starts_fairly genesis allowed x c is in
    subst (λ (z : MachineChain). Unopened z.records) s.1 (unopened_start_of s.0 s.2)
