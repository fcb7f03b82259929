-- A world's step: an event is put to a ledger, and all ledgers meet.
use Rattle.std.proofs.Common.{◌≡◌, ℕ, ◌<◌, ◌≤◌, ◌&&◌, Bool, true, false, eqb, leb, List, length, refl, sym, ap, ◌∙◌, subst, Some, slice_get, arith, ⊎_elim}
use Rattle.std.specs.Prelude.{IsTrue}
use Rattle.std.specs.List.{list_all}
use Rattle.std.proofs.lemmas.Bool.{and_parts, leb-true}
use Rattle.ibc_machine.specs.declared.event.Event.{Event}
use Rattle.ibc_machine.specs.declared.reply.Reply.{Reply}
use Rattle.ibc_machine.specs.chain.Genesis.{GenesisState, ChainState, genesis_state, has_limits, is_fair, is_allowed}
use Rattle.ibc_machine.specs.ledger.Ledgers.{Ledger, chain_of}
use Rattle.ibc_ledger.specs.LedgerModel.{LedgerModel}
use Rattle.ibc_refinement.proofs.ChangedPlaces.{get_within, get_there}
use Rattle.ibc_refinement.specs.Steps.{AddsIf, IsStep, AddsNothing, AddsOne}
use Rattle.ibc_refinement.specs.Meetings.{IsPut, HaveMet}
use Rattle.ibc_refinement.proofs.world.Meetings.{meeting_ends_step}
use Rattle.ibc_refinement.proofs.world.Runs.{step_is_kept}
use Rattle.ibc_world_core.specs.declared.world.World.TheInside.{Inside}
use Rattle.ibc_world_core.specs.WorldModel.{ledgers_alone, AllAtTable, AreNumbered, SameTables, IsPutTo}
use Rattle.ibc_world_core.specs.WorldFields.{state_of, IsSoundWorld}
use Rattle.ibc_world_core.proofs.Rounds.{plain_get, plain_length}

pub two_chains : (genesis : GenesisState) → IsTrue (is_allowed genesis) → 2 ≤ length genesis.chains
unfolding is_allowed
two_chains genesis allowed =
    let n = length genesis.chains in
    let front = and_parts (leb 2 n && leb n 8 && has_limits genesis) (list_all (λ (chain : ChainState). list_all (is_fair chain.balances) chain.balances) genesis.chains) allowed in
    leb-true 2 n (and_parts (leb 2 n) (leb n 8) (and_parts (leb 2 n && leb n 8) (has_limits genesis) front.0).0).0

same_genesis : (own : Bool) (event : Event) (given : Reply) (x y : Ledger) → AddsIf own event given x y → y.genesis ≡ x.genesis
same_genesis true event given x y adds = ap (λ (l : Ledger). l.genesis) adds.4
same_genesis false event given x y sees = ap (λ (l : Ledger). l.genesis) sees.1

module _ (w : Inside) (held : IsSoundWorld w) where
  pub numbered : AreNumbered w.ledgers.items
  numbered k h there = (held.world.of.each k h.ledger (plain_get w.ledgers.items k h there)).1

  as_chains : length w.ledgers.items ≡ length (genesis_state w.genesis.value).chains
  as_chains = sym (plain_length w.ledgers.items) ∙ held.world.of.all

  module _ (event : Event) (given : Reply) (ledgers : List LedgerModel) (order : List ℕ) (put : IsPutTo w.ledgers.items w.order.items event given ledgers order) (tables : SameTables w.ledgers.items ledgers) where
    put_here : IsPut (state_of w) event given (record { genesis = genesis_state w.genesis.value; ledgers = ledgers_alone ledgers; order = order })
    put_here = put (genesis_state w.genesis.value)

    pub as_many : length ledgers ≡ length w.ledgers.items
    as_many = sym (plain_length ledgers) ∙ put_here.as_many ∙ plain_length w.ledgers.items

    pub some_ledger : 0 < length ledgers
    some_ledger =
        let two = two_chains (genesis_state w.genesis.value) held.world.allowed in
        let a = as_many in
        let b = as_chains in
        omega arith

    was : (k : ℕ) (h : LedgerModel) → slice_get ledgers k ≡ Some h → (g : LedgerModel) × (slice_get w.ledgers.items k ≡ Some g)
    was k h there = get_there w.ledgers.items k (let low = get_within ledgers k h there in let a = as_many in omega arith)

    pub at_one_table : (h : LedgerModel) → slice_get ledgers 0 ≡ Some h → AllAtTable h.table ledgers
    at_one_table h first k x there =
        let a = was 0 h first in
        let b = was k x there in
        tables k b.0 x b.1 there ∙ held.tables a.0 a.1 k b.0 b.1 ∙ sym (tables 0 a.0 h a.1 first)

    kept : (k : ℕ) (x y : Ledger) → slice_get (ledgers_alone w.ledgers.items) k ≡ Some x → slice_get (ledgers_alone ledgers) k ≡ Some y → y.genesis ≡ x.genesis
    kept k x y before after = ⊎_elim
        (λ (adds : AddsNothing (state_of w) event given (record { genesis = genesis_state w.genesis.value; ledgers = ledgers_alone ledgers; order = order })). same_genesis false event given x y (adds.each k x y before after))
        (λ (adds : AddsOne (state_of w) event given (record { genesis = genesis_state w.genesis.value; ledgers = ledgers_alone ledgers; order = order })). same_genesis (eqb (chain_of event) k) event given x y (adds.each k x y before after))
        put_here.adds

    pub of_all_chains : (k : ℕ) (h : LedgerModel) → slice_get ledgers k ≡ Some h → length h.ledger.genesis.chains ≡ length ledgers
    of_all_chains k h there =
        let g = was k h there in
        let before = plain_get w.ledgers.items k g.0 g.1 in
        let same = kept k g.0.ledger h.ledger before (plain_get ledgers k h there) ∙ (held.world.of.each k g.0.ledger before).0 in
        ap (λ (genesis : GenesisState). length genesis.chains) same ∙ sym as_chains ∙ sym as_many

    module _ (now : List LedgerModel) (met : HaveMet (ledgers_alone ledgers) (ledgers_alone now)) where
      pub stepped : IsStep (state_of w) event given (record { genesis = genesis_state w.genesis.value; ledgers = ledgers_alone now; order = order })
      stepped = meeting_ends_step (state_of w) (record { genesis = genesis_state w.genesis.value; ledgers = ledgers_alone ledgers; order = order }) _ event given put_here met refl

      pub still_held : (new : Inside) → new.genesis ≡ w.genesis → new.ledgers.items ≡ now → new.order.items ≡ order → ((h : LedgerModel) → slice_get ledgers 0 ≡ Some h → AllAtTable h.table now) → IsSoundWorld new
      still_held new genesis is_now is_order all = record {
        world = step_is_kept (state_of w) event given (state_of new) held.world (subst (λ (z : (GenesisState × List LedgerModel) × List ℕ). IsStep (state_of w) event given (record { genesis = z.0.0; ledgers = ledgers_alone z.0.1; order = z.1 }))
            (λ i. ((genesis_state ((sym genesis i).value), sym is_now i), sym is_order i)) stepped);
        tables = λ h first k x there.
            let a = get_there ledgers 0 some_ledger in
            let here = subst (AllAtTable a.0.table) (sym is_now) (all a.0 a.1) in
            here k x there ∙ sym (here 0 h first);
      }
