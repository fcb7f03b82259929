use Rattle.std.proofs.Common.{◌≡◌, ◌<◌, ℕ, List, [], ◌∷◌, length, Some, refl, sym, ◌∙◌, subst, arith}
use Rattle.std.specs.Prelude.{slice_get}
use Rattle.std.specs.Vec.{with_items}
use Rattle.std.proofs.lemmas.List.{with_items_is}
use Rattle.ibc_world_core.specs.declared.world.World.TheInside.{Inside}
use Rattle.ibc_world_core.proofs.Rounds.{plain_length}
use Rattle.ibc_machine.specs.chain.Genesis.{genesis_state}
use Rattle.ibc_world_core.specs.WorldFields.{state_of}
use Rattle.ibc_ledger.specs.LedgerModel.{LedgerModel}
use Rattle.ibc_refinement.specs.World.{WorldState, IsWorld}
use Rattle.ibc_refinement.specs.Steps.{IsStep}
use Rattle.ibc_refinement.specs.Meetings.{HaveMet}
use Rattle.ibc_world_core.specs.WorldModel.{ledgers_alone, AllAtTable, AreNumbered, SameTables, IsPutTo}
use Rattle.ibc_refinement.proofs.world.Together.{order_is_run}
use Rattle.ibc_refinement.proofs.world.Runs.{steps_refine}
use Rattle.ibc_world_core.proofs.WorldSteps.{numbered, as_many, some_ledger, at_one_table, of_all_chains, stepped, still_held}
use Rattle.ibc_world_core.proofs.world.World.step.Goals as goal

pub put-reply-requires : goal.put-reply-requires
put-reply-requires c = subst AreNumbered (sym c.as_mut_slice.ensures.value) (numbered c.self.inside c.self.invariant)

module _ (c : goal.After-as_mut_slice-2) where
  put : IsPutTo c.self.inside.ledgers.items c.self.inside.order.items c.args.event c.put-reply.result c.put-reply.new.ledgers c.put-reply.new.order.items
  put = subst (λ (l : List LedgerModel). IsPutTo l c.self.inside.order.items c.args.event c.put-reply.result c.put-reply.new.ledgers c.put-reply.new.order.items) c.as_mut_slice.ensures.value c.put-reply.ensures.put

  tables : SameTables c.self.inside.ledgers.items c.put-reply.new.ledgers
  tables = subst (λ (l : List LedgerModel). SameTables l c.put-reply.new.ledgers) c.as_mut_slice.ensures.value c.put-reply.ensures.tables

  as_long : length c.put-reply.new.ledgers ≡ c.self.inside.ledgers.len
  as_long =
      let a = as_many c.self.inside c.self.invariant c.args.event c.put-reply.result c.put-reply.new.ledgers c.put-reply.new.order.items put tables in
      omega (arith, a, c.self.inside.ledgers.ok.0)

  -- the slice that meets is what was put
  meeting : c.as_mut_slice-2.result.now ≡ c.put-reply.new.ledgers
  meeting = c.as_mut_slice-2.ensures.value ∙ with_items_is c.self.inside.ledgers c.put-reply.new.ledgers as_long

pub meet_all-requires-clause-some : goal.meet_all-requires-clause-some
meet_all-requires-clause-some c =
    subst (λ (l : List LedgerModel). 0 < length l) (sym (meeting c))
    (some_ledger c.self.inside c.self.invariant c.args.event c.put-reply.result c.put-reply.new.ledgers c.put-reply.new.order.items (put c) (tables c))

pub meet_all-requires-clause-tables : goal.meet_all-requires-clause-tables
meet_all-requires-clause-tables c =
    subst (λ (l : List LedgerModel). (h : LedgerModel) → slice_get l 0 ≡ Some h → AllAtTable h.table l) (sym (meeting c))
    (at_one_table c.self.inside c.self.invariant c.args.event c.put-reply.result c.put-reply.new.ledgers c.put-reply.new.order.items (put c) (tables c))

pub meet_all-requires-clause-chains : goal.meet_all-requires-clause-chains
meet_all-requires-clause-chains c =
    subst (λ (l : List LedgerModel). (k : ℕ) (h : LedgerModel) → slice_get l k ≡ Some h → length h.ledger.genesis.chains ≡ length l) (sym (meeting c))
    (of_all_chains c.self.inside c.self.invariant c.args.event c.put-reply.result c.put-reply.new.ledgers c.put-reply.new.order.items (put c) (tables c))

module _ (c : goal.After-self-2-1) where
  abbrev put_before : goal.After-as_mut_slice-2
  put_before = c.before.before

  met : HaveMet (ledgers_alone c.put-reply.new.ledgers) (ledgers_alone c.meet_all.new.ledgers)
  met = subst (λ (l : List LedgerModel). HaveMet (ledgers_alone l) (ledgers_alone c.meet_all.new.ledgers)) (meeting put_before) c.meet_all.ensures.met

  met_tables : (h : LedgerModel) → slice_get c.put-reply.new.ledgers 0 ≡ Some h → AllAtTable h.table c.meet_all.new.ledgers
  met_tables = subst (λ (l : List LedgerModel). (h : LedgerModel) → slice_get l 0 ≡ Some h → AllAtTable h.table c.meet_all.new.ledgers) (meeting put_before) c.meet_all.ensures.tables

  put_items : (with_items c.self.inside.ledgers c.put-reply.new.ledgers).items ≡ c.put-reply.new.ledgers
  put_items = with_items_is c.self.inside.ledgers c.put-reply.new.ledgers (as_long put_before)

  items : (with_items (with_items c.self.inside.ledgers c.put-reply.new.ledgers) c.meet_all.new.ledgers).items ≡ c.meet_all.new.ledgers
  items =
      let same = met.as_many in
      let one = plain_length c.meet_all.new.ledgers in
      let two = plain_length c.put-reply.new.ledgers in
      with_items_is (with_items c.self.inside.ledgers c.put-reply.new.ledgers) c.meet_all.new.ledgers (omega (arith, same, one, two, as_long put_before))

  abbrev after : Inside
  after = record c.self.inside { ledgers = with_items (with_items c.self.inside.ledgers c.put-reply.new.ledgers) c.meet_all.new.ledgers; order = c.put-reply.new.order }

pub invariant_of-self : goal.invariant_of-self
invariant_of-self c =
    still_held c.self.inside c.self.invariant c.args.event c.put-reply.result c.put-reply.new.ledgers c.put-reply.new.order.items (put (put_before c)) (tables (put_before c)) c.meet_all.new.ledgers (met c)
    (after c) refl (items c) refl (met_tables c)

module _ (c : goal.After-self-2-1) where
  step_here : IsStep c.args.self.now c.args.event c.put-reply.result (state_of (after c))
  step_here =
      subst (λ (s : WorldState). IsStep s c.args.event c.put-reply.result (state_of (after c))) c.self.view_is
      (subst (λ (l : List LedgerModel). IsStep (state_of c.self.inside) c.args.event c.put-reply.result (record { genesis = genesis_state c.self.inside.genesis.value; ledgers = ledgers_alone l; order = c.put-reply.new.order.items })) (sym (items c))
      (stepped c.self.inside c.self.invariant c.args.event c.put-reply.result c.put-reply.new.ledgers c.put-reply.new.order.items (put (put_before c)) (tables (put_before c)) c.meet_all.new.ledgers (met c)))

pub returns-clause-step : goal.returns-clause-step
returns-clause-step c = step_here c

pub returns-clause-runs : goal.returns-clause-runs
returns-clause-runs c =
    let is = subst IsWorld c.self.view_is c.self.invariant.world in
    steps_refine c.args.self.now (c.args.event ∷ []) (c.put-reply.result ∷ []) (state_of (after c)) is (state_of (after c), step_here c, refl)

pub returns-clause-past : goal.returns-clause-past
returns-clause-past c = order_is_run (state_of (after c)) (invariant_of-self c).world
