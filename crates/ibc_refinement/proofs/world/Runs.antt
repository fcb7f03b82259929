-- Steps of a world, one after another, refine the machine.
use Rattle.std.proofs.Common.{◌≡◌, ℕ, Bool, true, false, cond, eqb, List, [], ◌∷◌, ◌++◌, length, map, filter, refl, sym, ap, ◌∙◌, subst, Some, slice_get, arith, eqb-true, append-nil, append_assoc, inl, inr}
use Rattle.std.specs.Prelude.{nat_lt, ◌&&◌}
use Rattle.std.specs.List.{zip}
use Rattle.std.proofs.Math.Bool.{and-false}
use Rattle.std.proofs.lemmas.Bool.{cases_lt, le-ltb, lt-ltb}
use Rattle.std.proofs.lemmas.List.{map-append}
use Rattle.std.proofs.lemmas.List.Elements.{filter-append}
use Rattle.ibc_machine.specs.declared.event.Event.{Event}
use Rattle.ibc_machine.specs.declared.reply.Reply.{Reply}
use Rattle.ibc_machine.specs.declared.entry.Entry.{Entry}
use Rattle.ibc_machine.specs.chain.Records.{MachineChain}
use Rattle.ibc_machine.specs.chain.Genesis.{GenesisState, start}
use Rattle.ibc_machine.specs.ledger.Ledgers.{Ledger, SeesMore, chain_of}
use Rattle.ibc_machine.specs.ledger.Merge.{Merges}
use Rattle.ibc_machine.specs.promises.Worlds.{AreLedgersOf, AppliesIf, Applies, AppliesEach, entries, happened_by}
use Rattle.ibc_refinement.specs.Refinement.{GivesNothing, AreAnswered, GoesOn}
use Rattle.ibc_refinement.proofs.ChangedPlaces.{get_there, get_within}
use Rattle.ibc_refinement.proofs.RunOn.{going_on_is_run}
use Rattle.ibc_refinement.specs.World.{WorldState, kept_entries, IsWorld}
use Rattle.ibc_refinement.specs.Steps.{AddsIf, AddsNothing, AddsOne, IsStep, StepIsKept, AreSteps, is_answered, has_entry, StepsRefine}
use Rattle.ibc_refinement.proofs.world.Together.{one_table}
use Rattle.ibc_refinement.proofs.world.Nothing.{history_at, nothing_is_world, nothing_kept}
use Rattle.ibc_refinement.proofs.world.One.{next}
use Rattle.ibc_refinement.proofs.world.OneMore.{one_is_world, one_kept}

-- ---- ledgers that went on

abbrev pub AllGoOn : List Ledger → List Ledger → Type 0
AllGoOn old new = (k : ℕ) (before after : Ledger) → slice_get old k ≡ Some before → slice_get new k ≡ Some after → GoesOn before after

sees_goes_on : (before after : Ledger) → SeesMore before after → GoesOn before after
sees_goes_on before after w = let same = sym (append-nil before.history) in ([], w.0, w.1 ∙ (λ i. record before { history = same i; seen = before.seen ++ w.0 }))

goes_on_both : (a b c : Ledger) → GoesOn a b → GoesOn b c → GoesOn a c
goes_on_both a b c g h =
    let histories = append_assoc a.history g.0 h.0 in
    let seens = append_assoc a.seen g.1 h.1 in
    (g.0 ++ h.0, g.1 ++ h.1, h.2 ∙ ap (λ (l : Ledger). record l { history = l.history ++ h.0; seen = l.seen ++ h.1 }) g.2 ∙ (λ i. record a { history = histories i; seen = seens i }))

adds_goes_on : (event : Event) (given : Reply) (b : Bool) (before after : Ledger) → AddsIf b event given before after → GoesOn before after
adds_goes_on event given true before after w = (w.0 ∷ [], w.1, w.4)
adds_goes_on event given false before after w = sees_goes_on before after w

-- ---- one step

-- what a step leaves: the entries that it gave are behind the others
pub record Went (old : WorldState) (event : Event) (given : Reply) (new : WorldState) : Type 0 where
  pub is : IsWorld new
  pub more : List Entry
  pub kept : kept_entries new ≡ kept_entries old ++ more
  pub happened : happened_by more ≡ filter (has_entry (length old.ledgers)) ((event, given) ∷ [])
  pub answered : (events : List Event) (replies : List Reply) (rest : List Entry) → AreAnswered (length old.ledgers) events replies rest
      → AreAnswered (length old.ledgers) (event ∷ events) (given ∷ replies) (more ++ rest)
  pub each : AllGoOn old.ledgers new.ledgers
  pub applies : Applies old.ledgers event given new.ledgers

module _ (old new : WorldState) (event : Event) (given : Reply) (is : IsWorld old) (step : IsStep old event given new) where
  nothing_applies : (adds : AddsNothing old event given new) (k : ℕ) (before after : Ledger) → slice_get old.ledgers k ≡ Some before → SeesMore before after → (b : Bool) → eqb (chain_of event) k ≡ b
      → AppliesIf b event given before after
  nothing_applies adds k before after was sees true own =
      let same = eqb-true (chain_of event) k own in
      inl (adds.no_memory (omega (arith, same, get_within old.ledgers k before was)), sees)
  nothing_applies adds k before after was sees false own = sees

  went_nothing : AddsNothing old event given new → Went old event given new
  went_nothing adds = record {
    is = nothing_is_world old new event given is step adds;
    more = [];
    kept = nothing_kept old new event given is step adds ∙ sym (append-nil (kept_entries old));
    happened = ap (λ b. cond b ((event, given) ∷ []) []) (sym none);
    answered = λ events replies rest answered. inl (nothing, answered);
    each = λ k before after was now. sees_goes_on before after (adds.each k before after was now);
    applies = record {
      as_many = step.as_many;
      each = λ k before after was now. nothing_applies adds k before after was (adds.each k before after was now) (eqb (chain_of event) k) refl;
      unknown = adds.unknown;
    };
  }
    where
      none : has_entry (length old.ledgers) (event, given) ≡ false
      none = elim (cases_lt (chain_of event) (length old.ledgers)) [
        | inl low ↦ ap (λ r. nat_lt (chain_of event) (length old.ledgers) && is_answered r) (adds.no_memory low) ∙ and-false (nat_lt (chain_of event) (length old.ledgers))
        | inr past ↦ ap (λ b. b && is_answered given) (le-ltb (chain_of event) (length old.ledgers) past)
      ]

      nothing : GivesNothing (length old.ledgers) event given
      nothing = elim (cases_lt (chain_of event) (length old.ledgers)) [ inl low ↦ inl (adds.no_memory low) | inr past ↦ inr (adds.unknown past, past) ]

  one_applies : (b : Bool) (before after : Ledger) → AddsIf b event given before after → AppliesIf b event given before after
  one_applies true before after w = inr (w.0, w.1, w.2, w.3, w.4)
  one_applies false before after w = w

  went_one : AddsOne old event given new → Went old event given new
  went_one adds =
      let w = next old new event given is step adds in
      record {
        is = one_is_world old new event given is step adds;
        more = w.0.entry ∷ [];
        kept = one_kept old new event given is step adds;
        happened = (λ i. (w.2 i, w.3 i) ∷ []) ∙ ap (λ b. cond b ((event, given) ∷ []) []) (sym one);
        answered = λ events replies rest answered. inr (w.0.entry, rest, refl, w.2, w.3, answered);
        each = λ k before after was now. adds_goes_on event given (eqb (chain_of event) k) before after (adds.each k before after was now);
        applies = record {
          as_many = step.as_many;
          each = λ k before after was now. one_applies (eqb (chain_of event) k) before after (adds.each k before after was now);
          unknown = λ past. let low = adds.known in absurd (omega arith);
        };
      }
    where
      one : has_entry (length old.ledgers) (event, given) ≡ true
      one = (λ i. lt-ltb (chain_of event) (length old.ledgers) adds.known i && adds.answered i)

  pub went : Went old event given new
  went = elim (step.adds) [ inl adds ↦ went_nothing adds | inr adds ↦ went_one adds ]

pub step_is_kept : StepIsKept
step_is_kept old event given new is step = (went old new event given is step).is

-- ---- all steps

pub record AllWent (old : WorldState) (events : List Event) (replies : List Reply) (new : WorldState) : Type 0 where
  pub genesis : new.genesis ≡ old.genesis
  pub as_many : length new.ledgers ≡ length old.ledgers
  pub is : IsWorld new
  pub more : List Entry
  pub kept : kept_entries new ≡ kept_entries old ++ more
  pub happened : happened_by more ≡ filter (has_entry (length old.ledgers)) (zip events replies)
  pub answered : AreAnswered (length old.ledgers) events replies more
  pub each : AllGoOn old.ledgers new.ledgers
  pub applies : AppliesEach old.ledgers events replies new.ledgers

all_went : (events : List Event) (replies : List Reply) (old new : WorldState) → IsWorld old → AreSteps old events replies new → AllWent old events replies new
all_went [] [] old new is same = record {
  genesis = ap (λ (w : WorldState). w.genesis) same;
  as_many = ap (λ (w : WorldState). length w.ledgers) same;
  is = subst IsWorld (sym same) is;
  more = [];
  kept = ap kept_entries same ∙ sym (append-nil (kept_entries old));
  happened = refl;
  answered = refl;
  each = λ k before after was now.
      let both : Some before ≡ Some after = sym was ∙ sym (ap (λ (w : WorldState). slice_get w.ledgers k) same) ∙ now in
      let one : before ≡ after = cc in
      let whole = sym (append-nil before.seen) in
      subst (λ l. GoesOn before l) one (sees_goes_on before before ([], λ i. record before { seen = whole i }));
  applies = ap (λ (w : WorldState). w.ledgers) same;
}
all_went [] (given ∷ replies) old new is none = absurd none
all_went (event ∷ events) [] old new is none = absurd none
all_went (event ∷ events) (given ∷ replies) old new is (mid, step, later) =
    let one = went old mid event given is step in
    let rest = all_went events replies mid new one.is later in
    record {
      genesis = rest.genesis ∙ step.genesis;
      as_many = rest.as_many ∙ step.as_many;
      is = rest.is;
      more = one.more ++ rest.more;
      kept = rest.kept ∙ ap (λ xs. xs ++ rest.more) one.kept ∙ append_assoc (kept_entries old) one.more rest.more;
      happened =
          map-append (λ (e : Entry). (e.event, e.reply)) one.more rest.more
          ∙ ap (λ xs. xs ++ happened_by rest.more) one.happened
          ∙ ap (λ xs. filter (has_entry (length old.ledgers)) ((event, given) ∷ []) ++ xs) (rest.happened ∙ ap (λ n. filter (has_entry n) (zip events replies)) step.as_many)
          ∙ sym (filter-append (has_entry (length old.ledgers)) ((event, given) ∷ []) (zip events replies));
      answered = one.answered events replies rest.more (subst (λ n. AreAnswered n events replies rest.more) step.as_many rest.answered);
      each = λ k before after was now.
          let at = get_there mid.ledgers k (omega (arith, get_within old.ledgers k before was, step.as_many)) in
          goes_on_both before at.0 after (one.each k before at.0 was at.1) (rest.each k at.0 after at.1 now);
      applies = (mid.ledgers, one.applies, rest.applies);
    }

pub steps_refine : StepsRefine
steps_refine old events replies new is steps =
    let w = all_went events replies old new is steps in
    let now = w.is in
    let of = subst (λ g. AreLedgersOf g new.ledgers) w.genesis now.of in
    record {
      genesis = w.genesis;
      is = w.is;
      applies = w.applies;
      more = w.more;
      kept = w.kept;
      answered = w.happened;
      refines =
          going_on_is_run old.genesis old.ledgers new.ledgers now.publications (kept_entries old) w.more events replies is.of of
          (one_table old.genesis new.ledgers of now.publications now.seen now.within) w.each
          (λ k before was. is.merges.each k (entries before) (history_at old.ledgers k before was))
          (subst (λ (g : GenesisState). Merges g.window (map (λ (c : MachineChain). c.time) (start g)) (map entries new.ledgers) now.publications (kept_entries old ++ w.more)) w.genesis
          (subst (Merges new.genesis.window (map (λ (c : MachineChain). c.time) (start new.genesis)) (map entries new.ledgers) now.publications) w.kept now.merges))
          (subst (λ n. AreAnswered n events replies w.more) (sym w.as_many) w.answered);
    }
