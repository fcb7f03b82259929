-- Events that are put to a world one after another.
use Rattle.std.proofs.Common.{◌≡◌, [], ◌∷◌, ◌++◌, List, length, refl, sym, ap, subst, ◌∙◌, append_assoc, append-nil, arith}
use Rattle.ibc_machine.specs.declared.event.Event.{Event}
use Rattle.ibc_machine.specs.declared.reply.Reply.{Reply}
use Rattle.ibc_refinement.specs.World.{WorldState, IsWorld}
use Rattle.ibc_refinement.specs.Steps.{IsStep, AreSteps, GoesOnBy}
use Rattle.ibc_refinement.proofs.world.Meetings.{steps_go_on}
use Rattle.ibc_refinement.proofs.world.Runs.{steps_refine}

-- so many events are done, and the others are left
pub record HasRun (old : WorldState) (all done left : List Event) (replies : List Reply) (now : WorldState) : Type 0 where
  pub steps : AreSteps old done replies now
  pub events : done ++ left ≡ all

module _ (old : WorldState) (all : List Event) where
  pub none_has_run : (left : List Event) (replies : List Reply) → left ≡ all → replies ≡ [] → HasRun old all [] left replies old
  none_has_run left replies same none = record {
    steps = subst (λ r. AreSteps old [] r old) (sym none) refl;
    events = same;
  }

  pub one_more_has_run : (done left rest : List Event) (event : Event) (replies after : List Reply) (given : Reply) (mid new : WorldState) → HasRun old all done left replies mid
      → left ≡ event ∷ rest → after ≡ replies ++ given ∷ [] → IsStep mid event given new → HasRun old all (done ++ event ∷ []) rest after new
  one_more_has_run done left rest event replies after given mid new so_far next more step = record {
    steps = subst (λ r. AreSteps old (done ++ event ∷ []) r new) (sym more) (steps_go_on old mid new done replies event given so_far.steps step);
    events = append_assoc done (event ∷ []) rest ∙ ap (λ l. done ++ l) (sym next) ∙ so_far.events;
  }

  nothing_left : (left : List Event) → length left ≡ 0 → left ≡ []
  nothing_left [] none = refl
  nothing_left (event ∷ left) none = absurd (omega arith)

  pub all_have_run : (done left : List Event) (replies : List Reply) (new : WorldState) → IsWorld old → HasRun old all done left replies new → length left ≡ 0 → GoesOnBy old all replies new
  all_have_run done left replies new is so_far none =
      let whole = sym (append-nil done) ∙ ap (λ l. done ++ l) (sym (nothing_left left none)) ∙ so_far.events in
      steps_refine old all replies new is (subst (λ l. AreSteps old l replies new) whole so_far.steps)
