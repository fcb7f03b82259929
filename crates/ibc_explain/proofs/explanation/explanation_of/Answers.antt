-- The entry is the one at the place.
use Rattle.std.proofs.Common.{Option, Some, refl, subst}
use Rattle.ibc_explain.specs.Explanations.{IsToldBy}
use Rattle.ibc_machine.specs.declared.entry.Entry.{Entry}
use Rattle.ibc_explain.proofs.explanation.explanation_of.Goals as goal

pub returns-in_ok-told-in-Some : goal.returns-in_ok-told-in-Some
returns-in_ok-told-in-Some c =
    subst (λ (o : Option Entry). IsToldBy c.args.place o (Some c.in_ok-told-in-Some.told)) c.in-Some.ensures
    (c.in_ok-told-in-Some.told, refl, c.in_ok-told-in-Some.ensures)
