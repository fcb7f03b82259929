-- Where a genesis is given, the texts are the same, or they differ.
use Rattle.std.proofs.Common.{option_copied, sym, ◌∙◌, subst}
use Rattle.ibc_node.specs.Nodes.{IsGiven}
use Rattle.ibc_node.proofs.GivenTexts.{given_is, given_is_not}
use Rattle.ibc_node.proofs.opening.judge.Goals as goal

pub returns-clause-asked : goal.returns-clause-asked
returns-clause-asked c =
    subst (IsGiven (option_copied c.args.genesis)) c.as_slice.ensures.value
    (given_is (option_copied c.args.genesis) c.as_slice.result.now (sym c.is_given.ensures ∙ c.if-not-is_given.false))

pub returns-then-not-is_given-clause-faults : goal.returns-then-not-is_given-clause-faults
returns-then-not-is_given-clause-faults c is =
    given_is_not (option_copied c.args.genesis) c.as_slice.result.now (sym c.is_given.ensures ∙ c.if-not-is_given.true)
    (subst (IsGiven (option_copied c.args.genesis)) (sym c.as_slice.ensures.value) is)
