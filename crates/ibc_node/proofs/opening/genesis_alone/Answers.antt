use Rattle.std.proofs.Common.{sym, ◌∙◌}
use Rattle.ibc_node.proofs.Beside.{none_among}
use Rattle.ibc_node.proofs.opening.genesis_alone.Goals as goal

pub returns-clause-no_steps : goal.returns-clause-no_steps
returns-clause-no_steps c = sym c.as_slice.ensures.value ∙ none_among c.as_slice.result.now (sym c.is_empty.ensures ∙ c.if-not-is_empty.false)
