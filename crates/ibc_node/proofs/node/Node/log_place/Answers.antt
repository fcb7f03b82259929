-- The marks are those of the slice.
use Rattle.std.proofs.Common.{◌∙◌, subst}
use Rattle.ibc_node.specs.Marks.{IsLastPlace}
use Rattle.ibc_node.proofs.node.Node.log_place.Goals as goal

pub returns-clause-last : goal.returns-clause-last
returns-clause-last g c = subst (λ marks. IsLastPlace marks c.last_place.result) c.as_slice.ensures.value c.last_place.ensures.last

pub returns-clause-none : goal.returns-clause-none
returns-clause-none g c none = c.last_place.ensures.none (c.as_slice.ensures.value ∙ none)
