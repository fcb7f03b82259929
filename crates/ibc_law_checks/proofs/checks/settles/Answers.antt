-- Which chain it is doesn't matter.
use Rattle.std.proofs.Common.{◌∙◌, sym, ap}
use Rattle.ibc_machine.specs.promises.Laws.{settles}
use Rattle.ibc_law_checks.proofs.checks.settles.Goals as goal

pub returns-in-Message : goal.returns-in-Message
returns-in-Message c = c.is_settling.ensures 0 ∙ sym (ap settles c.in-Message.is)
