-- A script is good where nothing was found.
use Rattle.std.proofs.Common.{sym, ◌∙◌}
use Rattle.serde_json.specs.View.{view}
use Rattle.ibc_lab.proofs.Verdicts.{verdict_good, verdict_bad}
use Rattle.ibc_lab.proofs.checking.verdict_of.Goals as goal

pub returns-then-is_empty : goal.returns-then-is_empty
returns-then-is_empty c =
    verdict_good (view c.args._value.now) c.args.script c.args.faults c.requires.script c.requires.faults (sym c.is_empty.ensures ∙ c.if-is_empty.true)

pub returns-else-is_empty : goal.returns-else-is_empty
returns-else-is_empty c =
    verdict_bad (view c.args._value.now) c.args.script c.args.faults c.requires.script c.requires.faults (sym c.is_empty.ensures ∙ c.if-is_empty.false)
