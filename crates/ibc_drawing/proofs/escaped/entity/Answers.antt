-- Each other character stands for itself.
use Rattle.std.proofs.Common.{rules, tests}
use Rattle.ibc_drawing.proofs.escaped.entity.Goals as goal

pub returns : goal.returns
returns c = search (tests, rules)
