-- Faults that were found stay, and where there are none, one is noted.
use Rattle.std.proofs.Common.{sym, ◌∙◌}
use Rattle.ibc_lab.proofs.Verdicts.{empty, filled, one_added, some_stay}
use Rattle.ibc_lab.proofs.checking.need_one.Goals as goal

pub returns-then-not-is_empty : goal.returns-then-not-is_empty
returns-then-not-is_empty c =
    some_stay c.args.faults.now.items (filled c.args.faults.now (sym c.is_empty.ensures ∙ c.if-not-is_empty.true))

pub returns : goal.returns
returns c =
    one_added c.args.faults.now.items c.note.new.found.items c.of.result c.note.result c.of.ensures
    (empty c.args.faults.now (sym c.is_empty.ensures ∙ c.if-not-is_empty.false)) c.note.ensures
