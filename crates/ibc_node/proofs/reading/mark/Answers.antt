-- Where there is a place of a log, a mark is added.
use Rattle.std.proofs.Common.{◌≡◌, ◌<◌, arith}
use Rattle.ibc_node.proofs.Marked.{marked_none, marked_one}
use Rattle.ibc_node.proofs.reading.mark.Goals as goal

pub returns-then-log_place-eq0-clause-marked : goal.returns-then-log_place-eq0-clause-marked
returns-then-log_place-eq0-clause-marked c =
    let none : c.args.log_place ≡ 0 = omega arith in
    marked_none c.args.marks.now.items c.args.log_place c.args.place none

pub returns-clause-marked : goal.returns-clause-marked
returns-clause-marked c =
    let some : 0 < c.args.log_place = omega arith in
    marked_one c.args.marks.now.items c.push.new.self.items c.args.log_place c.args.place some c.in_ok-push.ensures.items
