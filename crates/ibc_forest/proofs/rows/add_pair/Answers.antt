-- The place waits.
use Rattle.std.proofs.Common.{◌*◌, arith, get_or}
use Rattle.ibc_forest.proofs.Gathered.{front_waits, gathered_waits}
use Rattle.ibc_forest.proofs.rows.add_pair.Goals as goal

pub make_waiting-requires-clause-gathered : goal.make_waiting-requires-clause-gathered
make_waiting-requires-clause-gathered c =
    let place = c.args.place in
    let row = c.args.row.now in
    gathered_waits c.args.arena.now.trees row c.args.above.now.items c.args.waiting.now c.push-2.new.self.items c.push-3.new.self place (get_or row (2 * place) 0)
    c.requires.gathered c.requires.place c.requires.within (c.requires.row (2 * place) 0 (let within = c.requires.within in omega arith)) c.in_ok-push-2.ensures.items c.push-3.ensures

pub returns-else-is_full-clause-gathered : goal.returns-else-is_full-clause-gathered
returns-else-is_full-clause-gathered c =
    let place = c.args.place in
    let row = c.args.row.now in
    gathered_waits c.args.arena.now.trees row c.args.above.now.items c.args.waiting.now c.push-2.new.self.items c.push-3.new.self place (get_or row (2 * place) 0)
    c.requires.gathered c.requires.place c.requires.within (c.requires.row (2 * place) 0 (let within = c.requires.within in omega arith)) c.in_ok-push-2.ensures.items c.push-3.ensures

pub returns-in_ok-make_waiting-clause-front : goal.returns-in_ok-make_waiting-clause-front
returns-in_ok-make_waiting-clause-front c =
    let place = c.args.place in
    front_waits c.args.above.now.items c.args.waiting.now c.push-2.new.self.items c.push-3.new.self c.make_waiting.new.above.items place (get_or c.args.row.now (2 * place) 0)
    c.requires.place c.in_ok-push-2.ensures.items c.push-3.ensures c.in_ok-make_waiting.ensures.front
