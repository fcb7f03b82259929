-- Where more lines have come, these wait.
use Rattle.std.proofs.Common.{◌≡◌, ◌≤◌, ◌-◌, [], length, ap, arith}
use Rattle.std.proofs.lemmas.Result.{on_ok_weaker}
use Rattle.sqlite.specs.Held.{state}
use Rattle.ibc_node_lines.proofs.Served.{serves_same}
use Rattle.ibc_node_lines.proofs.serving.Server.settle_if_due.Goals as goal

pub returns-then-may_wait-clause-serves : goal.returns-then-may_wait-clause-serves
returns-then-may_wait-clause-serves g c = serves_same (state g.S.Store) c.args.self.now.desk.node c.args.self.now.told.items (g.W.Write.contents c.args.output.now)

pub returns-then-may_wait-clause-few : goal.returns-then-may_wait-clause-few
returns-then-may_wait-clause-few g c =
    let room = c.may_wait.ensures c.if-may_wait.true in
    omega (arith, room)

pub returns-clause-serves : goal.returns-clause-serves
returns-clause-serves g c = c.settle.ensures.serves

pub returns-clause-few : goal.returns-clause-few
returns-clause-few g c =
    let waiting = c.settle.new.self.told.items in
    let few : waiting ≡ [] → length waiting ≤ c.args.batch - 1 = λ none. omega (arith, ap length none) in
    on_ok_weaker c.settle.result few c.settle.ensures.cleared
