-- The pair before the index.
use Rattle.std.proofs.Common.{sym, ap, ◌∙◌, arith}
use Rattle.ibc_merkle.specs.Written.{presence_of}
use Rattle.ibc_merkle.proofs.Writes.{pair_before_is}
use Rattle.ibc_forest.specs.Heights.{pairs_of}
use Rattle.ibc_forest.proofs.proving.left_neighbour.Goals as goal

pub returns-in_ok-presence_at-in-Some : goal.returns-in_ok-presence_at-in-Some
returns-in_ok-presence_at-in-Some c =
    let pairs = pairs_of c.args.nodes.now c.args.root in
    sym (ap (presence_of pairs) (pair_before_is pairs c.args.index c.in-Some.before (omega arith)) ∙ c.in_ok-presence_at-in-Some.ensures)
