-- The pair before the index.
use Rattle.std.proofs.Common.{sym, ap, ◌∙◌, arith}
use Rattle.ibc_merkle.specs.Written.{presence_of}
use Rattle.ibc_merkle.proofs.Writes.{pair_before_is}
use Rattle.ibc_merkle.proofs.writing.left_neighbour.Goals as goal

pub returns-in_ok-presence_at-in-Some : goal.returns-in_ok-presence_at-in-Some
returns-in_ok-presence_at-in-Some c =
    sym (ap (presence_of c.args.entries.now) (pair_before_is c.args.entries.now c.args.index c.in-Some.before (omega arith)) ∙ c.in_ok-presence_at-in-Some.ensures)
