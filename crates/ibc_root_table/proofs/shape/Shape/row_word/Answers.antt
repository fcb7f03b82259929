use Rattle.std.proofs.Common.{◌+◌, ◌*◌, ◌%◌}
use Rattle.ibc_root_table.specs.Layout.{place}
use Rattle.ibc_root_table.proofs.shape.Shape.row_word.Goals as goal

pub returns : goal.returns
unfolding place
returns c = λ i. 2 * c.from-2.ensures i + (c.from.ensures i * c.args.self.window + c.args.row % c.args.self.window) * 5 + c.args.part
