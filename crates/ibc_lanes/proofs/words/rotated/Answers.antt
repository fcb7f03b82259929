use Rattle.ibc_lanes.proofs.Vectors.{shifts_rotate}
use Rattle.ibc_lanes.proofs.words.rotated.Goals as goal

pub returns : goal.returns
returns c = shifts_rotate c.args.count c.requires.low c.requires.high c.args.x c.fits-x.0
