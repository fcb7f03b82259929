use Rattle.std.proofs.Common.{slice_index, arith}
use Rattle.ibc_lanes.proofs.Rotations.{three_rotations}
use Rattle.ibc_lanes.proofs.Vectors.{lane_fits}
use Rattle.ibc_lanes.proofs.words.big_sigmas1.Goals as goal

pub returns : goal.returns
returns c j lt =
    rw (
      c.rotated-3.ensures j lt,
      c.xored-2.ensures j lt,
      c.rotated-2.ensures j lt,
      c.xored.ensures j lt,
      c.rotated.ensures j lt,
    )
    (three_rotations 6 5 14 (slice_index c.args.x j) (omega arith) (lane_fits c.args.x c.fits-x j lt))
