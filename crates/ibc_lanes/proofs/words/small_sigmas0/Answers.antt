use Rattle.std.proofs.Common.{ℕ, ◌/◌, ◌^◌, slice_index, bit_xor, ap, arith}
use Rattle.ibc_lanes.proofs.Rotations.{two_rotations}
use Rattle.ibc_lanes.proofs.Vectors.{lane_fits}
use Rattle.ibc_lanes.proofs.words.small_sigmas0.Goals as goal

pub returns : goal.returns
returns c j lt =
    let word = slice_index c.args.x j in
    rw (
      c.xored-2.ensures j lt,
      c.rotated-2.ensures j lt,
      c.xored.ensures j lt,
      c.rotated.ensures j lt,
      c.shifted.ensures j lt,
    )
    (ap (λ (n : ℕ). bit_xor n (word / 2 ^ 3)) (two_rotations 7 11 word (omega arith) (lane_fits c.args.x c.fits-x j lt)))
