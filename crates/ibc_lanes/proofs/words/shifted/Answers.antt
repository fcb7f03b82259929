use Rattle.std.proofs.Common.{◌/◌, ◌^◌, ℕ}
use Rattle.ibc_lanes.proofs.Vectors.{zipped_with}
use Rattle.ibc_lanes.proofs.words.shifted.Goals as goal

pub returns : goal.returns
returns c = zipped_with (λ (n count : ℕ). n / 2 ^ count) c.args.x c.args.count c.fits-x.0
