use Rattle.std.proofs.Common.{arith}
use Rattle.ibc_lanes.proofs.Padded.{framed}
use Rattle.ibc_lanes.proofs.inner.padded.Goals as goal

pub returns : goal.returns
returns c = framed c.args.pair.now.left c.args.pair.now.right _ _ (omega arith) (omega arith) c.copy_from_slice.ensures.after c.copy_from_slice-2.ensures.after
