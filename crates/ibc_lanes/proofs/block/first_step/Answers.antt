use Rattle.std.proofs.Common.{refl, sym}
use Rattle.sha2.proofs.Schedule256.{rounds_first}
use Rattle.ibc_lanes.specs.Lanes.{lane, lane_words}
use Rattle.ibc_lanes.proofs.Vectors.{lane_word}
use Rattle.ibc_lanes.proofs.block.first_step.Goals as goal

pub returns : goal.returns
returns c j b h lt window held =
    rounds_first b h (lane_words j c.args.window.now) (lane j c.args.v) c.args.t _ _ _ c.requires window held refl
    (sym (lane_word c.args.window.now j c.args.t)) (c.round_each.ensures j lt)
