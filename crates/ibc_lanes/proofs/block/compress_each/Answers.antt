use Rattle.std.proofs.Common.{◌≡◌, ◌*◌, ◌∙◌, ap, arith, refl}
use Rattle.sha2.specs.Sha256.{add_state, compress, rounds}
use Rattle.ibc_lanes.specs.Lanes.{lane}
use Rattle.ibc_lanes.proofs.Blocks.{window_of}
use Rattle.ibc_lanes.proofs.block.compress_each.Goals as goal

pub schedule-init : goal.schedule-init
unfolding rounds
schedule-init c j b lt words =
    let window = window_of _ b words in
    (window, c.first_turn-v.ensures j b (lane j c.args.state) lt window refl)

pub schedule-preserved : goal.schedule-preserved
schedule-preserved c j b lt words =
    c.next_turn-next.ensures j b (lane j c.args.state) lt (c.schedule.invariant j b lt words)

pub returns : goal.returns
unfolding compress
returns c j b lt words =
    let done : 16 * c.schedule.turn ≡ 64 = omega (arith, c.schedule.auto.turn-end (omega arith)) in
    c.add_each.ensures j lt ∙ ap (add_state (lane j c.args.state)) (rw done at (c.schedule.invariant j b lt words).1)
