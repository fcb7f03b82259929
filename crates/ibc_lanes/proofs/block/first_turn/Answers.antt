use Rattle.ibc_lanes.proofs.block.first_turn.Goals as goal

pub returns : goal.returns
returns c j b h lt window held =
    let s1 = c.first_four_steps-v.ensures j b h lt window held in
    let s2 = c.first_four_steps-v-2.ensures j b h lt window s1 in
    let s3 = c.first_four_steps-v-3.ensures j b h lt window s2 in
    c.first_four_steps.ensures j b h lt window s3
