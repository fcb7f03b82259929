use Rattle.std.proofs.Common.{refl, ◌∙◌}
use Rattle.sha2.specs.Sha256.{sha256}
use Rattle.ibc_lanes.proofs.texts.digest_four.Goals as goal

pub returns : goal.returns
unfolding sha256
returns c =
    let states = c.hash_each-state.ensures in
    c.digests.ensures ∙ rw (states.first, states.second, states.third, states.fourth) refl
