use Rattle.std.proofs.Common.{◌≡◌}
use Rattle.sha2.specs.Sha256.{hash_after, initial_hash_256, padded_message}
use Rattle.ibc_lanes.specs.Lanes.{lane}
use Rattle.ibc_lanes.proofs.texts.hash_each.Given as goal

abbrev pub invariant-absorb : goal.invariant-absorb
invariant-absorb l = (lane 0 l.state ≡ hash_after initial_hash_256 (padded_message l.first) l.i)
    × (lane 1 l.state ≡ hash_after initial_hash_256 (padded_message l.second) l.i)
    × (lane 2 l.state ≡ hash_after initial_hash_256 (padded_message l.third) l.i)
    × (lane 3 l.state ≡ hash_after initial_hash_256 (padded_message l.fourth) l.i)
