-- What the generator answers.
use Rattle.std.specs.Prelude.{ℕ, List}
use Rattle.rand_core.specs.Stream.{Stream}
use Rattle.rand_core.specs.Steps.{stream_of, steps_u64_high}
use Rattle.rand_xoshiro.specs.Xoshiro256.{plus_plus}

-- all that xoshiro256++ answers from a state on
abbrev pub answers : List ℕ → Stream
answers state = stream_of (steps_u64_high plus_plus) state
