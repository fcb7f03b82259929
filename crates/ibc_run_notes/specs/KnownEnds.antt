-- What is known of ends of channels.
use Rattle.std.specs.Prelude.{ℕ, Bool, false, List, slice_get}
use Rattle.std.specs.Option.{option_map_or}
use Rattle.ibc_run_notes.specs.declared.known.KnownEnd.{KnownEnd}

-- a packet from an end may have several tokens; not from one that isn't known
abbrev pub has_several_at : List KnownEnd → ℕ → Bool
has_several_at ends end = option_map_or (λ (known : KnownEnd). known.takes_several) (slice_get ends end) false
