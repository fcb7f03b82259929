-- Packets that aren't settled.
use Rattle.std.specs.Prelude.{ℕ, Bool, ◌==◌, ◌&&◌, ◌++◌, List, Option, option_and_then, option_to_list, position, remove, slice_get}
use Rattle.std.specs.Option.{option_map_or}
use Rattle.ibc_run_notes.specs.declared.flights.Flight.{Flight}

-- the packet of this end and sequence
abbrev pub is_flight : ℕ → ℕ → Flight → Bool
is_flight end sequence flight = (flight.end == end) && (flight.sequence == sequence)

-- the first such packet, none where it isn't there
abbrev pub found_flight : ℕ → ℕ → List Flight → Option Flight
found_flight end sequence flights = option_and_then (slice_get flights) (position (is_flight end sequence) flights)

-- what was received, with the packet that was on the way
abbrev pub with_arrived : ℕ → ℕ → List Flight → List Flight → List Flight
with_arrived end sequence on_the_way received = received ++ option_to_list (found_flight end sequence on_the_way)

-- the packets without it
abbrev pub without_flight : ℕ → ℕ → List Flight → List Flight
without_flight end sequence flights = option_map_or (remove flights) (position (is_flight end sequence) flights) flights
