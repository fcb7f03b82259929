-- Whether packets arrive in time, as a test (ICS 4, "recvPacket").
use Rattle.std.specs.Prelude.{ℕ, Bool, true, ◌==◌, ◌&&◌, ◌||◌, ◌+◌, ◌-◌, ◌^◌, min, nat_lt, List, slice_get}
use Rattle.std.specs.Option.{option_map_or}
use Rattle.ibc_wire.specs.declared.packet.Packet.{Packet}
use Rattle.ibc_laws.specs.Ends.{IsAhead}
use Rattle.ibc_law_checks.specs.declared.ends.ChainClock.{ChainClock}

-- a timeout that is none, or lies ahead
abbrev pub is_ahead : ℕ → ℕ → Bool
is_ahead timeout now = (timeout == 0) || nat_lt now timeout

abbrev pub is_in_time : Packet → ℕ → ℕ → Bool
is_in_time p height time = is_ahead p.timeout_height height && is_ahead p.timeout_time time

-- both timeouts of a packet lie ahead of a block of this height and time (ICS 4, recvPacket)
abbrev pub AreTimeoutsAhead : Packet → ℕ → ℕ → Type 0
AreTimeoutsAhead p height time = IsAhead p.timeout_height height × IsAhead p.timeout_time time

-- the height of the working block behind the last height
abbrev pub working_height : ChainClock → ℕ
working_height clock = min (clock.height + 1) (2 ^ 64 - 1)

-- a packet is in time at the working block of a chain; no chain without a clock is asked
abbrev pub arrives_in_time : List ChainClock → ℕ → Packet → Bool
arrives_in_time clocks chain p =
    option_map_or (λ (clock : ChainClock). is_in_time p (working_height clock) clock.time) (slice_get clocks chain) true
