-- Tests of lists of packets.
use Rattle.std.specs.Prelude.{ℕ, Bool, false, List, slice_get}
use Rattle.std.specs.Option.{option_map_or}
use Rattle.ibc_wire.specs.declared.packet.Packet.{Packet}
use Rattle.ibc_machine.specs.chain.Records.{is_one_of}
use Rattle.ibc_machine.specs.promises.Histories.{sequences}
use Rattle.ibc_law_checks.specs.SamePackets.{same_packet}

-- one of them has this sequence
abbrev pub has_sequence : List Packet → ℕ → Bool
has_sequence packets n = is_one_of (sequences packets) n

-- the packet stands at this place
abbrev pub stands_at : List Packet → ℕ → Packet → Bool
stands_at packets place p = option_map_or (λ q. same_packet q p) (slice_get packets place) false
