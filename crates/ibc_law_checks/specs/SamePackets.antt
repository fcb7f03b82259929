-- Packets that are equal in every field, as a test.
use Rattle.std.specs.Prelude.{Bool, ◌==◌, ◌&&◌, bytes_eq}
use Rattle.ibc_wire.specs.declared.packet.Packet.{Packet}

abbrev pub same_packet : Packet → Packet → Bool
same_packet p q =
    (p.sequence == q.sequence) && ((p.timeout_height == q.timeout_height) && ((p.timeout_time == q.timeout_time)
    && (bytes_eq p.source_port q.source_port && (bytes_eq p.source_channel q.source_channel
    && (bytes_eq p.destination_port q.destination_port && (bytes_eq p.destination_channel q.destination_channel
    && bytes_eq p.payload q.payload))))))
