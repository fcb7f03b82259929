-- The packets of a picture.
use Rattle.std.specs.Prelude.{ℕ, None}
use Rattle.ibc_drawing.specs.declared.packets.DrawnPacket.{DrawnPacket}
use Rattle.ibc_drawing.specs.declared.packets.PacketKey.{PacketKey}

-- a packet that was sent so far down, and not received yet
abbrev pub sent_packet : PacketKey → ℕ → DrawnPacket
sent_packet key y = record { key = key; sent = y; received = None }
