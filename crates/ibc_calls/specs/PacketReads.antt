-- Packets that are taken apart, and those that ledgers sent, with their acknowledgements (ICS 4, "Packet flow & handling").
use Rattle.std.specs.Prelude.{◌≡◌, ◌⊎◌, ◌==◌, ℕ, Option, Some, None, Result, Ok, Err, IsTrue, if◌then◌else◌}
use Rattle.ibc_ids.specs.Texts.{Text}
use Rattle.ibc_ids.specs.Names.{is_port, is_channel}
use Rattle.ibc_ids.specs.declared.refusal.Refusal.TheVariants.{NoMemory, BadMessage, BadName}
use Rattle.ibc_wire.specs.Fields.{Spells, have_form}
use Rattle.ibc_wire.specs.Messages.{message_fields}
use Rattle.ibc_wire.specs.Spelling.{packet_fields}
use Rattle.ibc_wire.specs.declared.messages.Message.{Message}
use Rattle.ibc_wire.specs.declared.messages.Message.TheVariants as message
use Rattle.ibc_wire.specs.declared.packet.Packet.{Packet}
use Rattle.ibc_machine.specs.ledger.Ledgers.{Ledger}
use Rattle.ibc_ledger.specs.SentPackets.{packet_on, ack_on}
use Rattle.ibc_handle.specs.declared.handle_value.HandleValue.{HandleValue}
use Rattle.ibc_handle.specs.declared.handle_value.HandleValue.TheVariants as held
use Rattle.ibc_calls.specs.declared.answer.Refused.{Refused}
use Rattle.ibc_calls.specs.declared.answer.Refused.TheVariants.{Core, Empty, OtherKind, NothingThere, NoMessage}
use Rattle.ibc_calls.specs.declared.packets.PacketNumbers.{PacketNumbers}
use Rattle.ibc_calls.specs.CallAnswers.{Answer}

-- a text is found where it is there, or memory ran out
abbrev pub IsCopied : Option Text → Result Text Refused → Type 0
IsCopied None found = found ≡ Err NothingThere
IsCopied (Some text) found = (found ≡ Ok text) ⊎ (found ≡ Err (Core NoMemory))

-- the bytes of a packet are found where it is there
abbrev pub IsPacketText : Option Packet → Result Text Refused → Type 0
IsPacketText None found = found ≡ Err NothingThere
IsPacketText (Some p) (Ok bytes) = Spells (packet_fields p) bytes
IsPacketText (Some p) (Err why) = (why ≡ Core NoMemory) ⊎ ((why ≡ Core BadMessage) × (IsTrue (have_form (packet_fields p)) → ⊥))

-- ---- what messages carry

-- the packet of a message that brings one
abbrev pub packet_in : Message → Option Packet
packet_in (message.RecvPacket m) = Some m.packet
packet_in (message.AckPacket m) = Some m.packet
packet_in (message.Timeout m) = Some m.packet
packet_in (message.TimeoutOnClose m) = Some m.packet
packet_in _ = None

-- the acknowledgement of a message that brings one
abbrev pub ack_in : Message → Option Text
ack_in (message.AckPacket m) = Some m.ack
ack_in _ = None

-- The bytes spell a message, of which this is so; or they spell none, or memory ran out.
abbrev pub InMessage : (Message → Result Text Refused → Type 0) → Text → Result Text Refused → Type 0
InMessage is bytes found =
    ((m : Message) × Spells (message_fields m) bytes × is m found)
    ⊎ ((found ≡ Err NoMessage) × ((m : Message) → Spells (message_fields m) bytes → ⊥)) ⊎ (found ≡ Err (Core NoMemory))

unfoldable pub FindsCarriedPacket : Text → Result Text Refused → Type 0
FindsCarriedPacket = InMessage (λ m. IsPacketText (packet_in m))

unfoldable pub FindsCarriedAck : Text → Result Text Refused → Type 0
FindsCarriedAck = InMessage (λ m. IsCopied (ack_in m))

-- ---- a packet by its own bytes

abbrev pub numbers_of : Packet → PacketNumbers
numbers_of p = record { sequence = p.sequence; timeout_height = p.timeout_height; timeout_time = p.timeout_time }

-- The bytes spell a packet, whose numbers are told; or they spell none, or memory ran out, and nothing is told.
unfoldable pub TellsPacket : Text → PacketNumbers → PacketNumbers → Answer → Type 0
TellsPacket bytes old new answer =
    ((p : Packet) × Spells (packet_fields p) bytes × (new ≡ numbers_of p) × (answer ≡ Ok tt))
    ⊎ ((new ≡ old) × (((answer ≡ Err (Core BadMessage)) × ((p : Packet) → Spells (packet_fields p) bytes → ⊥)) ⊎ (answer ≡ Err (Core NoMemory))))

-- 1 and 2 the port and the channel that it left, 3 and 4 those that it goes to, 5 its data
abbrev pub part_of : ℕ → Packet → Option Text
part_of part p =
    if part == 1 then Some p.source_port
    else if part == 2 then Some p.source_channel
    else if part == 3 then Some p.destination_port
    else if part == 4 then Some p.destination_channel
    else if part == 5 then Some p.payload
    else None

-- The bytes spell a packet, whose part is found; or they spell none, or memory ran out.
unfoldable pub FindsPart : ℕ → Text → Result Text Refused → Type 0
FindsPart part bytes found =
    ((p : Packet) × Spells (packet_fields p) bytes × IsCopied (part_of part p) found)
    ⊎ ((found ≡ Err (Core BadMessage)) × ((p : Packet) → Spells (packet_fields p) bytes → ⊥)) ⊎ (found ≡ Err (Core NoMemory))

-- ---- what ledgers sent and acknowledged

-- a port and a channel by their names
abbrev pub AreEnd : Text → Text → Type 0
AreEnd port channel = IsTrue (is_port port) × IsTrue (is_channel channel)

-- these names, which are of their kinds
abbrev pub AreEndNames : Text → Text → Text × Text → Type 0
AreEndNames port channel names = (names.0 ≡ port) × (names.1 ≡ channel) × AreEnd port channel

-- At the end this is so; or a name is none of its kind, or memory ran out.
abbrev pub AtEnd : Text → Text → (Result Text Refused → Type 0) → Result Text Refused → Type 0
AtEnd port channel is found =
    (AreEnd port channel × is found)
    ⊎ ((found ≡ Err (Core BadName)) × (AreEnd port channel → ⊥)) ⊎ (found ≡ Err (Core NoMemory))

abbrev pub OfLedger : (Ledger → Result Text Refused → Type 0) → Option HandleValue → Result Text Refused → Type 0
OfLedger is None found = found ≡ Err Empty
OfLedger is (Some (held.Ledger l)) found = is l.ledger.ledger found
OfLedger is (Some other) found = found ≡ Err OtherKind

-- the packet that the ledger sent from an end under a sequence
abbrev pub IsSentText : Text → Text → ℕ → Ledger → Result Text Refused → Type 0
IsSentText port channel sequence ledger = AtEnd port channel (IsPacketText (packet_on ledger port channel sequence))

-- the acknowledgement that it wrote at an end for a sequence
abbrev pub IsAckText : Text → Text → ℕ → Ledger → Result Text Refused → Type 0
IsAckText port channel sequence ledger = AtEnd port channel (IsCopied (ack_on ledger port channel sequence))

unfoldable pub FindsSent : Text → Text → ℕ → Option HandleValue → Result Text Refused → Type 0
FindsSent port channel sequence = OfLedger (IsSentText port channel sequence)

unfoldable pub FindsAck : Text → Text → ℕ → Option HandleValue → Result Text Refused → Type 0
FindsAck port channel sequence = OfLedger (IsAckText port channel sequence)
