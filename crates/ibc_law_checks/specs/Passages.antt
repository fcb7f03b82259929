-- Which packet an event moves, in the words of the laws: what each end received, acknowledged and timed out by it is that
-- packet, where the end is its destination or its source (ICS 4, "Packet flow & handling").
use Rattle.std.specs.Prelude.{◌≡◌, ℕ, Option}
use Rattle.std.specs.Option.{option_and_then}
use Rattle.ibc_wire.specs.declared.packet.Packet.{Packet}
use Rattle.ibc_wire.specs.declared.messages.Message.{Message}
use Rattle.ibc_machine.specs.declared.event.Event.TheVariants as event
use Rattle.ibc_machine.specs.declared.reply.Effect.{Effect}
use Rattle.ibc_machine.specs.declared.reply.Reply.TheVariants as reply
use Rattle.ibc_machine.specs.promises.Histories.{Happened, End, is_source, is_destination, packet_if, received_by, acknowledged_by, timed_out_by}

abbrev pub IsReceived : Happened → Option Packet → Type 0
IsReceived h packet =
    (e : End) → received_by e h ≡ option_and_then (λ (p : Packet). packet_if (is_destination e p) p) packet

abbrev pub IsAcknowledged : Happened → Option Packet → Type 0
IsAcknowledged h packet =
    (e : End) → acknowledged_by e h ≡ option_and_then (λ (p : Packet). packet_if (is_source e p) p) packet

abbrev pub IsTimedOut : Happened → Option Packet → Type 0
IsTimedOut h packet =
    (e : End) → timed_out_by e h ≡ option_and_then (λ (p : Packet). packet_if (is_source e p) p) packet

-- ---- whichever chain accepts a message

-- the message receives the packet
abbrev pub IsReceivedBy : Message → Option Packet → Type 0
IsReceivedBy message packet =
    (chain : ℕ) (given : Effect) → IsReceived (event.Message chain message, reply.Ok given) packet

-- the message has the packet acknowledged
abbrev pub IsAcknowledgedBy : Message → Option Packet → Type 0
IsAcknowledgedBy message packet =
    (chain : ℕ) (given : Effect) → IsAcknowledged (event.Message chain message, reply.Ok given) packet

-- the message has the packet time out
abbrev pub IsTimedOutBy : Message → Option Packet → Type 0
IsTimedOutBy message packet =
    (chain : ℕ) (given : Effect) → IsTimedOut (event.Message chain message, reply.Ok given) packet
