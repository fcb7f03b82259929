-- What a message moves, and over which lane (ICS 4, "Packet flow & handling").
use Rattle.std.specs.Prelude.{ℕ, List, Option, Some, None, if◌then◌else◌}
use Rattle.std.specs.Option.{option_map_or}
use Rattle.ibc_ids.specs.Texts.{Text}
use Rattle.ibc_wire.specs.declared.packet.Packet.{Packet}
use Rattle.ibc_wire.specs.declared.messages.Message.{Message}
use Rattle.ibc_wire.specs.declared.messages.Message.TheVariants as message
use Rattle.ibc_machine.specs.declared.reply.Effect.{Effect}
use Rattle.ibc_machine.specs.declared.reply.Effect.TheVariants as effect
use Rattle.ibc_machine.specs.chain.Notes.{note_port}
use Rattle.ibc_machine.specs.ics20.Transfers.{transfer_port}
use Rattle.ibc_refinement.specs.World.{WorldState}
use Rattle.ibc_law_checks.specs.declared.ends.ChainClock.{ChainClock}
use Rattle.ibc_law_checks.specs.declared.ends.EndNotes.{EndNotes}
use Rattle.ibc_law_checks.specs.declared.finding.BrokenLaw.TheVariants as broken
use Rattle.ibc_law_checks.specs.declared.finding.PacketLaw.TheVariants as law
use Rattle.ibc_law_checks.specs.declared.movement.Movement.{Movement}
use Rattle.ibc_law_checks.specs.declared.movement.Movement.TheVariants as movement
use Rattle.ibc_law_checks.specs.declared.movement.Passing.TheVariants as passing
use Rattle.ibc_law_checks.specs.Arrivals.{arrives_in_time}
use Rattle.ibc_law_checks.specs.EndPlaces.{place_of_end}
use Rattle.ibc_law_checks.specs.Peers.{packet_at, is_written, sender_of}

-- ---- a packet is sent: it is the one that the end's ledger has under the sequence

abbrev pub sent_at : WorldState → List EndNotes → ℕ → ℕ → Movement
sent_at world ends n lane =
    option_map_or (λ (p : Packet). movement.Passes lane passing.Sent p) (packet_at world ends lane n)
    (movement.Breaks (broken.OfPackets law.SentInTurn) (Some lane))

abbrev pub sent_over : WorldState → List EndNotes → ℕ → Text → Text → ℕ → Movement
sent_over world ends chain port channel n =
    option_map_or (sent_at world ends n) (place_of_end ends chain port channel)
    (movement.Breaks (broken.OfPackets law.SentInTurn) None)

-- nothing is sent without a sequence
abbrev pub sent_with : WorldState → List EndNotes → ℕ → Text → Text → Effect → Movement
sent_with world ends chain port channel (effect.Sent n) = sent_over world ends chain port channel n
sent_with world ends chain port channel _ = movement.Nothing

-- ---- a packet is received: in the lane of the end from which it came

abbrev pub received_from : Packet → Option ℕ → Movement
received_from p sender =
    option_map_or (λ lane. movement.Passes lane passing.Received p) sender
    (movement.Breaks (broken.OfPackets law.ReceivedWasSent) None)

abbrev pub received_on : WorldState → List EndNotes → List ChainClock → ℕ → Packet → Movement
received_on world ends clocks chain p =
    if arrives_in_time clocks chain p then received_from p (sender_of world ends chain p)
    else movement.Breaks broken.ReceivedInTime None

-- ---- a packet is acknowledged or times out: in the lane of its source

abbrev pub acknowledged_at : WorldState → List EndNotes → Packet → Text → ℕ → Movement
acknowledged_at world ends p ack lane =
    if is_written world ends lane p.sequence ack then movement.Passes lane passing.Acknowledged p
    else movement.Breaks broken.TakenAsWritten (Some lane)

abbrev pub acknowledged_on : WorldState → List EndNotes → ℕ → Packet → Text → Movement
acknowledged_on world ends chain p ack =
    option_map_or (acknowledged_at world ends p ack) (place_of_end ends chain p.source_port p.source_channel)
    (movement.Breaks (broken.OfPackets law.SettledWasSent) None)

abbrev pub timed_out_on : List EndNotes → ℕ → Packet → Movement
timed_out_on ends chain p =
    option_map_or (λ lane. movement.Passes lane passing.TimedOut p) (place_of_end ends chain p.source_port p.source_channel)
    (movement.Breaks (broken.OfPackets law.SettledWasSent) None)

-- ---- an accepted message

abbrev pub moved_by : WorldState → List EndNotes → List ChainClock → ℕ → Message → Effect → Movement
moved_by world ends clocks chain (message.Transfer m) given = sent_with world ends chain transfer_port m.channel given
moved_by world ends clocks chain (message.TransferMany m) given = sent_with world ends chain transfer_port m.channel given
moved_by world ends clocks chain (message.SendNote m) given = sent_with world ends chain note_port m.channel given
moved_by world ends clocks chain (message.RecvPacket m) given = received_on world ends clocks chain m.packet
moved_by world ends clocks chain (message.AckPacket m) given = acknowledged_on world ends chain m.packet m.ack
moved_by world ends clocks chain (message.Timeout m) given = timed_out_on ends chain m.packet
moved_by world ends clocks chain (message.TimeoutOnClose m) given = timed_out_on ends chain m.packet
moved_by world ends clocks chain _ given = movement.Nothing
