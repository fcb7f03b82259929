-- What happened on a ledger, the packets that it sent, and the acknowledgements that it wrote (ICS 4, "Packet flow & handling").
use Rattle.std.specs.Prelude.{ℕ, List, Option, map}
use Rattle.std.specs.Option.{option_and_then}
use Rattle.std.specs.Ordering.{nat_cmp}
use Rattle.ibc_ids.specs.Texts.{Text}
use Rattle.ibc_ids.specs.Maps.{at}
use Rattle.ibc_wire.specs.declared.packet.Packet.{Packet}
use Rattle.ibc_machine.specs.chain.Records.{Channel, channel_at}
use Rattle.ibc_machine.specs.promises.Histories.{Happened, End, packet_sent}
use Rattle.ibc_machine.specs.ledger.Replay.{StampedEntry}
use Rattle.ibc_machine.specs.ledger.Ledgers.{Ledger, state_of}

abbrev pub happened_of : StampedEntry → Happened
happened_of e = (e.entry.event, e.entry.reply)

abbrev pub happened_on : Ledger → List Happened
happened_on ledger = map happened_of ledger.history

-- the end of a ledger's channel, where it is there
abbrev pub end_at : Ledger → Text → Text → Option Channel
end_at ledger port channel = channel_at (state_of ledger).chain.records.core port channel

-- the packet that the ledger sent from an end under a sequence, whether its commitment stands or not; none where there is
-- no such end, or the end doesn't know its peer yet
abbrev pub packet_on : Ledger → Text → Text → ℕ → Option Packet
packet_on ledger port channel n =
    let from : End = record { chain = ledger.chain; port = port; channel = channel } in
    option_and_then (λ (mine : Channel). option_and_then (λ peer. packet_sent from mine (happened_on ledger) n) mine.end.peer_channel)
    (end_at ledger port channel)

-- the acknowledgement that the ledger wrote at an end for a sequence
abbrev pub ack_on : Ledger → Text → Text → ℕ → Option Text
ack_on ledger port channel n =
    option_and_then (λ (mine : Channel). at nat_cmp n mine.acks) (end_at ledger port channel)
