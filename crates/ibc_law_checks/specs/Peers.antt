-- What the ledgers of a world say of the ends that are noted (ICS 3 and ICS 4, "Definitions").
use Rattle.std.specs.Prelude.{ℕ, Bool, false, List, Option, slice_get, bytes_eq}
use Rattle.std.specs.Option.{option_map, option_map_or, option_and_then}
use Rattle.ibc_ids.specs.Texts.{Text}
use Rattle.ibc_wire.specs.declared.packet.Packet.{Packet}
use Rattle.ibc_wire.specs.declared.records.ChannelEnd.{ChannelEnd}
use Rattle.ibc_machine.specs.chain.Records.{Channel, Client, client_at}
use Rattle.ibc_machine.specs.ics04.Channels.{client_of}
use Rattle.ibc_machine.specs.ledger.Ledgers.{Ledger, state_of}
use Rattle.ibc_ledger.specs.SentPackets.{end_at, packet_on, ack_on}
use Rattle.ibc_refinement.specs.World.{WorldState}
use Rattle.ibc_law_checks.specs.declared.ends.EndNotes.{EndNotes}
use Rattle.ibc_law_checks.specs.EndPlaces.{place_of_end}

-- what the ledger of the end at a place says of it
abbrev pub at_end : {A : Type 0} → (Text → Text → Ledger → Option A) → WorldState → List EndNotes → ℕ → Option A
at_end says world ends place =
    option_and_then (λ (end : EndNotes). option_and_then (says end.port end.channel) (slice_get world.ledgers end.chain))
    (slice_get ends place)

-- ---- the peer

-- the chain that the client under a connection tracks
abbrev pub tracked_by : Ledger → Text → Option ℕ
tracked_by ledger connection =
    option_map (λ (client : Client). client.state.chain)
    (client_at (state_of ledger).chain.records.core (client_of (state_of ledger).chain.records.core connection))

-- the place of the end that an end names as its peer, on the chain that its client tracks
abbrev pub named_place : List EndNotes → Ledger → ChannelEnd → Option ℕ
named_place ends ledger end =
    option_and_then (λ chain. option_and_then (place_of_end ends chain end.peer_port) end.peer_channel)
    (tracked_by ledger end.connection)

abbrev pub peer_on : List EndNotes → Text → Text → Ledger → Option ℕ
peer_on ends port channel ledger =
    option_and_then (λ (mine : Channel). named_place ends ledger mine.end) (end_at ledger port channel)

-- the place of the peer of the end at a place
abbrev pub peer_of : WorldState → List EndNotes → ℕ → Option ℕ
peer_of world ends own = at_end (peer_on ends) world ends own

-- the place of the end from which a packet came that a chain has received
abbrev pub sender_of : WorldState → List EndNotes → ℕ → Packet → Option ℕ
sender_of world ends chain p =
    option_and_then (peer_of world ends) (place_of_end ends chain p.destination_port p.destination_channel)

-- ---- packets and acknowledgements

-- the packet that the end at a place sent under a sequence
abbrev pub packet_at : WorldState → List EndNotes → ℕ → ℕ → Option Packet
packet_at world ends place n = at_end (λ port channel ledger. packet_on ledger port channel n) world ends place

-- the acknowledgement that the end at a place wrote for a sequence
abbrev pub ack_at : WorldState → List EndNotes → ℕ → ℕ → Option Text
ack_at world ends place n = at_end (λ port channel ledger. ack_on ledger port channel n) world ends place

abbrev pub is_same_ack : Text → Option Text → Bool
is_same_ack ack written = option_map_or (λ (other : Text). bytes_eq other ack) written false

-- it is the acknowledgement that the peer of the end at a place wrote for a sequence
abbrev pub is_written : WorldState → List EndNotes → ℕ → ℕ → Text → Bool
is_written world ends own n ack =
    option_map_or (λ peer. is_same_ack ack (ack_at world ends peer n)) (peer_of world ends own) false
