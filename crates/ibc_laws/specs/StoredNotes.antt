-- What is kept of notes (this project's profile: the application of port `note`): under the channel that a packet
-- names as its destination, the note that came in it, in the order in which they came, and for good.
use Rattle.std.specs.Prelude.{◌≡◌, ℕ, List, [], ◌++◌, map, slice_get, Some}
use Rattle.std.specs.Option.{option_map_or, unwrap_or}
use Rattle.ibc_ids.specs.Texts.{Text, text_cmp}
use Rattle.ibc_ids.specs.Maps.{at}
use Rattle.ibc_wire.specs.declared.packet.Packet.{Packet}
use Rattle.ibc_machine.specs.chain.Records.{MachineChain, Channel}
use Rattle.ibc_machine.specs.chain.Notes.{note_port}
use Rattle.ibc_machine.specs.chain.Genesis.{GenesisState}
use Rattle.ibc_machine.specs.chain.Machine.{World}
use Rattle.ibc_machine.specs.promises.Histories.{Happened, End, sent_packets, received_packets}
use Rattle.ibc_machine.specs.promises.Peers.{end_at}
use Rattle.ibc_machine.specs.promises.Laws.{IsPast, OfPeers}
use Rattle.ibc_laws.specs.Moments.{IsMoment}

abbrev pub note_end : ℕ → Text → End
note_end chain channel = record { chain = chain; port = note_port; channel = channel }

-- the notes that a chain keeps under a channel
abbrev pub notes_at : World → ℕ → Text → List Text
notes_at world chain channel =
    option_map_or (λ (c : MachineChain). unwrap_or (at text_cmp channel c.records.apps.notes) []) (slice_get world chain) []

-- what packets carry
abbrev pub payloads : List Packet → List Text
payloads packets = map (λ (p : Packet). p.payload) packets

-- this is the front of that
abbrev pub IsFront : List Text → List Text → Type 0
IsFront front all = (rest : List Text) × (front ++ rest ≡ all)

-- the notes under a channel are those of the packets that its end received, and no others
abbrev pub NotesAreReceived : Type 0
NotesAreReceived =
    (genesis : GenesisState) (happened : List Happened) (world : World) (chain : ℕ) (channel : Text)
    → IsPast genesis happened world
    → notes_at world chain channel ≡ payloads (received_packets (note_end chain channel) happened)

-- so a note stays, at its place
abbrev pub NotesStay : Type 0
NotesStay =
    (genesis : GenesisState) (happened : List Happened) (world : World) (before : List Happened) (h : Happened)
    (old new : World) (chain : ℕ) (channel : Text) → IsMoment genesis happened world before h old new
    → IsFront (notes_at old chain channel) (notes_at new chain channel)

-- and each is the one that the peer sent, the first ones in the order in which it sent them
abbrev pub NotesWereSent : Type 0
NotesWereSent = OfPeers (λ happened world e f.
    (mine : Channel) → f.port ≡ note_port → end_at world e ≡ Some mine
    → IsFront (notes_at world f.chain f.channel) (payloads (sent_packets e mine happened)))
