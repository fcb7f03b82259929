-- Which kind of step, or of message, an object is that says what it does.
use Rattle.std.proofs.Common.{◌≡◌, ◌∙◌, ℕ, Bool, true, false, List, [], ◌∷◌, MatchResult, Option, Some, Result, Ok, Err, ap, bytes_eq, codes, eqb, is_ok, refl, sym}
use Rattle.std.specs.List.{ends_with, list_any, starts_with}
use Rattle.std.proofs.lemmas.Bool.{false≢true}
use Rattle.std.proofs.lemmas.Option.{same_Some}
use Rattle.std.proofs.lemmas.Slice.Eq.{bytes_eq-Decides}
use Rattle.serde_json.specs.Data.{Data}
use Rattle.serde_json.specs.Find.{get}
use Rattle.ibc_ids.specs.Texts.{Text}
use Rattle.ibc_ids.specs.declared.key.Key.{Key}
use Rattle.ibc_wire.specs.Kinds.{name_of}
use Rattle.ibc_wire.specs.declared.messages.MessageKind.{MessageKind}
use Rattle.ibc_wire.specs.declared.messages.MessageKind.TheVariants as kind
use Rattle.ibc_wire.specs.declared.messages.ChanCloseInit.{ChanCloseInit}
use Rattle.ibc_wire.specs.declared.messages.ChanOpenInit.{ChanOpenInit}
use Rattle.ibc_wire.specs.declared.messages.SendNote.{SendNote}
use Rattle.ibc_wire.specs.declared.messages.Transfer.{Transfer}
use Rattle.ibc_wire.specs.declared.messages.TransferMany.{TransferMany}
use Rattle.ibc_script.specs.EventKinds.{draft_kind}
use Rattle.ibc_script.specs.ScriptValues.{IsDraft, IsStepObject, IsText}
use Rattle.ibc_script.specs.declared.application.Application.{Application}
use Rattle.ibc_script.specs.declared.draft.ChannelDraft.{ChannelDraft}
use Rattle.ibc_script.specs.declared.draft.ChannelDraft.TheVariants as channel
use Rattle.ibc_script.specs.declared.draft.ChannelTry.{ChannelTry}
use Rattle.ibc_script.specs.declared.draft.ClientDraft.{ClientDraft}
use Rattle.ibc_script.specs.declared.draft.ClientDraft.TheVariants as client
use Rattle.ibc_script.specs.declared.draft.ConnectionDraft.{ConnectionDraft}
use Rattle.ibc_script.specs.declared.draft.ConnectionDraft.TheVariants as connection
use Rattle.ibc_script.specs.declared.draft.Draft.{Draft}
use Rattle.ibc_script.specs.declared.draft.Draft.TheVariants as draft
use Rattle.ibc_script.specs.declared.draft.PacketDraft.{PacketDraft}
use Rattle.ibc_script.specs.declared.draft.PacketDraft.TheVariants as packet
use Rattle.ibc_script.specs.declared.draft.ProofSource.{ProofSource}
use Rattle.ibc_script.specs.declared.draft.SentPacket.{SentPacket}
use Rattle.ibc_script.specs.declared.script.Step.{Step}
use Rattle.ibc_script.specs.declared.script.Step.TheVariants as step

pub differ : (a b : Text) → a ≡ b → bytes_eq a b ≡ false → ⊥
differ a b same other = false≢true (sym other ∙ (bytes_eq-Decides a b).1 same)

pub one_text : (a b : Text) (found : Option Data) → IsText a found → IsText b found → a ≡ b
one_text a b found first second = same_Some a b (sym first ∙ second)

-- ---- messages, by their names

pub as_create : (names : List Text) (given : Data) (d : ClientDraft) → IsDraft (codes "CreateClient") names given (draft.Client d)
    → (of : ℕ) × IsDraft (codes "CreateClient") names given (draft.Client (client.Create of))
as_create names given (client.Create of) is = (of, is)
as_create names given d is = absurd (differ _ _ is.0 refl)

pub as_update : (names : List Text) (given : Data) (d : ClientDraft) → IsDraft (codes "UpdateClient") names given (draft.Client d)
    → (id : Text) × (height : ℕ) × IsDraft (codes "UpdateClient") names given (draft.Client (client.Update id height))
as_update names given (client.Update id height) is = (id, height, is)
as_update names given d is = absurd (differ _ _ is.0 refl)

pub as_conn_init : (names : List Text) (given : Data) (d : ConnectionDraft) → IsDraft (codes "ConnOpenInit") names given (draft.Connection d)
    → (id peer : Text) × IsDraft (codes "ConnOpenInit") names given (draft.Connection (connection.OpenInit id peer))
as_conn_init names given (connection.OpenInit id peer) is = (id, peer, is)
as_conn_init names given d is = absurd (differ _ _ is.0 refl)

pub as_conn_try : (names : List Text) (given : Data) (d : ConnectionDraft) → IsDraft (codes "ConnOpenTry") names given (draft.Connection d)
    → (id peer link : Text) × (from : ProofSource)
    × IsDraft (codes "ConnOpenTry") names given (draft.Connection (connection.OpenTry id peer link from))
as_conn_try names given (connection.OpenTry id peer link from) is = (id, peer, link, from, is)
as_conn_try names given d is = absurd (differ _ _ is.0 refl)

pub as_conn_ack : (names : List Text) (given : Data) (d : ConnectionDraft) → IsDraft (codes "ConnOpenAck") names given (draft.Connection d)
    → (id peer : Text) × (from : ProofSource) × IsDraft (codes "ConnOpenAck") names given (draft.Connection (connection.OpenAck id peer from))
as_conn_ack names given (connection.OpenAck id peer from) is = (id, peer, from, is)
as_conn_ack names given d is = absurd (differ _ _ is.0 refl)

pub as_conn_confirm : (names : List Text) (given : Data) (d : ConnectionDraft) → IsDraft (codes "ConnOpenConfirm") names given (draft.Connection d)
    → (id : Text) × (from : ProofSource) × IsDraft (codes "ConnOpenConfirm") names given (draft.Connection (connection.OpenConfirm id from))
as_conn_confirm names given (connection.OpenConfirm id from) is = (id, from, is)
as_conn_confirm names given d is = absurd (differ _ _ is.0 refl)

pub as_chan_init : (names : List Text) (given : Data) (d : ChannelDraft) → IsDraft (codes "ChanOpenInit") names given (draft.Channel d)
    → (m : ChanOpenInit) × IsDraft (codes "ChanOpenInit") names given (draft.Channel (channel.OpenInit m))
as_chan_init names given (channel.OpenInit m) is = (m, is)
as_chan_init names given d is = absurd (differ _ _ is.0 refl)

pub as_chan_try : (names : List Text) (given : Data) (d : ChannelDraft) → IsDraft (codes "ChanOpenTry") names given (draft.Channel d)
    → (m : ChannelTry) × IsDraft (codes "ChanOpenTry") names given (draft.Channel (channel.OpenTry m))
as_chan_try names given (channel.OpenTry m) is = (m, is)
as_chan_try names given d is = absurd (differ _ _ is.0 refl)

pub as_chan_ack : (names : List Text) (given : Data) (d : ChannelDraft) → IsDraft (codes "ChanOpenAck") names given (draft.Channel d)
    → (port id peer : Text) × (from : ProofSource) × IsDraft (codes "ChanOpenAck") names given (draft.Channel (channel.OpenAck port id peer from))
as_chan_ack names given (channel.OpenAck port id peer from) is = (port, id, peer, from, is)
as_chan_ack names given d is = absurd (differ _ _ is.0 refl)

pub as_chan_confirm : (names : List Text) (given : Data) (d : ChannelDraft) → IsDraft (codes "ChanOpenConfirm") names given (draft.Channel d)
    → (port id : Text) × (from : ProofSource) × IsDraft (codes "ChanOpenConfirm") names given (draft.Channel (channel.OpenConfirm port id from))
as_chan_confirm names given (channel.OpenConfirm port id from) is = (port, id, from, is)
as_chan_confirm names given d is = absurd (differ _ _ is.0 refl)

pub as_close_init : (names : List Text) (given : Data) (d : ChannelDraft) → IsDraft (codes "ChanCloseInit") names given (draft.Channel d)
    → (m : ChanCloseInit) × IsDraft (codes "ChanCloseInit") names given (draft.Channel (channel.CloseInit m))
as_close_init names given (channel.CloseInit m) is = (m, is)
as_close_init names given d is = absurd (differ _ _ is.0 refl)

pub as_close_confirm : (names : List Text) (given : Data) (d : ChannelDraft) → IsDraft (codes "ChanCloseConfirm") names given (draft.Channel d)
    → (port id : Text) × (from : ProofSource) × IsDraft (codes "ChanCloseConfirm") names given (draft.Channel (channel.CloseConfirm port id from))
as_close_confirm names given (channel.CloseConfirm port id from) is = (port, id, from, is)
as_close_confirm names given d is = absurd (differ _ _ is.0 refl)

pub as_transfer : (names : List Text) (given : Data) (d : PacketDraft) → IsDraft (codes "Transfer") names given (draft.Packet d)
    → (m : Transfer) × IsDraft (codes "Transfer") names given (draft.Packet (packet.Transfer m))
as_transfer names given (packet.Transfer m) is = (m, is)
as_transfer names given d is = absurd (differ _ _ is.0 refl)

pub as_transfer_many : (names : List Text) (given : Data) (d : PacketDraft) → IsDraft (codes "TransferMany") names given (draft.Packet d)
    → (m : TransferMany) × IsDraft (codes "TransferMany") names given (draft.Packet (packet.TransferMany m))
as_transfer_many names given (packet.TransferMany m) is = (m, is)
as_transfer_many names given d is = absurd (differ _ _ is.0 refl)

pub as_send_note : (names : List Text) (given : Data) (d : PacketDraft) → IsDraft (codes "SendNote") names given (draft.Packet d)
    → (m : SendNote) × IsDraft (codes "SendNote") names given (draft.Packet (packet.SendNote m))
as_send_note names given (packet.SendNote m) is = (m, is)
as_send_note names given d is = absurd (differ _ _ is.0 refl)

pub as_recv : (names : List Text) (given : Data) (d : PacketDraft) → IsDraft (codes "RecvPacket") names given (draft.Packet d)
    → (sent : SentPacket) × (height : ℕ) × IsDraft (codes "RecvPacket") names given (draft.Packet (packet.Recv sent height))
as_recv names given (packet.Recv sent height) is = (sent, height, is)
as_recv names given d is = absurd (differ _ _ is.0 refl)

pub as_ack : (names : List Text) (given : Data) (d : PacketDraft) → IsDraft (codes "AckPacket") names given (draft.Packet d)
    → (sent : SentPacket) × (from : ProofSource) × IsDraft (codes "AckPacket") names given (draft.Packet (packet.Ack sent from))
as_ack names given (packet.Ack sent from) is = (sent, from, is)
as_ack names given d is = absurd (differ _ _ is.0 refl)

pub as_timeout : (names : List Text) (given : Data) (d : PacketDraft) → IsDraft (codes "Timeout") names given (draft.Packet d)
    → (sent : SentPacket) × (from : ProofSource) × IsDraft (codes "Timeout") names given (draft.Packet (packet.Timeout sent from))
as_timeout names given (packet.Timeout sent from) is = (sent, from, is)
as_timeout names given d is = absurd (differ _ _ is.0 refl)

pub as_timeout_on_close : (names : List Text) (given : Data) (d : PacketDraft) → IsDraft (codes "TimeoutOnClose") names given (draft.Packet d)
    → (sent : SentPacket) × (from : ProofSource) × IsDraft (codes "TimeoutOnClose") names given (draft.Packet (packet.TimeoutOnClose sent from))
as_timeout_on_close names given (packet.TimeoutOnClose sent from) is = (sent, from, is)
as_timeout_on_close names given d is = absurd (differ _ _ is.0 refl)

-- ---- groups of messages, by how their names begin and end

abbrev ends_client : Text → Bool
ends_client name = ends_with eqb name (codes "Client")

abbrev starts_conn : Text → Bool
starts_conn name = starts_with eqb name (codes "Conn")

abbrev starts_chan : Text → Bool
starts_chan name = starts_with eqb name (codes "Chan")

client_ends : (d : ClientDraft) → ends_client (name_of (draft_kind (draft.Client d))) ≡ true
client_ends (client.Create of) = refl
client_ends d = refl

connection_starts : (d : ConnectionDraft) → (ends_client (name_of (draft_kind (draft.Connection d))) ≡ false) × (starts_conn (name_of (draft_kind (draft.Connection d))) ≡ true)
connection_starts (connection.OpenInit id peer) = (refl, refl)
connection_starts d = (refl, refl)

channel_starts : (d : ChannelDraft) → (ends_client (name_of (draft_kind (draft.Channel d))) ≡ false) × (starts_conn (name_of (draft_kind (draft.Channel d))) ≡ false)
    × (starts_chan (name_of (draft_kind (draft.Channel d))) ≡ true)
channel_starts (channel.OpenInit m) = (refl, refl, refl)
channel_starts d = (refl, refl, refl)

packet_starts : (d : PacketDraft) → (ends_client (name_of (draft_kind (draft.Packet d))) ≡ false) × (starts_conn (name_of (draft_kind (draft.Packet d))) ≡ false)
    × (starts_chan (name_of (draft_kind (draft.Packet d))) ≡ false)
packet_starts (packet.Transfer m) = (refl, refl, refl)
packet_starts d = (refl, refl, refl)

-- a test of a name that comes out in two ways
both_ways : (test : Text → Bool) (a b : Text) → a ≡ b → test a ≡ true → test b ≡ false → ⊥
both_ways test a b same holds fails = false≢true (sym fails ∙ sym (ap test same) ∙ holds)

pub only_clients : (name : Text) (names : List Text) (given : Data) → ends_with eqb name (codes "Client") ≡ true
    → ((d : ClientDraft) → ¬ IsDraft name names given (draft.Client d)) → (d : Draft) → ¬ IsDraft name names given d
only_clients name names given ends none (draft.Client d) is = none d is
only_clients name names given ends none (draft.Connection d) is = both_ways ends_client name _ (sym is.0) ends (connection_starts d).0
only_clients name names given ends none (draft.Channel d) is = both_ways ends_client name _ (sym is.0) ends (channel_starts d).0
only_clients name names given ends none (draft.Packet d) is = both_ways ends_client name _ (sym is.0) ends (packet_starts d).0

pub only_connections : (name : Text) (names : List Text) (given : Data) → ends_with eqb name (codes "Client") ≡ false
    → starts_with eqb name (codes "Conn") ≡ true
    → ((d : ConnectionDraft) → ¬ IsDraft name names given (draft.Connection d)) → (d : Draft) → ¬ IsDraft name names given d
only_connections name names given ends starts none (draft.Client d) is = both_ways ends_client _ name is.0 (client_ends d) ends
only_connections name names given ends starts none (draft.Connection d) is = none d is
only_connections name names given ends starts none (draft.Channel d) is = both_ways starts_conn name _ (sym is.0) starts (channel_starts d).1
only_connections name names given ends starts none (draft.Packet d) is = both_ways starts_conn name _ (sym is.0) starts (packet_starts d).1

pub only_channels : (name : Text) (names : List Text) (given : Data) → ends_with eqb name (codes "Client") ≡ false
    → starts_with eqb name (codes "Conn") ≡ false → starts_with eqb name (codes "Chan") ≡ true
    → ((d : ChannelDraft) → ¬ IsDraft name names given (draft.Channel d)) → (d : Draft) → ¬ IsDraft name names given d
only_channels name names given ends conn starts none (draft.Client d) is = both_ways ends_client _ name is.0 (client_ends d) ends
only_channels name names given ends conn starts none (draft.Connection d) is = both_ways starts_conn _ name is.0 (connection_starts d).1 conn
only_channels name names given ends conn starts none (draft.Channel d) is = none d is
only_channels name names given ends conn starts none (draft.Packet d) is = both_ways starts_chan name _ (sym is.0) starts (packet_starts d).2

pub only_packets : (name : Text) (names : List Text) (given : Data) → ends_with eqb name (codes "Client") ≡ false
    → starts_with eqb name (codes "Conn") ≡ false → starts_with eqb name (codes "Chan") ≡ false
    → ((d : PacketDraft) → ¬ IsDraft name names given (draft.Packet d)) → (d : Draft) → ¬ IsDraft name names given d
only_packets name names given ends conn chan none (draft.Client d) is = both_ways ends_client _ name is.0 (client_ends d) ends
only_packets name names given ends conn chan none (draft.Connection d) is = both_ways starts_conn _ name is.0 (connection_starts d).1 conn
only_packets name names given ends conn chan none (draft.Channel d) is = both_ways starts_chan _ name is.0 (channel_starts d).2 chan
only_packets name names given ends conn chan none (draft.Packet d) is = none d is

-- ---- no message of a name

abbrev IsNot : Text → Text → Type 0
IsNot name word = name ≡ word → ⊥

pub no_client : (name : Text) (names : List Text) (given : Data) → IsNot name (codes "CreateClient") → IsNot name (codes "UpdateClient")
    → (d : ClientDraft) → ¬ IsDraft name names given (draft.Client d)
no_client name names given a b (client.Create of) is = a (sym is.0)
no_client name names given a b (client.Update id height) is = b (sym is.0)

pub no_connection : (name : Text) (names : List Text) (given : Data) → IsNot name (codes "ConnOpenInit") → IsNot name (codes "ConnOpenTry")
    → IsNot name (codes "ConnOpenAck") → IsNot name (codes "ConnOpenConfirm")
    → (d : ConnectionDraft) → ¬ IsDraft name names given (draft.Connection d)
no_connection name names given a b c d (connection.OpenInit id peer) is = a (sym is.0)
no_connection name names given a b c d (connection.OpenTry id peer link from) is = b (sym is.0)
no_connection name names given a b c d (connection.OpenAck id peer from) is = c (sym is.0)
no_connection name names given a b c d (connection.OpenConfirm id from) is = d (sym is.0)

pub no_channel : (name : Text) (names : List Text) (given : Data) → IsNot name (codes "ChanOpenInit") → IsNot name (codes "ChanOpenTry")
    → IsNot name (codes "ChanOpenAck") → IsNot name (codes "ChanOpenConfirm") → IsNot name (codes "ChanCloseInit") → IsNot name (codes "ChanCloseConfirm")
    → (d : ChannelDraft) → ¬ IsDraft name names given (draft.Channel d)
no_channel name names given a b c d e f (channel.OpenInit m) is = a (sym is.0)
no_channel name names given a b c d e f (channel.OpenTry m) is = b (sym is.0)
no_channel name names given a b c d e f (channel.OpenAck port id peer from) is = c (sym is.0)
no_channel name names given a b c d e f (channel.OpenConfirm port id from) is = d (sym is.0)
no_channel name names given a b c d e f (channel.CloseInit m) is = e (sym is.0)
no_channel name names given a b c d e f (channel.CloseConfirm port id from) is = f (sym is.0)

pub no_packet : (name : Text) (names : List Text) (given : Data) → IsNot name (codes "Transfer") → IsNot name (codes "TransferMany")
    → IsNot name (codes "SendNote") → IsNot name (codes "RecvPacket") → IsNot name (codes "AckPacket") → IsNot name (codes "Timeout")
    → IsNot name (codes "TimeoutOnClose") → (d : PacketDraft) → ¬ IsDraft name names given (draft.Packet d)
no_packet name names given a b c d e f g (packet.Transfer m) is = a (sym is.0)
no_packet name names given a b c d e f g (packet.TransferMany m) is = b (sym is.0)
no_packet name names given a b c d e f g (packet.SendNote m) is = c (sym is.0)
no_packet name names given a b c d e f g (packet.Recv sent height) is = d (sym is.0)
no_packet name names given a b c d e f g (packet.Ack sent from) is = e (sym is.0)
no_packet name names given a b c d e f g (packet.Timeout sent from) is = f (sym is.0)
no_packet name names given a b c d e f g (packet.TimeoutOnClose sent from) is = g (sym is.0)

-- ---- steps

-- what a step's `do` says that isn't a message
abbrev is_step_word : Text → Bool
is_step_word name =
    list_any (bytes_eq name) (codes "Block" ∷ codes "root" ∷ codes "prove" ∷ codes "totals" ∷ codes "open" ∷ codes "relay" ∷ [])

no_word : (k : MessageKind) → is_step_word (name_of k) ≡ false
no_word kind.CreateClient = refl
no_word k = refl

abbrev Says : Text → Data → Type 0
Says word given = IsText word (get (codes "do") given)

one_word : (a b : Text) (given : Data) → Says a given → Says b given → a ≡ b
one_word a b given = one_text a b (get (codes "do") given)

no_message : (k : MessageKind) (word : Text) (given : Data) → Says (name_of k) given → Says word given → is_step_word word ≡ true → ⊥
no_message k word given first second known =
    both_ways is_step_word word (name_of k) (sym (one_word (name_of k) word given first second)) known (no_word k)

other : (a b : Text) (given : Data) → Says a given → Says b given → bytes_eq a b ≡ false → ⊥
other a b given first second = differ a b (one_word a b given first second)

pub as_block : (names : List Text) (given : Data) → Says (codes "Block") given → (s : Step) → IsStepObject names s (Some given)
    → (on : ℕ) × (time : Option ℕ) × IsStepObject names (step.Block on time) (Some given)
as_block names given says (step.Block on time) is = (on, time, is)
as_block names given says (step.Message on d) is = absurd (no_message (draft_kind d) _ given is.1.0 says refl)
as_block names given says s is = absurd (other _ _ given is.1.0 says refl)

pub as_root : (names : List Text) (given : Data) → Says (codes "root") given → (s : Step) → IsStepObject names s (Some given)
    → (on height : ℕ) × IsStepObject names (step.Root on height) (Some given)
as_root names given says (step.Root on height) is = (on, height, is)
as_root names given says (step.Message on d) is = absurd (no_message (draft_kind d) _ given is.1.0 says refl)
as_root names given says s is = absurd (other _ _ given is.1.0 says refl)

pub as_prove : (names : List Text) (given : Data) → Says (codes "prove") given → (s : Step) → IsStepObject names s (Some given)
    → (on height : ℕ) × (key : Key) × IsStepObject names (step.Prove on height key) (Some given)
as_prove names given says (step.Prove on height key) is = (on, height, key, is)
as_prove names given says (step.Message on d) is = absurd (no_message (draft_kind d) _ given is.1.0 says refl)
as_prove names given says s is = absurd (other _ _ given is.1.0 says refl)

pub as_totals : (names : List Text) (given : Data) → Says (codes "totals") given → (s : Step) → IsStepObject names s (Some given)
    → (on : ℕ) × (id denom : Text) × IsStepObject names (step.Totals on id denom) (Some given)
as_totals names given says (step.Totals on id denom) is = (on, id, denom, is)
as_totals names given says (step.Message on d) is = absurd (no_message (draft_kind d) _ given is.1.0 says refl)
as_totals names given says s is = absurd (other _ _ given is.1.0 says refl)

pub as_open : (names : List Text) (given : Data) → Says (codes "open") given → (s : Step) → IsStepObject names s (Some given)
    → (first second : ℕ) × (app : Application) × IsStepObject names (step.Open first second app) (Some given)
as_open names given says (step.Open first second app) is = (first, second, app, is)
as_open names given says (step.Message on d) is = absurd (no_message (draft_kind d) _ given is.1.0 says refl)
as_open names given says s is = absurd (other _ _ given is.1.0 says refl)

pub as_relay : (names : List Text) (given : Data) → Says (codes "relay") given → (s : Step) → IsStepObject names s (Some given)
    → (first second turns : ℕ) × IsStepObject names (step.Relay first second turns) (Some given)
as_relay names given says (step.Relay first second turns) is = (first, second, turns, is)
as_relay names given says (step.Message on d) is = absurd (no_message (draft_kind d) _ given is.1.0 says refl)
as_relay names given says s is = absurd (other _ _ given is.1.0 says refl)

-- the step of a message has the message's members beside its own
pub as_message : (names : List Text) (given : Data) (name : Text) → Says name given → (on : ℕ) (d : Draft)
    → IsStepObject names (step.Message on d) (Some given) → IsDraft name names given d
as_message names given name says on d is = (one_word (name_of (draft_kind d)) name given is.1.0 says, (is.0, is.1.1.1))

-- each step says what it does
pub says_something : (names : List Text) (given : Data) (s : Step) → IsStepObject names s (Some given) → (word : Text) × Says word given
says_something names given (step.Message on d) is = (name_of (draft_kind d), is.1.0)
says_something names given (step.Block on time) is = (codes "Block", is.1.0)
says_something names given (step.Root on height) is = (codes "root", is.1.0)
says_something names given (step.Prove on height key) is = (codes "prove", is.1.0)
says_something names given (step.Totals on id denom) is = (codes "totals", is.1.0)
says_something names given (step.Open first second app) is = (codes "open", is.1.0)
says_something names given (step.Relay first second turns) is = (codes "relay", is.1.0)

-- where `do` says none of the words, and no message is so, no step is
pub no_step : (names : List Text) (given : Data) (name : Text) → Says name given → IsNot name (codes "Block") → IsNot name (codes "root")
    → IsNot name (codes "prove") → IsNot name (codes "totals") → IsNot name (codes "open") → IsNot name (codes "relay")
    → ((on : ℕ) (d : Draft) → ¬ IsStepObject names (step.Message on d) (Some given)) → (s : Step) → ¬ IsStepObject names s (Some given)
no_step names given name says a b c d e f none (step.Message on m) is = none on m is
no_step names given name says a b c d e f none (step.Block on time) is = a (one_word name _ given says is.1.0)
no_step names given name says a b c d e f none (step.Root on height) is = b (one_word name _ given says is.1.0)
no_step names given name says a b c d e f none (step.Prove on height key) is = c (one_word name _ given says is.1.0)
no_step names given name says a b c d e f none (step.Totals on id denom) is = d (one_word name _ given says is.1.0)
no_step names given name says a b c d e f none (step.Open first second app) is = e (one_word name _ given says is.1.0)
no_step names given name says a b c d e f none (step.Relay first second turns) is = f (one_word name _ given says is.1.0)

-- ---- faults that are passed on

-- what comes out of a map as a fault was that before
pub err_before : {T U E : Type 0} (r : Result T E) (mapped : Result U E) (e : E) (Q : T → Type 0) → MatchResult r Q (λ (d : E). mapped ≡ Err d)
    → is_ok mapped ≡ is_ok r → mapped ≡ Err e → r ≡ Err e
err_before (Ok x) mapped e Q cases same is = absurd (false≢true (sym (ap is_ok is) ∙ same))
err_before (Err d) mapped e Q cases same is =
    let both = sym cases ∙ is in
    let one : d ≡ e = cc in
    ap Err one
