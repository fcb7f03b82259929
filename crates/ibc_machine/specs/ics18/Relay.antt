-- What a relayer plans from views of two chains (ICS 18, "Relayer algorithm": pending datagrams).
use Rattle.std.specs.Prelude.{ℕ, ◌+◌, ◌==◌, ◌&&◌, ◌||◌, not, Bool, true, false, List, [], ◌++◌, length, map, Option, Some, None, if◌then◌else◌}
use Rattle.std.specs.List.{filter, flat_map, filter_map, list_any, last_or}
use Rattle.std.specs.Option.{unwrap_or, option_map, option_map_or, option_and_then}
use Rattle.std.specs.Ordering.{nat_cmp}
use Rattle.ibc_ids.specs.Texts.{Text, same_text}
use Rattle.ibc_ids.specs.Maps.{at}
use Rattle.ibc_ids.specs.Paths.{path}
use Rattle.ibc_ids.specs.declared.key.Key.{Key}
use Rattle.ibc_merkle.specs.Written.{written_proof}
use Rattle.ibc_wire.specs.Spelling.{proof_bytes}
use Rattle.ibc_wire.specs.declared.records.ChannelState.TheVariants.{Open, Closed}
use Rattle.ibc_wire.specs.declared.packet.Packet.{Packet}
use Rattle.ibc_wire.specs.declared.messages.Message.{Message}
use Rattle.ibc_wire.specs.declared.messages.Message.TheVariants as message
use Rattle.ibc_machine.specs.chain.Records.{Core, Block, MachineChain, Client, Channel, Commitment, client_at, channel_at, is_one_of}
use Rattle.ibc_machine.specs.ics24.Image.{image, core_root}
use Rattle.ibc_machine.specs.ics04.Channels.{is_in_state, client_of, peer_channel_of}
use Rattle.ibc_machine.specs.ics04.Packets.{is_ordered, is_timed_out, has_received, has_peer}
use Rattle.ibc_machine.specs.chain.Genesis.{empty_core}
use Rattle.ibc_machine.specs.promises.Histories.{End, packet_from}
use Rattle.ibc_machine.specs.ics04.Proving.{commitment_key, ack_key, receipt_key, next_recv_key, destination_key, recv_message, ack_message, timeout_message, timeout_on_close_message}

-- what a chain proves as it stands at its last committed height (0 if there is none), with the time of that height and
-- that of the working block
pub record View : Type 0 where
  pub chain : ℕ
  pub height : ℕ
  pub time : ℕ
  pub working_time : ℕ
  pub core : Core

-- the view of chain k as it stands after its last committed block
abbrev pub view_at : ℕ → MachineChain → Option Block → View
view_at k chain None = record { chain = k; height = 0; time = 0; working_time = chain.time; core = empty_core }
view_at k chain (Some last) = record {
  chain = k;
  height = length chain.committed;
  time = last.time;
  working_time = chain.time;
  core = last.records.core;
}

abbrev pub view_of : ℕ → MachineChain → View
view_of k chain = view_at k chain (last_or None chain.committed)

-- a message about a packet, by the packet's end on the chain that gets it
pub data PendingKind : Type 0 where
  Receive : PendingKind
  Acknowledge : PendingKind
  TimeOut : PendingKind
  TimeOutClosed : PendingKind

pub record Pending : Type 0 where
  pub port : Text
  pub channel : Text
  pub kind : PendingKind
  pub sequence : ℕ

-- ---- the pending messages of an end of b, whose peer on a is theirs

abbrev pub pending_of : (Text × Text) → PendingKind → ℕ → Pending
pending_of place kind n = record { port = place.0; channel = place.1; kind = kind; sequence = n }

-- 1. commitments that stand at a, that b hasn't received, and whose timeouts b's working block hasn't reached
abbrev pub is_to_receive : View → Channel → ℕ × Commitment → Bool
is_to_receive b mine entry =
    not (has_received mine entry.0) && not (is_timed_out entry.1 (b.height + 1) b.working_time)

abbrev pub to_receive : View → (Text × Text) → Channel → Channel → List Pending
to_receive b place mine theirs =
    map (λ entry. pending_of place Receive entry.0) (filter (is_to_receive b mine) theirs.commitments)

-- 2. standing commitments of b whose acknowledgement stands at a
abbrev pub is_acknowledged : Channel → ℕ × Commitment → Bool
is_acknowledged theirs entry = option_map_or (λ ack. true) (at nat_cmp entry.0 theirs.acks) false

abbrev pub to_acknowledge : (Text × Text) → Channel → Channel → List Pending
to_acknowledge place mine theirs =
    map (λ entry. pending_of place Acknowledge entry.0) (filter (is_acknowledged theirs) mine.commitments)

-- 3. standing commitments of b that a hasn't received: timed out at a's height, or else a's end is CLOSED
abbrev pub timeout_kind : View → Channel → ℕ × Commitment → Option PendingKind
timeout_kind a theirs entry =
    if has_received theirs entry.0 then None
    else if is_timed_out entry.1 a.height a.time then Some TimeOut
    else if is_in_state Closed theirs then Some TimeOutClosed else None

abbrev pub to_time_out : View → (Text × Text) → Channel → Channel → List Pending
to_time_out a place mine theirs =
    filter_map (λ entry. option_map (λ kind. pending_of place kind entry.0) (timeout_kind a theirs entry)) mine.commitments

-- an end of b that a's chain is the peer of
abbrev pub tracks : View → View → Channel → Bool
tracks a b mine =
    option_map_or (λ (c : Client). c.state.chain == a.chain)
    (client_at b.core (client_of b.core mine.end.connection)) false

abbrev pub pending_if : Bool → List Pending → List Pending
pending_if true all = all
pending_if false all = []

abbrev pub end_pending : View → View → (Text × Text) → Channel → Channel → List Pending
end_pending a b place mine theirs =
    let open_ : Bool = is_in_state Open mine in
    pending_if open_ (to_receive b place mine theirs) ++ pending_if open_ (to_acknowledge place mine theirs)
    ++ pending_if (open_ || is_in_state Closed mine) (to_time_out a place mine theirs)

-- the end on a that an end of b names, where it names that end back
abbrev pub if_names : (Text × Text) → Channel → Option Channel
if_names place theirs = if has_peer theirs place.0 place.1 then Some theirs else None

abbrev pub theirs_of : View → (Text × Text) → Channel → Option Channel
theirs_of a place mine =
    option_and_then (if_names place) (channel_at a.core mine.end.peer_port (peer_channel_of mine.end))

abbrev pub pending_at : View → View → (Text × Text) × Channel → List Pending
pending_at a b entry =
    pending_if (tracks a b entry.1) (option_map_or (end_pending a b entry.0 entry.1) (theirs_of a entry.0 entry.1) [])

-- by port and channel, in an end by the three items, in an item by sequence; at height 0 nothing is pending
unfoldable pub pending : View → View → List Pending
pending a b = pending_if (not (a.height == 0)) (flat_map (pending_at a b) b.core.channels)

-- ---- the messages, with the written proofs at a's height

abbrev pub proof_at : View → Key → Text
proof_at a key = proof_bytes (written_proof (image a.core) (path key))

abbrev pub end_of : View → Text → Text → End
end_of view port channel = record { chain = view.chain; port = port; channel = channel }

-- the next sequence that the peer of an ordered end waits for
abbrev pub next_recv : Channel → Channel → ℕ
next_recv mine theirs = if is_ordered mine then theirs.next_recv else 0

-- the key that shows whether the peer has received a packet of an end
abbrev pub unreceived_key : Channel → Packet → Key
unreceived_key mine p = if is_ordered mine then next_recv_key p else receipt_key p

-- the message of a kind on the packet p, which mine sent and theirs is to receive
abbrev pub message_of : View → Channel → Channel → PendingKind → Packet → Text → Message
message_of a mine theirs Receive p ack = recv_message p a.height (proof_at a (commitment_key p))
message_of a mine theirs Acknowledge p ack = ack_message p a.height ack (proof_at a (ack_key p))
message_of a mine theirs TimeOut p ack =
    timeout_message p a.height (next_recv mine theirs) (proof_at a (unreceived_key mine p))
message_of a mine theirs TimeOutClosed p ack =
    timeout_on_close_message p a.height (next_recv mine theirs) (proof_at a (unreceived_key mine p))
    (proof_at a (destination_key p))

-- the packet under a sequence that stands at an end
abbrev pub packet_at : End → Channel → ℕ → Option Packet
packet_at e mine n = option_map (packet_from e mine n) (at nat_cmp n mine.commitments)

-- the packet that is pending: from a's end where it is to be received, and else from b's
abbrev pub packet_of : View → View → Pending → Channel → Channel → Option Packet
packet_of a b pend mine theirs = elim pend.kind [
  | Receive ↦ packet_at (end_of a mine.end.peer_port (peer_channel_of mine.end)) theirs pend.sequence
  | _ ↦ packet_at (end_of b pend.port pend.channel) mine pend.sequence
]

abbrev pub ack_of : Pending → Channel → Text
ack_of pend theirs = unwrap_or (at nat_cmp pend.sequence theirs.acks) []

abbrev pub message_for : View → View → Pending → Channel → Channel → Option Message
message_for a b pend mine theirs =
    option_map (λ p. message_of a mine theirs pend.kind p (ack_of pend theirs)) (packet_of a b pend mine theirs)

abbrev pub pending_message : View → View → Pending → Option Message
pending_message a b pend =
    option_and_then (λ mine. option_and_then (message_for a b pend mine) (theirs_of a (pend.port, pend.channel) mine))
    (channel_at b.core pend.port pend.channel)

-- the client under a pending message's end
abbrev pub client_used : View → Pending → Text
client_used b pend =
    option_map_or (λ (mine : Channel). client_of b.core mine.end.connection)
    (channel_at b.core pend.port pend.channel) []

-- the client is used, and doesn't know a's height
abbrev pub needs_update : View → View → List Pending → (Text × Client) → Bool
needs_update a b all entry =
    list_any (λ pend. same_text (client_used b pend) entry.0) all && not (is_one_of entry.1.known a.height)

abbrev pub update_of : View → (Text × Client) → Message
update_of a entry =
    message.UpdateClient (record {
      client = entry.0;
      header = record { chain = a.chain; height = a.height; time = a.time; root = core_root a.core };
    })

-- the messages for b that prove from a: the client updates, and then what is pending
unfoldable pub plan : View → View → List Message
plan a b =
    map (update_of a) (filter (needs_update a b (pending a b)) b.core.clients)
    ++ filter_map (pending_message a b) (pending a b)
