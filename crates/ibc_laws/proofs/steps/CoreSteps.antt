-- What an accepted message did to the core of its chain: one label for each kind of change, with what was
-- checked and what was seen of the other chain. All that follows goes by these labels.
use Rattle.std.proofs.Common.{◌≡◌, ℕ, ◌+◌, ◌-◌, ◌^◌, ◌≤◌, true, false, Some, None, ◌⊎◌, nat_cmp, not, ◌==◌, ◌&&◌, nat_lt, Ok}
use Rattle.ibc_ids.specs.Texts.{Text}
use Rattle.ibc_ids.specs.Maps.{at}
use Rattle.ibc_ids.specs.Paths.{nth_client, nth_connection, nth_channel}
use Rattle.ibc_wire.specs.declared.packet.Packet.{Packet}
use Rattle.ibc_wire.specs.declared.records.ConnectionState.TheVariants as conn
use Rattle.ibc_wire.specs.declared.records.ConnectionEnd.{ConnectionEnd}
use Rattle.ibc_wire.specs.declared.records.ChannelState.{ChannelState}
use Rattle.ibc_wire.specs.declared.records.ChannelState.TheVariants as chan
use Rattle.ibc_wire.specs.declared.records.ChannelEnd.{ChannelEnd}
use Rattle.ibc_wire.specs.declared.messages.Message.{Message}
use Rattle.ibc_machine.specs.declared.reply.Effect.{Effect}
use Rattle.ibc_machine.specs.chain.Records.{Core, Block, Client, Channel, Commitment, client_at, connection_at, channel_at, with_client, with_connection, with_channel, commitment_of}
use Rattle.ibc_machine.specs.ics24.Evidence.{Host}
use Rattle.ibc_machine.specs.ics02.Clients.{new_client, with_known_height}
use Rattle.ibc_machine.specs.ics03.Connections.{with_new_connection}
use Rattle.ibc_machine.specs.ics04.Channels.{is_open, client_of, peer_channel_of, counterpart, with_new_channel, in_state}
use Rattle.ibc_machine.specs.ics04.Packets.{is_ordered, has_peer, has_received, is_timed_out, after_send, after_receive, after_ack, after_timeout}
use Rattle.ibc_machine.specs.chain.Applications.{require_application, on_open, on_close}
use Rattle.ibc_machine.specs.chain.Machine.{World}
use Rattle.ibc_laws.proofs.steps.Seen.{Sees}
use Rattle.ibc_laws.proofs.steps.Told.{Told, told_by, Quiet, Sent, Received, Acknowledged, TimedOut}

-- how far an end is: not yet OPEN, OPEN, CLOSED
abbrev pub rank : ChannelState → ℕ
rank chan.Init = 0
rank chan.TryOpen = 0
rank chan.Open = 1
rank chan.Closed = 2

-- the number may still be used
abbrev pub IsFree : ℕ → Type 0
IsFree n = not (n == 2 ^ 64 - 1) ≡ true

-- ---- what a block of the other chain had

-- a client of this chain
abbrev pub HadClient : ℕ → Text → Block → Type 0
HadClient chain client b =
    (c : Client) × (client_at b.records.core client ≡ Some c) × (c.state.chain ≡ chain)

-- an end of a connection, in any state, that names this one and its client
abbrev pub HadConnection : Text → Text → Text → Block → Type 0
HadConnection connection client peer b =
    (c : ConnectionEnd) × (connection_at b.records.core peer ≡ Some c) × (c.client ≡ client)
    × (c.peer_connection ≡ Some connection)

abbrev pub HadChannel : Text → Text → ChannelEnd → Block → Type 0
HadChannel port id end b = (c : Channel) × (channel_at b.records.core port id ≡ Some c) × (c.end ≡ end)

abbrev pub HadCommitment : Packet → Block → Type 0
HadCommitment p b = (c : Channel) × (channel_at b.records.core p.source_port p.source_channel ≡ Some c)
    × (at nat_cmp p.sequence c.commitments ≡ Some (commitment_of p))

abbrev pub HadAck : Packet → Text → Block → Type 0
HadAck p ack b = (c : Channel) × (channel_at b.records.core p.destination_port p.destination_channel ≡ Some c)
    × (at nat_cmp p.sequence c.acks ≡ Some ack)

-- the destination, if it was there with this order, hadn't received the packet
abbrev pub HadNotReceived : Channel → Packet → Block → Type 0
HadNotReceived mine p b =
    (c : Channel) → channel_at b.records.core p.destination_port p.destination_channel ≡ Some c
    → is_ordered c ≡ is_ordered mine → has_received c p.sequence ≡ false

-- the end that a peer must have, seen from an own one
abbrev pub their_end : Core → Channel → Text → Text → ChannelState → ChannelEnd
their_end core mine port id state = counterpart core mine.end port (Some id) state

-- the packet's time was over at the height, or its destination was CLOSED
abbrev pub WasOver : Core → Channel → Packet → ℕ → Block → Type 0
WasOver core mine p height b = (is_timed_out (commitment_of p) height b.time ≡ true)
    ⊎ HadChannel mine.end.peer_port p.destination_channel
    (their_end core mine p.source_port p.source_channel chan.Closed) b

-- ---- connections

-- a new end: its client is there; it isn't OPEN; where it names a peer, the peer has the client that it names
pub record StartsConnection (w : World) (host : Host) (core : Core) (end : ConnectionEnd) : Type 0 where
  pub client : Client
  pub there : client_at core end.client ≡ Some client
  pub not_open : end.state ≡ conn.Open → ⊥
  pub unnamed : end.state ≡ conn.Init → end.peer_connection ≡ None
  pub named : (end.state ≡ conn.Init → ⊥) → (p : Text) × (end.peer_connection ≡ Some p)
  pub seen : (p : Text) → end.peer_connection ≡ Some p
      → (height : ℕ) × Sees w core end.client height (HadClient host.chain end.peer_client)

pub record AnswersConnection (w : World) (host : Host) (core : Core) (id : Text) (mine : ConnectionEnd) (peer : Text) : Type 0 where
  pub there : connection_at core id ≡ Some mine
  pub state : mine.state ≡ conn.Init
  pub height : ℕ
  pub sees : Sees w core mine.client height
      (λ b. HadConnection id mine.peer_client peer b × HadClient host.chain mine.peer_client b)

pub record ConfirmsConnection (w : World) (core : Core) (id : Text) (mine : ConnectionEnd) : Type 0 where
  pub there : connection_at core id ≡ Some mine
  pub state : mine.state ≡ conn.TryOpen
  pub peer : Text
  pub named : mine.peer_connection ≡ Some peer
  pub height : ℕ
  pub sees : Sees w core mine.client height (HadConnection id mine.peer_client peer)

-- ---- channels

-- the port has an application, which takes a channel of this order and version
abbrev pub IsTaken : Text → ChannelEnd → Type 0
IsTaken port end = (require_application port ≡ Ok tt) × (on_open port end.order end.version ≡ Ok tt)

-- a new end over a connection, which is OPEN unless the end is INIT
pub record OpensChannel (core : Core) (port : Text) (end : ChannelEnd) : Type 0 where
  pub taken : IsTaken port end
  pub connection : ConnectionEnd
  pub there : connection_at core end.connection ≡ Some connection
  pub unopened : rank end.state ≡ 0
  pub over_open : (end.state ≡ chan.Init → ⊥) → connection.state ≡ conn.Open
  pub unnamed : end.state ≡ chan.Init → end.peer_channel ≡ None
  pub named : (end.state ≡ chan.Init → ⊥) → (p : Text) × (end.peer_channel ≡ Some p)

-- the client under an end sees this
abbrev pub SeesPeer : World → Core → Channel → ℕ → (Block → Type 0) → Type 0
SeesPeer w core mine height P = Sees w core (client_of core mine.end.connection) height P

pub record Answers (w : World) (core : Core) (port id : Text) (mine : Channel) (peer : Text) : Type 0 where
  pub state : mine.end.state ≡ chan.Init
  pub over_open : is_open (connection_at core mine.end.connection) ≡ true
  pub height : ℕ
  pub sees : SeesPeer w core mine height
      (HadChannel mine.end.peer_port peer (their_end core mine port id chan.TryOpen))

-- an end that was answered becomes OPEN, or CLOSED, as its peer is
pub record Follows (w : World) (core : Core) (port id : Text) (mine : Channel) (state : ChannelState) : Type 0 where
  pub answered : mine.end.state ≡ chan.Init → ⊥
  pub not_init : state ≡ chan.Init → ⊥
  pub higher : rank mine.end.state ≤ rank state
  pub height : ℕ
  pub sees : SeesPeer w core mine height
      (HadChannel mine.end.peer_port (peer_channel_of mine.end) (their_end core mine port id state))

pub record Receives (w : World) (host : Host) (core : Core) (port id : Text) (mine : Channel) (p : Packet) : Type 0 where
  pub to_port : p.destination_port ≡ port
  pub to_channel : p.destination_channel ≡ id
  pub state : mine.end.state ≡ chan.Open
  pub peer : has_peer mine p.source_port p.source_channel ≡ true
  pub in_time : is_timed_out (commitment_of p) host.height host.time ≡ false
  pub fresh : has_received mine p.sequence ≡ false
  pub in_order : (is_ordered mine && nat_lt mine.next_recv p.sequence) ≡ false
  pub height : ℕ
  pub sees : SeesPeer w core mine height (HadCommitment p)

-- the packet of an end that is acknowledged or timed out
pub record Settles (port id : Text) (mine : Channel) (p : Packet) : Type 0 where
  pub from_port : p.source_port ≡ port
  pub from_channel : p.source_channel ≡ id
  pub settled : 1 ≤ rank mine.end.state
  pub peer : has_peer mine p.destination_port p.destination_channel ≡ true
  pub committed : at nat_cmp p.sequence mine.commitments ≡ Some (commitment_of p)

pub record Acks (w : World) (core : Core) (port id : Text) (mine : Channel) (p : Packet) : Type 0 where
  pub settles : Settles port id mine p
  pub state : mine.end.state ≡ chan.Open
  pub in_order : (is_ordered mine && not (p.sequence == mine.next_ack)) ≡ false
  pub ack : Text
  pub height : ℕ
  pub sees : SeesPeer w core mine height (HadAck p ack)

pub record TimesOut (w : World) (core : Core) (port id : Text) (mine : Channel) (p : Packet) : Type 0 where
  pub settles : Settles port id mine p
  pub height : ℕ
  pub sees : SeesPeer w core mine height (λ b. HadNotReceived mine p b × WasOver core mine p height b)

abbrev pub answered : Text → Channel → Channel
answered peer mine = record mine { end = record mine.end { state = chan.Open; peer_channel = Some peer } }

-- what an end goes through
pub data ChannelStep (w : World) (host : Host) (core : Core) (port id : Text) (mine : Channel) : Told → Channel → Type 0 where
  answers : (peer : Text) → Answers w core port id mine peer
      → ChannelStep w host core port id mine Quiet (answered peer mine)
  follows : (state : ChannelState) → Follows w core port id mine state
      → ChannelStep w host core port id mine Quiet (in_state state mine)
  closes : mine.end.state ≡ chan.Open → on_close port ≡ Ok tt → ChannelStep w host core port id mine Quiet (in_state chan.Closed mine)
  sends : (c : Commitment) → mine.end.state ≡ chan.Open
      → ChannelStep w host core port id mine (Sent port id mine.next_send c) (after_send c mine)
  receives : (p : Packet) (ack : Text) → Receives w host core port id mine p
      → ChannelStep w host core port id mine (Received p (Some ack)) (after_receive p.sequence ack mine)
  acknowledges : (p : Packet) → (s : Acks w core port id mine p)
      → ChannelStep w host core port id mine (Acknowledged p s.ack) (after_ack p.sequence mine)
  times_out : (p : Packet) → TimesOut w core port id mine p
      → ChannelStep w host core port id mine (TimedOut p) (after_timeout p.sequence mine)

-- ---- all

pub data CoreStep (w : World) (host : Host) (core : Core) : Told → Core → Type 0 where
  creates_client : (chain : ℕ) → (chain == host.chain) ≡ false → IsFree core.next_client
      → CoreStep w host core Quiet (record (with_client (nth_client core.next_client) (new_client chain) core) { next_client = core.next_client + 1 })
  updates_client : (id : Text) (client : Client) (height : ℕ) → client_at core id ≡ Some client
      → CoreStep w host core Quiet (with_client id (with_known_height height client) core)
  starts_connection : (end : ConnectionEnd) → IsFree core.next_connection → StartsConnection w host core end
      → CoreStep w host core Quiet (with_new_connection (nth_connection core.next_connection) end core)
  answers_connection : (id : Text) (mine : ConnectionEnd) (peer : Text) → AnswersConnection w host core id mine peer
      → CoreStep w host core Quiet (with_connection id (record mine { state = conn.Open; peer_connection = Some peer }) core)
  confirms_connection : (id : Text) (mine : ConnectionEnd) → ConfirmsConnection w core id mine
      → CoreStep w host core Quiet (with_connection id (record mine { state = conn.Open }) core)
  opens_channel : (port : Text) (end : ChannelEnd) → IsFree core.next_channel → OpensChannel core port end
      → CoreStep w host core Quiet (with_new_channel port (nth_channel core.next_channel) end core)
  changes_channel : (told : Told) (port id : Text) (mine after : Channel) → channel_at core port id ≡ Some mine
      → ChannelStep w host core port id mine told after
      → CoreStep w host core told (with_channel port id after core)

-- the message, accepted with this effect and this core after it, did a labelled step
abbrev pub Did : World → Host → Core → Message → Effect × Core → Type 0
Did w host core m y = CoreStep w host core (told_by m y.0) y.1
