-- The records of a chain are as their types promise: names are names, and numbers fit.
use Rattle.std.proofs.Common.{◌≡◌, ℕ, ◌<◌, ◌^◌, Bool, true, false, Option, Some, None}
use Rattle.std.specs.Prelude.{⊤, ◌==◌}
use Rattle.std.specs.List.{AllByRecursion}
use Rattle.ibc_ids.specs.Texts.{Text}
use Rattle.ibc_ids.specs.Names.{is_client, is_connection, is_channel, is_port, is_version}
use Rattle.ibc_wire.specs.Spelling.{connection_state_number, channel_state_number}
use Rattle.ibc_wire.specs.declared.records.ConnectionEnd.{ConnectionEnd}
use Rattle.ibc_wire.specs.declared.records.ChannelEnd.{ChannelEnd}
use Rattle.ibc_machine.specs.chain.Records.{Core, Client, Channel, Commitment}

pub record IsTypedClient (e : Text × Client) : Type 0 where
  pub name : is_client e.0 ≡ true
  pub chain : e.1.state.chain < 256
  pub latest : e.1.state.latest < 2 ^ 64

-- a peer's name stands just where the state isn't INIT
abbrev pub IsNamedPeer : (Text → Bool) → Bool → Option Text → Type 0
IsNamedPeer test true None = ⊤
IsNamedPeer test true (Some id) = ⊥
IsNamedPeer test false None = ⊥
IsNamedPeer test false (Some id) = test id ≡ true

pub record IsTypedConnection (c : ConnectionEnd) : Type 0 where
  pub client : is_client c.client ≡ true
  pub peer_client : is_client c.peer_client ≡ true
  pub peer : IsNamedPeer is_connection (connection_state_number c.state == 1) c.peer_connection

abbrev pub IsTypedConnectionAt : Text × ConnectionEnd → Type 0
IsTypedConnectionAt e = (is_connection e.0 ≡ true) × IsTypedConnection e.1

pub record IsTypedEnd (c : ChannelEnd) : Type 0 where
  pub peer_port : is_port c.peer_port ≡ true
  pub peer : IsNamedPeer is_channel (channel_state_number c.state == 1) c.peer_channel
  pub connection : is_connection c.connection ≡ true
  pub version : is_version c.version ≡ true

pub record IsTypedCommitment (e : ℕ × Commitment) : Type 0 where
  pub sequence : e.0 < 2 ^ 64
  pub timeout_height : e.1.timeout_height < 2 ^ 64
  pub timeout_time : e.1.timeout_time < 2 ^ 64

-- a sequence fits
abbrev pub IsSequence : ℕ → Type 0
IsSequence n = n < 2 ^ 64

abbrev pub HasSequence : ℕ × Text → Type 0
HasSequence e = IsSequence e.0

pub record IsTypedChannel (c : Channel) : Type 0 where
  pub end : IsTypedEnd c.end
  pub next_send : c.next_send < 2 ^ 64
  pub next_recv : c.next_recv < 2 ^ 64
  pub next_ack : c.next_ack < 2 ^ 64
  pub commitments : AllByRecursion IsTypedCommitment c.commitments
  pub receipts : AllByRecursion IsSequence c.receipts
  pub acks : AllByRecursion HasSequence c.acks

pub record IsTypedChannelAt (e : (Text × Text) × Channel) : Type 0 where
  pub port : is_port e.0.0 ≡ true
  pub channel : is_channel e.0.1 ≡ true
  pub value : IsTypedChannel e.1

pub record IsTyped (core : Core) : Type 0 where
  pub clients : AllByRecursion IsTypedClient core.clients
  pub connections : AllByRecursion IsTypedConnectionAt core.connections
  pub channels : AllByRecursion IsTypedChannelAt core.channels
  pub next_client : core.next_client < 2 ^ 64
  pub next_connection : core.next_connection < 2 ^ 64
  pub next_channel : core.next_channel < 2 ^ 64
