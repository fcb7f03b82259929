-- Channels (ICS 4, "Opening handshake" and "Closing handshake"). What the application of the port answers to
-- an opening or a closing is an argument.
use Rattle.std.specs.Prelude.{Bool, false, ◌||◌, ◌+◌, [], Option, Some, None, Ok, ⊤}
use Rattle.std.specs.Option.{option_map_or, option_and_then, unwrap_or}
use Rattle.ibc_ids.specs.Texts.{Text}
use Rattle.ibc_ids.specs.Paths.{nth_channel}
use Rattle.ibc_ids.specs.declared.key.Key.TheVariants as key
use Rattle.ibc_ids.specs.declared.refusal.Refusal.TheVariants.{UnknownConnection, UnknownChannel, WrongState, BadMessage}
use Rattle.ibc_wire.specs.declared.records.ConnectionState.TheVariants as conn
use Rattle.ibc_wire.specs.declared.records.ConnectionEnd.{ConnectionEnd}
use Rattle.ibc_wire.specs.declared.records.ChannelState.{ChannelState}
use Rattle.ibc_wire.specs.declared.records.ChannelState.TheVariants.{Init, TryOpen, Open, Closed}
use Rattle.ibc_wire.specs.declared.records.ChannelEnd.{ChannelEnd}
use Rattle.ibc_wire.specs.declared.records.Order.{Order}
use Rattle.ibc_wire.specs.declared.messages.ChanOpenInit.{ChanOpenInit}
use Rattle.ibc_wire.specs.declared.messages.ChanOpenTry.{ChanOpenTry}
use Rattle.ibc_wire.specs.declared.messages.ChanOpenAck.{ChanOpenAck}
use Rattle.ibc_wire.specs.declared.messages.ChanOpenConfirm.{ChanOpenConfirm}
use Rattle.ibc_wire.specs.declared.messages.ChanCloseInit.{ChanCloseInit}
use Rattle.ibc_wire.specs.declared.messages.ChanCloseConfirm.{ChanCloseConfirm}
use Rattle.ibc_machine.specs.declared.reply.Effect.TheVariants as effect
use Rattle.ibc_machine.specs.chain.Records.{Core, Channel, connection_at, channel_at, with_channel}
use Rattle.ibc_machine.specs.ics24.Values.{ChannelIs, Claim, present_claim, same_connection_state, same_channel_state}
use Rattle.ibc_machine.specs.chain.Checks.{Checked, require, expect, ◌>>=◌, ◌>>◌}
use Rattle.ibc_machine.specs.ics24.Evidence.{CoreHandler, require_number, require_known, require_proof}

-- ---- words

abbrev pub is_open : Option ConnectionEnd → Bool
is_open found = option_map_or (λ (c : ConnectionEnd). same_connection_state c.state conn.Open) found false

abbrev pub is_in_state : ChannelState → Channel → Bool
is_in_state state mine = same_channel_state mine.end.state state

-- OPEN or CLOSED
abbrev pub is_established : Channel → Bool
is_established mine = is_in_state Open mine || is_in_state Closed mine

-- the client under a connection, and the peer's name of the connection
abbrev pub client_of : Core → Text → Text
client_of core connection = option_map_or (λ (c : ConnectionEnd). c.client) (connection_at core connection) []

abbrev pub peer_connection_of : Core → Text → Text
peer_connection_of core connection =
    unwrap_or (option_and_then (λ (c : ConnectionEnd). c.peer_connection) (connection_at core connection)) []

abbrev pub peer_channel_of : ChannelEnd → Text
peer_channel_of mine = unwrap_or mine.peer_channel []

abbrev pub channel_end : ChannelState → Order → Text → Option Text → Text → Text → ChannelEnd
channel_end state order peer_port peer_channel connection version =
    record {
      state = state;
      order = order;
      peer_port = peer_port;
      peer_channel = peer_channel;
      connection = connection;
      version = version;
    }

-- What the peer's end must be, seen from an own end with this port and name: in this state, with the own
-- order and version, naming this end (none at Try), over the peer's end of the connection
abbrev pub counterpart : Core → ChannelEnd → Text → Option Text → ChannelState → ChannelEnd
counterpart core mine port channel state =
    channel_end state mine.order port channel (peer_connection_of core mine.connection) mine.version

-- the claim that the peer of an own end is this end
abbrev pub has_channel : ChannelEnd → Text → ChannelEnd → Claim
has_channel mine peer_channel theirs = present_claim (key.ChannelEnd mine.peer_port peer_channel) (ChannelIs theirs)

-- a new end, with its three counters at 1
abbrev pub new_channel : ChannelEnd → Channel
new_channel end =
    record { end = end; next_send = 1; next_recv = 1; next_ack = 1; commitments = []; receipts = []; acks = [] }

abbrev pub with_new_channel : Text → Text → ChannelEnd → Core → Core
with_new_channel port id end core =
    record (with_channel port id (new_channel end) core) { next_channel = core.next_channel + 1 }

-- the end in another state
abbrev pub in_state : ChannelState → Channel → Channel
in_state state mine = record mine { end = record mine.end { state = state } }

-- ---- opening

-- ICS 4, "chanOpenInit"; the connection may be in any state
unfoldable pub chan_open_init : Checked ⊤ → (Order → Text → Checked ⊤) → ChanOpenInit → CoreHandler
chan_open_init has_port opens m evidence host core = do
  let id = nth_channel core.next_channel
  has_port
  connection ← expect (connection_at core m.connection) UnknownConnection
  opens m.order m.version
  require_number core.next_channel
  let mine = channel_end Init m.order m.peer_port None m.connection m.version
  Ok (effect.Channel id, with_new_channel m.port id mine core)

-- ICS 4, "chanOpenTry"
unfoldable pub chan_open_try : Checked ⊤ → (Order → Text → Checked ⊤) → ChanOpenTry → CoreHandler
chan_open_try has_port opens m evidence host core = do
  let id = nth_channel core.next_channel
  let mine = channel_end TryOpen m.order m.peer_port (Some m.peer_channel) m.connection m.version
  let theirs = counterpart core mine m.port None Init
  require (evidence.is_proof m.proof) BadMessage
  has_port
  connection ← expect (connection_at core m.connection) UnknownConnection
  require (same_connection_state connection.state conn.Open) WrongState
  opens m.order m.version
  require_number core.next_channel
  require_known core connection.client m.height
  require_proof evidence connection.client m.height (has_channel mine m.peer_channel theirs) m.proof
  Ok (effect.Channel id, with_new_channel m.port id mine core)

-- ICS 4, "chanOpenAck"
unfoldable pub chan_open_ack : ChanOpenAck → CoreHandler
chan_open_ack m evidence host core = do
  require (evidence.is_proof m.proof) BadMessage
  mine ← expect (channel_at core m.port m.channel) UnknownChannel
  let client = client_of core mine.end.connection
  let theirs = counterpart core mine.end m.port (Some m.channel) TryOpen
  require (is_in_state Init mine) WrongState
  require (is_open (connection_at core mine.end.connection)) WrongState
  require_known core client m.height
  require_proof evidence client m.height (has_channel mine.end m.peer_channel theirs) m.proof
  let after : ChannelEnd = record mine.end { state = Open; peer_channel = Some m.peer_channel }
  Ok (effect.None, with_channel m.port m.channel (record mine { end = after }) core)

-- ICS 4, "chanOpenConfirm"
unfoldable pub chan_open_confirm : ChanOpenConfirm → CoreHandler
chan_open_confirm m evidence host core = do
  require (evidence.is_proof m.proof) BadMessage
  mine ← expect (channel_at core m.port m.channel) UnknownChannel
  let client = client_of core mine.end.connection
  let theirs = counterpart core mine.end m.port (Some m.channel) Open
  require (is_in_state TryOpen mine) WrongState
  require_known core client m.height
  require_proof evidence client m.height (has_channel mine.end (peer_channel_of mine.end) theirs) m.proof
  Ok (effect.None, with_channel m.port m.channel (in_state Open mine) core)

-- ---- closing

-- ICS 4, "chanCloseInit"
unfoldable pub chan_close_init : Checked ⊤ → ChanCloseInit → CoreHandler
chan_close_init closes m evidence host core = do
  mine ← expect (channel_at core m.port m.channel) UnknownChannel
  require (is_in_state Open mine) WrongState
  closes
  Ok (effect.None, with_channel m.port m.channel (in_state Closed mine) core)

-- ICS 4, "chanCloseConfirm"
unfoldable pub chan_close_confirm : ChanCloseConfirm → CoreHandler
chan_close_confirm m evidence host core = do
  require (evidence.is_proof m.proof) BadMessage
  mine ← expect (channel_at core m.port m.channel) UnknownChannel
  let client = client_of core mine.end.connection
  let theirs = counterpart core mine.end m.port (Some m.channel) Closed
  require (is_in_state TryOpen mine || is_in_state Open mine) WrongState
  require_known core client m.height
  require_proof evidence client m.height (has_channel mine.end (peer_channel_of mine.end) theirs) m.proof
  Ok (effect.None, with_channel m.port m.channel (in_state Closed mine) core)
