-- The ends that the handshakes leave, and the parts of their checks (ICS 4, "Opening handshake" and "Closing handshake").
use Rattle.std.specs.Prelude.{◌≡◌, ⊤, Option, Some, None, Result, Ok, IsSome, IfOk}
use Rattle.std.specs.Option.{option_map, option_map_or}
use Rattle.ibc_ids.specs.Texts.{Text}
use Rattle.ibc_ids.specs.Paths.{nth_channel}
use Rattle.ibc_ids.specs.declared.refusal.Refusal.{Refusal}
use Rattle.ibc_ids.specs.declared.refusal.Refusal.TheVariants.{UnknownConnection, UnknownChannel, WrongState}
use Rattle.ibc_merkle.specs.declared.proof.Proof.{Proof}
use Rattle.ibc_wire.specs.declared.records.ConnectionEnd.{ConnectionEnd}
use Rattle.ibc_wire.specs.declared.records.ChannelState.{ChannelState}
use Rattle.ibc_wire.specs.declared.records.ChannelState.TheVariants.{Init, TryOpen, Open}
use Rattle.ibc_wire.specs.declared.records.ChannelEnd.{ChannelEnd}
use Rattle.ibc_wire.specs.declared.records.Order.{Order}
use Rattle.ibc_wire.specs.declared.messages.ChanOpenInit.{ChanOpenInit}
use Rattle.ibc_wire.specs.declared.messages.ChanOpenTry.{ChanOpenTry}
use Rattle.ibc_wire.specs.declared.messages.ChanOpenAck.{ChanOpenAck}
use Rattle.ibc_machine.specs.declared.reply.Effect.{Effect}
use Rattle.ibc_machine.specs.declared.reply.Effect.TheVariants as effect
use Rattle.ibc_machine.specs.chain.Records.{Core, Channel, connection_at, channel_at, with_channel}
use Rattle.ibc_machine.specs.chain.Checks.{Checked, require, expect, ◌>>=◌}
use Rattle.ibc_machine.specs.ics04.Channels.{is_open, channel_end, counterpart, with_new_channel}
use Rattle.ibc_records.specs.RecordsModel.{RecordsModel, core_of}
use Rattle.ibc_records.specs.HandlerContract.{AreWrittenRecords}
use Rattle.ibc_records.specs.Peers.{IsPeerShown}

-- ---- ends of this chain

-- the end of a channel, without its counters
abbrev pub end_at : Core → Text → Text → Option ChannelEnd
end_at core port channel = option_map (λ (found : Channel). found.end) (channel_at core port channel)

-- there is such a channel
abbrev pub HasEndAt : RecordsModel → Text → Text → Type 0
HasEndAt held port channel = IsSome (end_at (core_of held) port channel)

-- the channel has this end, where there is such a channel
abbrev pub with_end : Text → Text → ChannelEnd → Core → Core
with_end port channel end core =
    option_map_or (λ (found : Channel). with_channel port channel (record found { end = end }) core) (channel_at core port channel) core

-- a new end, under the next name
abbrev pub new_end : Text → ChannelEnd → Core → Effect × Core
new_end port end core =
    (effect.Channel (nth_channel core.next_channel), with_new_channel port (nth_channel core.next_channel) end core)

-- an end that was set
abbrev pub with_set_end : Text → Text → Core → ChannelEnd → Effect × Core
with_set_end port channel core end = (effect.None, with_end port channel end core)

-- the end was added under the next name, which is this one
abbrev pub AddsNextChannel : Text → ChannelEnd → RecordsModel → Text → RecordsModel → Type 0
AddsNextChannel port end old id new =
    (id ≡ nth_channel old.next_channel) × AreWrittenRecords (with_new_channel port id end (core_of old)) old new

-- the end was set
abbrev pub SetsEnd : Text → Text → ChannelEnd → RecordsModel → RecordsModel → Type 0
SetsEnd port channel end old new = AreWrittenRecords (with_end port channel end (core_of old)) old new

-- where it is Ok, it is the end with these fields
abbrev pub IsEndWith : ChannelState → Order → Text → Option Text → Text → Text → Result ChannelEnd Refusal → Type 0
IsEndWith state order peer_port peer_channel connection version result =
    IfOk result (λ end. end ≡ channel_end state order peer_port peer_channel connection version)

abbrev pub init_end : ChanOpenInit → ChannelEnd
init_end m = channel_end Init m.order m.peer_port None m.connection m.version

abbrev pub try_end : ChanOpenTry → ChannelEnd
try_end m = channel_end TryOpen m.order m.peer_port (Some m.peer_channel) m.connection m.version

abbrev pub after_ack : ChanOpenAck → ChannelEnd → ChannelEnd
after_ack m mine = record mine { state = Open; peer_channel = Some m.peer_channel }

abbrev pub end_in_state : ChannelState → ChannelEnd → ChannelEnd
end_in_state state mine = record mine { state = state }

-- ---- checks

-- there is such a channel, with this end
abbrev pub require_end : Core → Text → Text → Checked ChannelEnd
require_end core port channel = expect (end_at core port channel) UnknownChannel

-- there is such a connection
abbrev pub require_connection : Core → Text → Checked ⊤
require_connection core id = expect (connection_at core id) UnknownConnection >>= λ (found : ConnectionEnd). Ok tt

-- the connection is there and open
abbrev pub require_open : Core → Text → Checked ⊤
require_open core id = require (is_open (connection_at core id)) WrongState

-- ---- the peer's end, as each message says that it is

abbrev pub expected_init_end : Core → ChanOpenTry → ChannelEnd → ChannelEnd
expected_init_end core m mine = counterpart core mine m.port None Init

abbrev pub expected_try_end : Core → ChanOpenAck → ChannelEnd → ChannelEnd
expected_try_end core m mine = counterpart core mine m.port (Some m.channel) TryOpen

-- the proof shows that the peer began the channel
abbrev pub IsChannelInitShown : RecordsModel → ChannelEnd → ChanOpenTry → Proof → Result ⊤ Refusal → Type 0
IsChannelInitShown held mine m proof result = IsPeerShown held mine m.height m.peer_channel (expected_init_end (core_of held) m mine) proof result

-- the proof shows that the peer answered the channel
abbrev pub IsChannelTryShown : RecordsModel → ChannelEnd → ChanOpenAck → Proof → Result ⊤ Refusal → Type 0
IsChannelTryShown held mine m proof result = IsPeerShown held mine m.height m.peer_channel (expected_try_end (core_of held) m mine) proof result
