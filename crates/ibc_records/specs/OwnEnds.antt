-- The own ends of connections and channels, as the records have them (ICS 3, "ConnectionEnd"; ICS 4, "ChannelEnd").
use Rattle.std.specs.Prelude.{◌≡◌, ◌-◌, ◌^◌, ◌<◌, ◌≤◌, ℕ, true, Option, Some, Result, Ok, Err, IfOk, IfErr}
use Rattle.std.specs.Option.{IsSomeAnd}
use Rattle.ibc_ids.specs.Texts.{Text}
use Rattle.ibc_ids.specs.declared.refusal.Refusal.{Refusal}
use Rattle.ibc_ids.specs.declared.refusal.Refusal.TheVariants.{UnknownChannel}
use Rattle.ibc_wire.specs.declared.records.ConnectionEnd.{ConnectionEnd}
use Rattle.ibc_wire.specs.declared.packet.Packet.{Packet}
use Rattle.ibc_machine.specs.chain.Records.{Channel, channel_at, connection_at, is_known_height}
use Rattle.ibc_machine.specs.chain.Checks.{Checked, expect}
use Rattle.ibc_machine.specs.ics24.Evidence.{require_known}
use Rattle.ibc_machine.specs.ics04.Channels.{client_of}
use Rattle.ibc_machine.specs.ics04.Packets.{is_ordered}
use Rattle.ibc_records.specs.RecordsModel.{RecordsModel, core_of}

-- the connection end of this name
abbrev pub IsConnectionAt : RecordsModel → Text → ConnectionEnd → Type 0
IsConnectionAt held id end = connection_at (core_of held) id ≡ Some end

-- the channel end of this port and name
abbrev pub IsEndAt : RecordsModel → Text → Text → Channel → Type 0
IsEndAt held port id mine = channel_at (core_of held) port id ≡ Some mine

-- the channel end that sent the packet
abbrev pub IsSourceEnd : RecordsModel → Packet → Channel → Type 0
IsSourceEnd held p mine = channel_at (core_of held) p.source_port p.source_channel ≡ Some mine

-- the same, or none
abbrev pub source_end : RecordsModel → Packet → Option Channel
source_end held p = channel_at (core_of held) p.source_port p.source_channel

-- the channel end that receives the packet
abbrev pub IsDestinationEnd : RecordsModel → Packet → Channel → Type 0
IsDestinationEnd held p mine = channel_at (core_of held) p.destination_port p.destination_channel ≡ Some mine

-- there is such a channel end, or else `UnknownChannel`
abbrev pub end_or_unknown : RecordsModel → Text → Text → Checked Channel
end_or_unknown held port id = expect (channel_at (core_of held) port id) UnknownChannel

-- the client knows the height
abbrev pub KnowsHeight : RecordsModel → Text → ℕ → Type 0
KnowsHeight held client height = is_known_height (core_of held) client height ≡ true

-- where it is Ok, the connection's client knows the height
abbrev pub PassesKnown : {A : Type 0} → RecordsModel → Text → ℕ → Result A Refusal → Type 0
PassesKnown held connection height result = IfOk result (λ _. require_known (core_of held) (client_of (core_of held) connection) height ≡ Ok tt)

-- where it is refused, the connection's client doesn't know the height
abbrev pub FailsKnown : {A : Type 0} → RecordsModel → Text → ℕ → Result A Refusal → Type 0
FailsKnown held connection height result =
    IfErr result (λ refusal. require_known (core_of held) (client_of (core_of held) connection) height ≡ Err refusal)

-- an ordered end receives this sequence next, or an earlier one (ICS 4, nextSequenceRecv)
abbrev pub IsAwaited : Channel → ℕ → Type 0
IsAwaited mine n = is_ordered mine ≡ true → mine.next_recv ≤ n

-- an ordered end takes the acknowledgement of this sequence next (ICS 4, nextSequenceAck)
abbrev pub IsNextAck : Channel → ℕ → Type 0
IsNextAck mine n = is_ordered mine ≡ true → mine.next_ack ≡ n

-- an ordered end can count one packet more that it receives
abbrev pub CanCountRecv : Channel → Type 0
CanCountRecv mine = is_ordered mine ≡ true → mine.next_recv < 2 ^ 64 - 1

-- an ordered end can count one acknowledgement more
abbrev pub CanCountAck : Channel → Type 0
CanCountAck mine = is_ordered mine ≡ true → mine.next_ack < 2 ^ 64 - 1

-- there is such a channel end, whose next sequence isn't the last number
abbrev pub CanSend : RecordsModel → Text → Text → Type 0
CanSend held port id = IsSomeAnd (channel_at (core_of held) port id) (λ mine. mine.next_send < 2 ^ 64 - 1)

-- there is an end that receives the packet, and can count it
abbrev pub CanReceive : RecordsModel → Packet → Type 0
CanReceive held p = IsSomeAnd (channel_at (core_of held) p.destination_port p.destination_channel) (λ mine. CanCountRecv mine)

-- there is an end that sent the packet, and can count its acknowledgement
abbrev pub CanAcknowledge : RecordsModel → Packet → Type 0
CanAcknowledge held p = IsSomeAnd (channel_at (core_of held) p.source_port p.source_channel) (λ mine. CanCountAck mine)
