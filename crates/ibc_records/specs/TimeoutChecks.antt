-- Timeouts at what the client of an end knows of the peer (ICS 4, "sendPacket", "timeoutPacket" and "timeoutOnClose").
use Rattle.std.specs.Prelude.{◌+◌, ◌&&◌, ◌==◌, ℕ, Bool, false, Some, ⊤}
use Rattle.std.specs.Option.{option_map_or}
use Rattle.ibc_ids.specs.Texts.{Text}
use Rattle.ibc_ids.specs.declared.refusal.Refusal.TheVariants.{NotTimedOut}
use Rattle.ibc_wire.specs.declared.records.ChannelState.TheVariants.{Closed}
use Rattle.ibc_wire.specs.declared.records.ChannelEnd.{ChannelEnd}
use Rattle.ibc_wire.specs.declared.packet.Packet.{Packet}
use Rattle.ibc_machine.specs.chain.Records.{Core, Channel, Commitment, client_at, commitment_of}
use Rattle.ibc_machine.specs.chain.Checks.{Checked, require}
use Rattle.ibc_machine.specs.ics24.Evidence.{Evidence}
use Rattle.ibc_machine.specs.ics04.Channels.{client_of, counterpart}
use Rattle.ibc_machine.specs.ics04.Packets.{has_passed, is_timed_out}
use Rattle.ibc_path_store.specs.StoreModel.{height_of}
use Rattle.ibc_records.specs.RecordsModel.{RecordsModel}

-- what is committed of a packet with these timeouts
abbrev pub with_timeouts : Text → ℕ → ℕ → Commitment
with_timeouts payload height time = record { payload = payload; timeout_height = height; timeout_time = time }

-- the timeouts that are committed are the packet's
abbrev pub same_timeouts : Commitment → Packet → Bool
same_timeouts c p = (c.timeout_height == p.timeout_height) && (c.timeout_time == p.timeout_time)

-- a timeout is reached at the latest height that the end's client knows
abbrev pub is_timeout_reached : Core → Channel → Commitment → Evidence → Bool
is_timeout_reached core mine c evidence =
    let id = client_of core mine.end.connection in
    option_map_or (has_passed evidence core id c) (client_at core id) false

-- a timeout of the packet is reached at a height that the client knows
abbrev pub require_timed_out : Text → ℕ → Packet → Evidence → Checked ⊤
require_timed_out client height p evidence =
    require (is_timed_out (commitment_of p) height (evidence.time_at client height)) NotTimedOut

-- a timeout of the packet is reached in the working block
abbrev pub is_too_late : RecordsModel → Packet → Bool
is_too_late held p = is_timed_out (commitment_of p) (height_of held.store + 1) held.store.time

-- the peer's end of the packet's channel, closed
abbrev pub expected_closed_end : Core → Packet → ChannelEnd → ChannelEnd
expected_closed_end core p mine = counterpart core mine p.source_port (Some p.source_channel) Closed
