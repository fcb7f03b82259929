-- The proofs that messages carry of what another chain has at a height (ICS 3, "Opening handshake"; ICS 4, "Channel lifecycle
-- management" and "Packet flow & handling").
use Rattle.std.specs.Prelude.{ℕ, ◌==◌, Option, Some, None, if◌then◌else◌}
use Rattle.std.specs.Option.{option_map}
use Rattle.ibc_ids.specs.Texts.{Text}
use Rattle.ibc_wire.specs.declared.messages.Message.{Message}
use Rattle.ibc_wire.specs.declared.messages.Message.TheVariants as message
use Rattle.ibc_calls.specs.declared.messages.Carried.{Carried}

-- the height at which the proofs are, 0 where there is none
abbrev pub height_in : Message → ℕ
height_in (message.ConnOpenTry m) = m.height
height_in (message.ConnOpenAck m) = m.height
height_in (message.ConnOpenConfirm m) = m.height
height_in (message.ChanOpenTry m) = m.height
height_in (message.ChanOpenAck m) = m.height
height_in (message.ChanOpenConfirm m) = m.height
height_in (message.ChanCloseConfirm m) = m.height
height_in (message.RecvPacket m) = m.height
height_in (message.AckPacket m) = m.height
height_in (message.Timeout m) = m.height
height_in (message.TimeoutOnClose m) = m.height
height_in _ = 0

-- the one proof, or the first of two
abbrev pub first_in : Message → Option Text
first_in (message.ConnOpenTry m) = Some m.proof_end
first_in (message.ConnOpenAck m) = Some m.proof_end
first_in (message.ConnOpenConfirm m) = Some m.proof
first_in (message.ChanOpenTry m) = Some m.proof
first_in (message.ChanOpenAck m) = Some m.proof
first_in (message.ChanOpenConfirm m) = Some m.proof
first_in (message.ChanCloseConfirm m) = Some m.proof
first_in (message.RecvPacket m) = Some m.proof
first_in (message.AckPacket m) = Some m.proof
first_in (message.Timeout m) = Some m.proof
first_in (message.TimeoutOnClose m) = Some m.proof
first_in _ = None

-- that of the client, or of the closed channel
abbrev pub second_in : Message → Option Text
second_in (message.ConnOpenTry m) = Some m.proof_client
second_in (message.ConnOpenAck m) = Some m.proof_client
second_in (message.TimeoutOnClose m) = Some m.proof_close
second_in _ = None

-- the proof at an index
abbrev pub proof_in : ℕ → Message → Option Text
proof_in index m = if index == 0 then first_in m else if index == 1 then second_in m else None

-- with its height
abbrev pub carried_proof : ℕ → Message → Option Carried
carried_proof index m = option_map (λ proof. record { height = height_in m; proof = proof }) (proof_in index m)
