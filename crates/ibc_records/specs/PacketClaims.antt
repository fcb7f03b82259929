-- What the messages of packets claim of the peer, as a proof shows it (ICS 4, "recvPacket", "acknowledgePacket" and "timeoutOnClose").
use Rattle.std.specs.Prelude.{⊤, Result}
use Rattle.ibc_ids.specs.Texts.{Text}
use Rattle.ibc_ids.specs.declared.refusal.Refusal.{Refusal}
use Rattle.ibc_merkle.specs.declared.proof.Proof.{Proof}
use Rattle.ibc_wire.specs.declared.messages.RecvPacket.{RecvPacket}
use Rattle.ibc_wire.specs.declared.messages.AckPacket.{AckPacket}
use Rattle.ibc_wire.specs.declared.messages.TimeoutOnClose.{TimeoutOnClose}
use Rattle.ibc_machine.specs.chain.Records.{Channel}
use Rattle.ibc_machine.specs.ics04.Packets.{was_sent, was_acknowledged}
use Rattle.ibc_records.specs.RecordsModel.{RecordsModel, core_of}
use Rattle.ibc_records.specs.ProofVerdicts.{IsShown}
use Rattle.ibc_records.specs.Peers.{IsPeerShown}
use Rattle.ibc_records.specs.TimeoutChecks.{expected_closed_end}

-- the peer committed to the packet
abbrev pub IsSentShown : RecordsModel → Text → RecvPacket → Proof → Result ⊤ Refusal → Type 0
IsSentShown held client m proof result = IsShown held client m.height (was_sent m.packet) proof result

-- the peer acknowledged the packet so
abbrev pub IsAckShown : RecordsModel → Text → AckPacket → Proof → Result ⊤ Refusal → Type 0
IsAckShown held client m proof result = IsShown held client m.height (was_acknowledged m.packet m.ack) proof result

-- the peer's end of the packet's channel is closed
abbrev pub IsClosedShown : RecordsModel → Channel → TimeoutOnClose → Proof → Result ⊤ Refusal → Type 0
IsClosedShown held mine m proof result =
    IsPeerShown held mine.end m.height m.packet.destination_channel (expected_closed_end (core_of held) m.packet mine.end) proof result
