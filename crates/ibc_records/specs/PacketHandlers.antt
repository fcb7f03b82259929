-- What becomes of the messages of packets, on whichever chain (ICS 4, "Packet flow & handling").
use Rattle.std.specs.Prelude.{◌≡◌, ℕ, ⊤, Result}
use Rattle.ibc_ids.specs.Texts.{Text}
use Rattle.ibc_ids.specs.declared.refusal.Refusal.{Refusal}
use Rattle.ibc_wire.specs.declared.packet.Packet.{Packet}
use Rattle.ibc_wire.specs.declared.messages.RecvPacket.{RecvPacket}
use Rattle.ibc_wire.specs.declared.messages.AckPacket.{AckPacket}
use Rattle.ibc_wire.specs.declared.messages.Timeout.{Timeout}
use Rattle.ibc_wire.specs.declared.messages.TimeoutOnClose.{TimeoutOnClose}
use Rattle.ibc_machine.specs.declared.reply.Effect.TheVariants as effect
use Rattle.ibc_machine.specs.chain.Records.{Channel}
use Rattle.ibc_machine.specs.chain.Checks.{Checked}
use Rattle.ibc_machine.specs.ics04.Packets.{may_receive, recv_packet, ack_packet, timeout, timeout_on_close}
use Rattle.ibc_records.specs.RecordsModel.{RecordsModel}
use Rattle.ibc_records.specs.HandlerContract.{host_with, IsHandledWith}

-- ICS 4, "recvPacket"
abbrev pub HandlesRecv : {A : Type 0} → (A → Text → Packet → Text × A) → RecvPacket → RecordsModel → A → Result (Text × Text) Refusal → RecordsModel → A → Type 0
HandlesRecv receives m old app result new after =
    (chain chains : ℕ) → IsHandledWith (λ acks. effect.Ack acks.0) (recv_packet receives m) chain chains old app result new after

-- ICS 4, "acknowledgePacket"
abbrev pub HandlesAck : {A : Type 0} → (A → Text → Packet → Text → Checked A) → AckPacket → RecordsModel → A → Result ⊤ Refusal → RecordsModel → A → Type 0
HandlesAck told m old app result new after =
    (chain chains : ℕ) → IsHandledWith (λ _. effect.None) (ack_packet told m) chain chains old app result new after

-- ICS 4, "timeoutPacket"
abbrev pub HandlesTimeout : {A : Type 0} → (A → Text → Packet → Checked A) → Timeout → RecordsModel → A → Result ⊤ Refusal → RecordsModel → A → Type 0
HandlesTimeout told m old app result new after =
    (chain chains : ℕ) → IsHandledWith (λ _. effect.None) (timeout told m) chain chains old app result new after

-- ICS 4, "timeoutOnClose"
abbrev pub HandlesOnClose : {A : Type 0} → (A → Text → Packet → Checked A) → TimeoutOnClose → RecordsModel → A → Result ⊤ Refusal → RecordsModel → A → Type 0
HandlesOnClose told m old app result new after =
    (chain chains : ℕ) → IsHandledWith (λ _. effect.None) (timeout_on_close told m) chain chains old app result new after

-- whether the end may receive the packet in the working block, on whichever chain
abbrev pub IsReceivable : RecordsModel → Channel → Packet → Result ⊤ Refusal → Type 0
IsReceivable held mine p result = (chain chains : ℕ) → result ≡ may_receive (host_with chain chains held) mine p
