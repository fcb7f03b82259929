-- What the application of a port answers to packets, over the ends of the channels (ICS 20, "Packet relay").
use Rattle.std.specs.Prelude.{◌≡◌, ◌⊎◌, ⊤, Result, Ok, Err, IfOk, IfErr, IfSome, OnOk}
use Rattle.ibc_ids.specs.Texts.{Text, pair_cmp}
use Rattle.ibc_ids.specs.Maps.{at}
use Rattle.ibc_ids.specs.declared.refusal.Refusal.{Refusal}
use Rattle.ibc_ids.specs.declared.refusal.Refusal.TheVariants.{NoMemory}
use Rattle.ibc_wire.specs.declared.packet.Packet.{Packet}
use Rattle.ibc_machine.specs.chain.Checks.{Checked}
use Rattle.ibc_records.specs.declared.acknowledgement.AckCopies.{AckCopies}
use Rattle.ibc_records.specs.RecordsModel.{RecordsModel}
use Rattle.ibc_records.specs.OwnEnds.{source_end}
use Rattle.ibc_records.specs.Packets.{ReceivesPacket}
use Rattle.ibc_records.specs.ChannelSteps.{EndsByName}

-- the copies are of the acknowledgement of a packet that came over a channel of this version
abbrev pub AnswersPacket : {A : Type 0} → (A → Text → Packet → Text × A) → A → Text → Packet → Result AckCopies Refusal → A → Type 0
AnswersPacket receives app version p result after = IfOk result (λ acks. (acks.reply, after) ≡ receives app version p)

-- the same, over the channel of this end
abbrev pub AnswersOn : {A : Type 0} → (A → Text → Packet → Text × A) → Text × Text → EndsByName → A → Packet → Result AckCopies Refusal → A → Type 0
AnswersOn receives name ends app p result after =
    IfOk result (λ acks. IfSome (at pair_cmp name ends.pairs) (λ mine. (acks.reply, after) ≡ receives app mine.end.version p))

-- where it is Ok, the packet was received with the first of the two acknowledgements, which are the same
abbrev pub IfReceived : {A : Type 0} → (A → Text → Packet → Text × A) → RecordsModel → A → Packet → Result (Text × Text) Refusal → RecordsModel → A → Type 0
IfReceived receives old app p result new after = IfOk result (λ acks. ReceivesPacket receives old app p acks.0 new after)

-- where it is Ok, the application took the acknowledgement
abbrev pub TellsAck : {A : Type 0} → (A → Text → Packet → Text → Checked A) → Text × Text → EndsByName → A → Packet → Text → Result ⊤ Refusal → A → Type 0
TellsAck told name ends app p ack result after =
    OnOk result (IfSome (at pair_cmp name ends.pairs) (λ mine. told app mine.end.version p ack ≡ Ok after))

-- where it is Ok, the application took the timeout
abbrev pub TellsTimeout : {A : Type 0} → (A → Text → Packet → Checked A) → Text × Text → EndsByName → A → Packet → Result ⊤ Refusal → A → Type 0
TellsTimeout told name ends app p result after =
    OnOk result (IfSome (at pair_cmp name ends.pairs) (λ mine. told app mine.end.version p ≡ Ok after))

-- memory ran out, or the refusal is the application's answer to the acknowledgement
abbrev pub IsAckRefusedOn : {A : Type 0} → (A → Text → Packet → Text → Checked A) → Text × Text → EndsByName → A → Packet → Text → Result ⊤ Refusal → Type 0
IsAckRefusedOn told name ends app p ack result =
    IfErr result (λ refusal. (refusal ≡ NoMemory) ⊎ IfSome (at pair_cmp name ends.pairs) (λ mine. told app mine.end.version p ack ≡ Err refusal))

-- memory ran out, or the refusal is the application's answer to the timeout
abbrev pub IsTimeoutRefusedOn : {A : Type 0} → (A → Text → Packet → Checked A) → Text × Text → EndsByName → A → Packet → Result ⊤ Refusal → Type 0
IsTimeoutRefusedOn told name ends app p result =
    IfErr result (λ refusal. (refusal ≡ NoMemory) ⊎ IfSome (at pair_cmp name ends.pairs) (λ mine. told app mine.end.version p ≡ Err refusal))

-- the same of the end that sent the packet, among the records
abbrev pub IsAckRefused : {A : Type 0} → (A → Text → Packet → Text → Checked A) → RecordsModel → A → Packet → Text → Result ⊤ Refusal → Type 0
IsAckRefused told held app p ack result =
    IfErr result (λ refusal. (refusal ≡ NoMemory) ⊎ IfSome (source_end held p) (λ mine. told app mine.end.version p ack ≡ Err refusal))

-- and of the timeout
abbrev pub IsTimeoutRefused : {A : Type 0} → (A → Text → Packet → Checked A) → RecordsModel → A → Packet → Result ⊤ Refusal → Type 0
IsTimeoutRefused told held app p result =
    IfErr result (λ refusal. (refusal ≡ NoMemory) ⊎ IfSome (source_end held p) (λ mine. told app mine.end.version p ≡ Err refusal))
