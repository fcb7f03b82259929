-- Machines that are wrong in one place, for the laws of tokens and of notes: each gives, takes or keeps what it shouldn't.
use Rattle.std.specs.Prelude.{◌≡◌, ◌<◌, ℕ, ◌+◌, codes, List, length, Option, Some, None, slice_get, slice_set, IsTrue, if◌then◌else◌}
use Rattle.std.specs.List.{Contains}
use Rattle.std.specs.Option.{option_map_or}
use Rattle.ibc_ids.specs.Texts.{Text, same_text}
use Rattle.ibc_ids.specs.Names.{is_user, is_base_denom}
use Rattle.ibc_wire.specs.declared.packet.Packet.{Packet}
use Rattle.ibc_wire.specs.declared.messages.RecvPacket.{RecvPacket}
use Rattle.ibc_wire.specs.declared.messages.AckPacket.{AckPacket}
use Rattle.ibc_wire.specs.declared.messages.Message.TheVariants as message
use Rattle.ibc_machine.specs.declared.event.Event.TheVariants as event
use Rattle.ibc_machine.specs.declared.reply.Reply.{Reply}
use Rattle.ibc_machine.specs.declared.reply.Reply.TheVariants as reply
use Rattle.ibc_machine.specs.chain.Records.{MachineChain}
use Rattle.ibc_machine.specs.ics24.Values.{same_value}
use Rattle.ibc_machine.specs.ics24.Evidence.{Evidence}
use Rattle.ibc_machine.specs.ics04.Packets.{recv_packet, ack_packet}
use Rattle.ibc_machine.specs.ics20.TokenData.{Data, one_token, data_text, data_of}
use Rattle.ibc_machine.specs.ics20.Bank.{escrow, give}
use Rattle.ibc_machine.specs.chain.Genesis.{GenesisState, start}
use Rattle.ibc_machine.specs.chain.Notes.{note_port}
use Rattle.ibc_machine.specs.chain.Applications.{on_recv, on_ack}
use Rattle.ibc_machine.specs.chain.Handlers.{host_of, after_message}
use Rattle.ibc_machine.specs.chain.Machine.{World, at_chain}
use Rattle.ibc_machine.specs.promises.Histories.{received_packets}
use Rattle.ibc_laws.specs.Tokens.{supply_at, balance_at, amount_paid_by}
use Rattle.ibc_laws.specs.Payments.{amount_received_by, amount_refunded_to}
use Rattle.ibc_laws.specs.StoredNotes.{notes_at, note_end, payloads}
use Rattle.ibc_laws.specs.Runs.{Machine, WorldStep, all_of, OnlySendersPay}
use Rattle.ibc_laws.specs.WrongPackets.{judging_evidence, comparing, machine_comparing}

-- ---- 9. one that puts an atom into an escrow at each block

abbrev pub chain_with_gift : MachineChain → MachineChain
chain_with_gift chain = record chain {
  records = record chain.records {
    apps = record chain.records.apps {
      balances = give (escrow (codes "channel-0")) (record { denom = codes "atom"; amount = 1 }) chain.records.apps.balances;
    };
  };
}

abbrev pub with_gift : ℕ → Reply × World → Reply × World
with_gift k (reply.Ok given, world) =
    (reply.Ok given, option_map_or (λ chain. slice_set world k (chain_with_gift chain)) (slice_get world k) world)
with_gift k (reply.No why, world) = (reply.No why, world)

unfoldable pub machine_with_gifts : GenesisState → Machine
machine_with_gifts genesis world (event.Block k next_time) =
    with_gift k (machine_comparing same_value genesis world (event.Block k next_time))
machine_with_gifts genesis world e = machine_comparing same_value genesis world e

-- so a supply grows
pub record SupplyGrew (genesis : GenesisState) (steps : List WorldStep) (world : World) : Type 0 where
  pub chain : ℕ
  pub denom : Text
  pub base : IsTrue (is_base_denom denom)
  pub grew : supply_at (start genesis) chain denom < supply_at world chain denom

-- ---- 10. one that takes a transfer from alice, whoever sends it

unfoldable pub machine_robbing_alice : GenesisState → Machine
machine_robbing_alice genesis world (event.Message k (message.Transfer m)) =
    machine_comparing same_value genesis world (event.Message k (message.Transfer (record m { user = codes "alice" })))
machine_robbing_alice genesis world e = machine_comparing same_value genesis world e

-- so a user loses what the user didn't send
pub record AnotherPays (genesis : GenesisState) (steps : List WorldStep) (world : World) : Type 0 where
  pub step : WorldStep
  pub among : Contains steps step
  pub chain : ℕ
  pub user : Text
  pub denom : Text
  pub is_one : IsTrue (is_user user)
  pub lost : balance_at step.2 chain user denom + amount_paid_by chain user denom step.1 < balance_at step.0 chain user denom

-- ---- 11. one whose application reads carol for the receiver, whoever the packet's data names

-- the packet as the application is told of it
abbrev pub Telling : Type 0
Telling = Packet → Packet

abbrev pub answer_telling : Telling → Evidence → ℕ → ℕ → MachineChain → RecvPacket → Reply × MachineChain
answer_telling told evidence chains k chain m =
    after_message chain (recv_packet
    (λ apps version p. on_recv chain.records.core m.packet.destination_port apps version (told p)) m evidence
    (host_of chains k chain) chain.records.core chain.records.apps)

unfoldable pub machine_telling : Telling → GenesisState → Machine
machine_telling told genesis world (event.Message k (message.RecvPacket m)) =
    at_chain world k
    (λ chain. answer_telling told (judging_evidence (comparing same_value) genesis.window world chain.records.core)
    (length genesis.chains) k chain m)
    (slice_get world k)
machine_telling told genesis world e = machine_comparing same_value genesis world e

abbrev pub payload_if_read : Packet → (Data → Data) → Option Data → Packet
payload_if_read p change (Some d) = record p { payload = data_text one_token (change d) }
payload_if_read p change None = p

abbrev pub with_data : (Data → Data) → Packet → Packet
with_data change p = payload_if_read p change (data_of one_token p.payload)

abbrev pub for_carol : Telling
for_carol = with_data (λ d. record d { receiver = codes "carol" })

-- so a user doesn't get what names the user, or gets what doesn't, though the senders alone pay
pub record AnotherIsPaid (genesis : GenesisState) (steps : List WorldStep) (world : World) : Type 0 where
  pub step : WorldStep
  pub among : Contains steps step
  pub chain : ℕ
  pub user : Text
  pub denom : Text
  pub is_one : IsTrue (is_user user)
  pub due : ℕ
  pub is_due : amount_received_by step.0 chain user denom step.1 + amount_refunded_to step.0 chain user denom step.1 ≡ due
  pub not_paid : ¬ (balance_at step.2 chain user denom + amount_paid_by chain user denom step.1 ≡ balance_at step.0 chain user denom + due)
  pub who_pays : OnlySendersPay steps

-- ---- 12. one whose application reads carol for the sender of a packet that it refunds

abbrev pub answer_refunding : Telling → Evidence → ℕ → ℕ → MachineChain → AckPacket → Reply × MachineChain
answer_refunding told evidence chains k chain m =
    after_message chain (ack_packet
    (λ apps version p ack. on_ack m.packet.source_port apps version (told p) ack) m evidence
    (host_of chains k chain) chain.records.core chain.records.apps)

unfoldable pub machine_refunding : Telling → GenesisState → Machine
machine_refunding told genesis world (event.Message k (message.AckPacket m)) =
    at_chain world k
    (λ chain. answer_refunding told (judging_evidence (comparing same_value) genesis.window world chain.records.core)
    (length genesis.chains) k chain m)
    (slice_get world k)
machine_refunding told genesis world e = machine_comparing same_value genesis world e

abbrev pub from_carol : Telling
from_carol = with_data (λ d. record d { sender = codes "carol" })

-- ---- 13. one that keeps another note than the packet carries

abbrev pub with_other_note : Telling
with_other_note p = if same_text p.destination_port note_port then record p { payload = codes "forged" } else p

-- so a note is kept that never came
pub record KeepsAnotherNote (genesis : GenesisState) (steps : List WorldStep) (world : World) : Type 0 where
  pub chain : ℕ
  pub channel : Text
  pub note : Text
  pub kept : Contains (notes_at world chain channel) note
  pub never_came : ¬ (Contains (payloads (received_packets (note_end chain channel) (all_of steps))) note)
