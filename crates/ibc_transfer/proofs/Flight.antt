-- A bank goes on counting what is burnt in flight, message by message (ICS 20, "sendFungibleTokens",
-- "onRecvPacket", "onAcknowledgePacket" and "refundTokens").
use Rattle.std.proofs.Common.{◌≡◌, ℕ, ◌+◌, true, ap, sym, ◌∙◌, List, Ok, arith}
use Rattle.std.specs.FinMap.{is_sorted}
use Rattle.ibc_ids.specs.Texts.{Text, same_text, text_cmp}
use Rattle.ibc_wire.specs.Fields.{are_typed}
use Rattle.ibc_wire.specs.Messages.{message_fields}
use Rattle.ibc_wire.specs.declared.token.Token.{Token}
use Rattle.ibc_wire.specs.declared.packet.Packet.{Packet}
use Rattle.ibc_wire.specs.declared.messages.Message.TheVariants as message
use Rattle.ibc_wire.specs.declared.messages.Transfer.{Transfer}
use Rattle.ibc_wire.specs.declared.messages.TransferMany.{TransferMany}
use Rattle.ibc_wire.specs.declared.messages.AckPacket.{AckPacket}
use Rattle.ibc_wire.specs.declared.messages.Timeout.{Timeout}
use Rattle.ibc_wire.specs.declared.messages.TimeoutOnClose.{TimeoutOnClose}
use Rattle.ibc_machine.specs.declared.reply.Effect.{Effect}
use Rattle.ibc_machine.specs.chain.Records.{Core, commitment_of}
use Rattle.ibc_machine.specs.ics24.Evidence.{Host, Evidence}
use Rattle.ibc_machine.specs.ics04.Packets.{ack_packet, timeout, timeout_on_close}
use Rattle.ibc_machine.specs.ics20.TokenData.{Data, one_token, several_tokens, is_data, tokens_of}
use Rattle.ibc_machine.specs.ics20.Transfers.{transfer_port, burnt_amount, transfer_commitment, transfer_data, transfer_many_data}
use Rattle.ibc_machine.proofs.GoodData.{transfer_good, transfer_many_good}
use Rattle.ibc_machine.specs.chain.Orderly.{IsOrderly}
use Rattle.ibc_machine.specs.ics20.ReturningTokens.{SameBurnt, returned_amount}
use Rattle.ibc_machine.proofs.flight.SendSteps.{tokens_sent_burnt}
use Rattle.ibc_machine.proofs.flight.PacketSteps.{Settles, ack_packet_settles, timeout_settles, timeout_on_close_settles}
use Rattle.ibc_bank.specs.Amounts.{amount_at}
use Rattle.ibc_bank.specs.Moves.{BankState}
use Rattle.ibc_transfer.specs.BankCallbacks.{bank_acknowledged, bank_times_out}
use Rattle.ibc_transfer.specs.BankTransfers.{bank_transfer, bank_transfer_many}
use Rattle.ibc_transfer.specs.InFlight.{IsInFlight}
use Rattle.ibc_transfer.proofs.Moves.{IsCovered, AreBurntIn}
use Rattle.ibc_transfer.proofs.ByBank.{Sends, transfer_did, transfer_many_did, acknowledged_in_flight, timed_out_in_flight}

-- where what is burnt stays in the bank and on the channels, as where a packet is received
pub same_flight : (bank left : BankState) (core after : Core) → IsInFlight bank core → left.burnt ≡ bank.burnt → SameBurnt core after → IsInFlight left after
same_flight bank left core after flight same burnt_amount = record {
  sorted = ap (is_sorted text_cmp) same ∙ flight.sorted;
  counted = λ denom. ap (amount_at text_cmp denom) same ∙ flight.counted denom ∙ sym (burnt_amount denom);
}

-- ---- sending

sends_keep_flight : (core : Core) (bank : BankState) (channel version : Text) (d : Data) (height time : ℕ) (effect : Effect) (after : Core) (left : BankState)
    → IsOrderly core → IsInFlight bank core → is_data version d ≡ true
    → Sends core bank channel version d (transfer_commitment version d height time) effect after left → IsInFlight left after
sends_keep_flight core bank channel version d height time effect after left orderly flight good sends =
    record {
      sorted = sends.burnt.more_sorted;
      counted = λ denom.
          let old = flight.counted denom in
          let gone = sends.burnt.counted denom in
          let committed = tokens_sent_burnt core channel version sends.mine d height time orderly sends.there sends.speaks good sends.committed denom in
          omega arith;
    }

module _ (evidence : Evidence) (host : Host) (core : Core) (bank : BankState) (orderly : IsOrderly core) (flight : IsInFlight bank core)
    {effect : Effect} {after : Core} {left : BankState} where
  pub transfer_keeps_flight : (m : Transfer) → are_typed (message_fields (message.Transfer m)) ≡ true
      → bank_transfer m evidence host core bank ≡ Ok (effect, after, left) → IsInFlight left after
  transfer_keeps_flight m typed e =
      let did = transfer_did evidence host core bank flight.sorted m e in
      sends_keep_flight core bank m.channel one_token (transfer_data m) m.timeout_height m.timeout_time effect after left orderly flight
      (transfer_good m did.1 typed) did.0

  pub transfer_many_keeps_flight : (m : TransferMany) → are_typed (message_fields (message.TransferMany m)) ≡ true
      → bank_transfer_many m evidence host core bank ≡ Ok (effect, after, left) → IsInFlight left after
  transfer_many_keeps_flight m typed e =
      let did = transfer_many_did evidence host core bank flight.sorted m e in
      sends_keep_flight core bank m.channel several_tokens (transfer_many_data m) m.timeout_height m.timeout_time effect after left orderly flight
      (transfer_many_good m did.1 did.2 typed) did.0

-- ---- acknowledgements and timeouts

-- as much less is burnt in the bank as on the channels
settled_keeps_flight : (core after : Core) (bank left : BankState) (channel : Text) (tokens : List Token) → IsInFlight bank core
    → ((denom : Text) → burnt_amount after denom + returned_amount channel tokens denom ≡ burnt_amount core denom) → AreBurntIn channel tokens bank left → IsInFlight left after
settled_keeps_flight core after bank left channel tokens flight less gone = record {
  sorted = gone.fewer_sorted;
  counted = λ denom.
      let old = flight.counted denom in
      let settled = less denom in
      let apart = gone.counted denom in
      omega arith;
}

-- the tokens of a packet that is settled were burnt
settled_covers : (core after : Core) (bank : BankState) (channel : Text) (tokens : List Token) → IsInFlight bank core
    → ((denom : Text) → burnt_amount after denom + returned_amount channel tokens denom ≡ burnt_amount core denom) → IsCovered channel tokens bank
settled_covers core after bank channel tokens flight less denom =
    let old = flight.counted denom in
    let settled = less denom in
    omega arith

-- what both timeouts do
timed_out_keeps_flight : (core after : Core) (bank left : BankState) (p : Packet) → IsInFlight bank core
    → Settles core after p (λ version. bank_times_out bank version p) left → IsInFlight left after
timed_out_keeps_flight core after bank left p flight s =
    settled_keeps_flight core after bank left p.source_channel (tokens_of s.0.end.version (commitment_of p)) flight s.3
    (timed_out_in_flight bank s.0.end.version p flight.sorted left s.2)

module _ (evidence : Evidence) (host : Host) (core : Core) (bank : BankState) (orderly : IsOrderly core) (flight : IsInFlight bank core)
    {effect : Effect} {after : Core} {left : BankState} where
  pub ack_keeps_flight : (m : AckPacket) → same_text m.packet.source_port transfer_port ≡ true
      → ack_packet bank_acknowledged m evidence host core bank ≡ Ok (effect, after, left) → IsInFlight left after
  ack_keeps_flight m ours e =
      let s = ack_packet_settles bank_acknowledged evidence host core m bank orderly ours e in
      let p : Packet = m.packet in
      let tokens : List Token = tokens_of s.0.end.version (commitment_of p) in
      let covers = settled_covers core after bank p.source_channel tokens flight s.3 in
      settled_keeps_flight core after bank left p.source_channel tokens flight s.3
      (acknowledged_in_flight bank s.0.end.version p m.ack flight.sorted covers left s.2)

  pub timeout_keeps_flight : (m : Timeout) → same_text m.packet.source_port transfer_port ≡ true
      → timeout bank_times_out m evidence host core bank ≡ Ok (effect, after, left) → IsInFlight left after
  timeout_keeps_flight m ours e = timed_out_keeps_flight core after bank left m.packet flight (timeout_settles bank_times_out evidence host core bank orderly m ours e)

  pub timeout_on_close_keeps_flight : (m : TimeoutOnClose) → same_text m.packet.source_port transfer_port ≡ true
      → timeout_on_close bank_times_out m evidence host core bank ≡ Ok (effect, after, left) → IsInFlight left after
  timeout_on_close_keeps_flight m ours e = timed_out_keeps_flight core after bank left m.packet flight (timeout_on_close_settles bank_times_out evidence host core bank orderly m ours e)
