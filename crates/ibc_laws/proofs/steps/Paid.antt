-- What an accepted sending of tokens took from its user.
use Rattle.std.proofs.Common.{◌≡◌, Some}
use Rattle.ibc_ids.specs.Texts.{Text}
use Rattle.ibc_wire.specs.declared.messages.Message.{Message}
use Rattle.ibc_wire.specs.declared.messages.Message.TheVariants as message
use Rattle.ibc_wire.specs.declared.messages.Transfer.{Transfer}
use Rattle.ibc_wire.specs.declared.messages.TransferMany.{TransferMany}
use Rattle.ibc_machine.specs.declared.event.Event.TheVariants as event
use Rattle.ibc_machine.specs.declared.reply.Effect.{Effect}
use Rattle.ibc_machine.specs.chain.Records.{Core, Apps, MachineChain, Channel, Commitment}
use Rattle.ibc_machine.specs.ics24.Evidence.{Host, Evidence}
use Rattle.ibc_machine.specs.chain.Handlers.{handle}
use Rattle.ibc_machine.specs.ics20.TokenData.{Data, one_token, several_tokens}
use Rattle.ibc_machine.specs.ics20.Bank.{Balances}
use Rattle.ibc_machine.specs.ics20.Transfers.{transfer, transfer_many, send_tokens, send_token, each_token, transfer_commitment, transfer_data, transfer_many_data}
use Rattle.ibc_machine.specs.promises.Histories.{Happened}
use Rattle.ibc_machine.proofs.PassedRows.{Gives, gives_ok, gives_then, gives_require, gives_bind, gives_expect}
use Rattle.ibc_machine.proofs.PassedHandlers.{gives_on_balances}

-- the sender of the data paid its tokens, over the channel
abbrev pub Pays : Text → Data → Balances → Balances → Type 0
Pays channel d before after = each_token (send_token channel d.sender) d.tokens before ≡ Some after

abbrev pub Paid : Message → Balances → Balances → Type 0
Paid (message.Transfer m) before after = Pays m.channel (transfer_data m) before after
Paid (message.TransferMany m) before after = Pays m.channel (transfer_many_data m) before after
Paid _ before after = Unit {0}

abbrev pub PaidOf : Happened → MachineChain → MachineChain → Type 0
PaidOf (event.Message k m, given) before after = Paid m before.records.apps.balances after.records.apps.balances
PaidOf (event.Block k t, given) before after = Unit {0}

module _ (evidence : Evidence) (host : Host) (core : Core) (apps : Apps) where
  abbrev PaysTo : Text → Data → Effect × Core × Balances → Type 0
  PaysTo channel d y = Pays channel d apps.balances y.2

  lemma_tokens_paid : (channel : Text) (mine : Channel) (d : Data) (c : Commitment)
      → Gives (PaysTo channel d) (send_tokens channel mine d c evidence host core apps.balances)
  unfolding send_tokens
  lemma_tokens_paid channel mine d c =
      gives_then _ _ λ _. gives_expect _ _ _ λ (left : Balances) paid. gives_then _ _ λ _. gives_ok (PaysTo channel d) _ paid

  lemma_transfer_paid : (m : Transfer) → Gives (PaysTo m.channel (transfer_data m)) (transfer m evidence host core apps.balances)
  unfolding transfer
  lemma_transfer_paid m =
      gives_bind _ _ λ (mine : Channel) there. gives_require _ _ _ λ version. gives_require _ _ _ λ amount.
      let d : Data = transfer_data m in
      lemma_tokens_paid m.channel mine d (transfer_commitment one_token d m.timeout_height m.timeout_time)

  lemma_transfer_many_paid : (m : TransferMany) → Gives (PaysTo m.channel (transfer_many_data m)) (transfer_many m evidence host core apps.balances)
  unfolding transfer_many
  lemma_transfer_many_paid m =
      gives_require _ _ _ λ form. gives_bind _ _ λ (mine : Channel) there. gives_require _ _ _ λ version. gives_require _ _ _ λ amount.
      let d : Data = transfer_many_data m in
      lemma_tokens_paid m.channel mine d (transfer_commitment several_tokens d m.timeout_height m.timeout_time)

  -- each accepted message
  pub lemma_message_paid : (m : Message) → Gives (λ (y : Effect × Core × Apps). Paid m apps.balances y.2.balances) (handle m evidence host core apps)
  unfolding handle
  lemma_message_paid (message.Transfer m) =
      gives_on_balances (λ y. Paid (message.Transfer m) apps.balances y.2.balances) _ apps (lemma_transfer_paid m)
  lemma_message_paid (message.TransferMany m) =
      gives_on_balances (λ y. Paid (message.TransferMany m) apps.balances y.2.balances) _ apps (lemma_transfer_many_paid m)
  lemma_message_paid _ = record { gives = λ y is. tt }
