-- What an accepted message that sends a packet did.
use Rattle.std.proofs.Common.{◌≡◌, ℕ, Bool, true, refl, ap, sym, ◌∙◌, subst, Ok, inl, inr}
use Rattle.ibc_ids.specs.Texts.{Text, same_text}
use Rattle.ibc_ids.proofs.Texts.{text_same}
use Rattle.ibc_wire.specs.Fields.{are_typed}
use Rattle.ibc_wire.specs.Messages.{message_fields}
use Rattle.ibc_wire.specs.declared.records.ChannelState.TheVariants as chan
use Rattle.ibc_wire.specs.declared.messages.Message.TheVariants as message
use Rattle.ibc_wire.specs.declared.messages.Transfer.{Transfer}
use Rattle.ibc_wire.specs.declared.messages.TransferMany.{TransferMany}
use Rattle.ibc_wire.specs.declared.messages.SendNote.{SendNote}
use Rattle.ibc_wire.specs.declared.messages.Message.{Message}
use Rattle.ibc_machine.specs.declared.reply.Effect.{Effect}
use Rattle.ibc_machine.specs.declared.reply.Effect.TheVariants as effect
use Rattle.ibc_machine.specs.chain.Records.{Core, Records, Channel, Commitment, with_channel}
use Rattle.ibc_machine.specs.ics24.Evidence.{Host, Evidence}
use Rattle.ibc_machine.specs.ics04.Packets.{sending_end, after_send}
use Rattle.ibc_machine.specs.ics20.TokenData.{Data, one_token, several_tokens, data_text, is_data}
use Rattle.ibc_machine.specs.ics20.Bank.{Balances}
use Rattle.ibc_machine.specs.ics20.Transfers.{transfer_port, transfer, transfer_many, send_tokens, transfer_commitment, transfer_data, transfer_many_data}
use Rattle.ibc_machine.specs.chain.Notes.{note_port, note_commitment, send_note}
use Rattle.ibc_machine.specs.chain.Applications.{with_balances}
use Rattle.ibc_machine.specs.chain.Machine.{World}
use Rattle.ibc_machine.proofs.PassedRows.{Gives, gives_ok, gives_then, gives_require, gives_bind, gives_expect}
use Rattle.ibc_machine.proofs.PacketChecks.{sending_passed}
use Rattle.ibc_machine.proofs.SameValues.{same_channel_state_is}
use Rattle.ibc_laws.proofs.basics.PassedTests.{both}
use Rattle.ibc_laws.proofs.steps.Seen.{seeing}
use Rattle.ibc_laws.proofs.steps.Told.{Sent, told_by}
use Rattle.ibc_laws.proofs.steps.CoreSteps.{CoreStep, changes_channel, sends}
use Rattle.ibc_laws.proofs.steps.AppSteps.{AppsOf, GoodOf, DidBoth}
use Rattle.ibc_machine.proofs.GoodData.{transfer_good, transfer_many_good}

module _ (window : ℕ) (oldest : Bool) (w : World) (host : Host) (records : Records) where
  -- what its clients see of other chains
  abbrev evidence : Evidence
  evidence = seeing window oldest w records.core

  -- what a handler of balances gives did this, with what else applications keep
  abbrev DidTokens : Message → Effect × Core × Balances → Type 0
  DidTokens m y = DidBoth w host records m (y.0, y.1, with_balances records.apps y.2)

  -- both messages that send tokens
  tokens_did : (m : Message) (channel version : Text) (mine : Channel) (d : Data) (c : Commitment)
      → sending_end records.core transfer_port channel ≡ Ok mine → same_text mine.end.version version ≡ true → c.payload ≡ data_text version d
      → told_by m (effect.Sent mine.next_send) ≡ Sent transfer_port channel mine.next_send c
      → (are_typed (message_fields m) ≡ true → is_data version d ≡ true)
      → Gives (DidTokens m) (send_tokens channel mine d c evidence host records.core records.apps.balances)
  unfolding send_tokens
  tokens_did m channel version mine d c there same spelled told good =
      gives_then _ _ λ _. gives_expect _ _ _ λ (balances : Balances) paid. gives_then _ _ λ _.
      let end = sending_passed records.core transfer_port channel mine there in
      let version_is : mine.end.version ≡ version = text_same mine.end.version version same in
      gives_ok (DidTokens m) _
      (subst (λ t. (did : CoreStep w host records.core t (with_channel transfer_port channel (after_send c mine) records.core))
      × (apps : AppsOf w host records (with_balances records.apps balances) t (with_channel transfer_port channel (after_send c mine) records.core) did)
      × (are_typed (message_fields m) ≡ true
      → GoodOf w host records (with_balances records.apps balances) t (with_channel transfer_port channel (after_send c mine) records.core) did apps)) (sym told) (
        changes_channel _ transfer_port channel mine _ end.there (sends c (same_channel_state_is mine.end.state chan.Open end.state)),
        inr (record {
          port_is = refl;
          data_sent = d;
          spelled = spelled ∙ ap (λ v. data_text v d) (sym version_is);
          balances = balances;
          paid = paid;
          after = refl;
        }),
        λ typed. subst (λ v. is_data v d ≡ true) (sym version_is) (good typed),
      ))

  pub transfer_did : (m : Transfer) → Gives (DidTokens (message.Transfer m)) (transfer m evidence host records.core records.apps.balances)
  unfolding transfer
  transfer_did m =
      gives_bind _ _ λ (mine : Channel) there. gives_require _ _ _ λ version. gives_require _ _ _ λ amount.
      let d : Data = transfer_data m in
      tokens_did (message.Transfer m) m.channel one_token mine d (transfer_commitment one_token d m.timeout_height m.timeout_time)
      there version refl refl (transfer_good m amount)

  pub transfer_many_did : (m : TransferMany) → Gives (DidTokens (message.TransferMany m)) (transfer_many m evidence host records.core records.apps.balances)
  unfolding transfer_many
  transfer_many_did m =
      gives_require _ _ _ λ form. gives_bind _ _ λ (mine : Channel) there. gives_require _ _ _ λ version. gives_require _ _ _ λ amount.
      let d : Data = transfer_many_data m in
      tokens_did (message.TransferMany m) m.channel several_tokens mine d (transfer_commitment several_tokens d m.timeout_height m.timeout_time)
      there version refl refl (transfer_many_good m form (both _ _ amount).0)

  -- a note leaves what applications keep
  abbrev DidNote : SendNote → Effect × Core → Type 0
  DidNote m y = DidBoth w host records (message.SendNote m) (y.0, y.1, records.apps)

  pub send_note_did : (m : SendNote) → Gives (DidNote m) (send_note m evidence host records.core)
  unfolding send_note
  send_note_did m =
      gives_bind _ _ λ (mine : Channel) there. gives_then _ _ λ _. gives_then _ _ λ _. gives_then _ _ λ _.
      let end = sending_passed records.core note_port m.channel mine there in
      gives_ok (DidNote m) _ (changes_channel _ note_port m.channel mine _ end.there (sends (note_commitment m) (same_channel_state_is mine.end.state chan.Open end.state)), inl (refl, refl), λ typed. tt)
