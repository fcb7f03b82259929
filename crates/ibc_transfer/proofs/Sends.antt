-- A transfer's checks in a row, and what is sent when they pass.
use Rattle.std.proofs.Common.{◌≡◌, ◌⊎◌, ◌&&◌, ℕ, Bool, List, Some, Ok, Err, inl, inr, refl, sym, ap, ap₂, subst, ◌∙◌}
use Rattle.std.specs.Prelude.{⊤, Result, IsOk, IfOk, IfErr, OnOk, OnErr}
use Rattle.ibc_ids.specs.Texts.{Text, same_text}
use Rattle.ibc_ids.specs.declared.refusal.Refusal.{Refusal}
use Rattle.ibc_ids.specs.declared.refusal.Refusal.TheVariants.{NoMemory, BadMessage, WrongVersion, TooLarge}
use Rattle.ibc_wire.specs.Tokens.{is_rising, is_short}
use Rattle.ibc_wire.specs.declared.token.Token.{Token}
use Rattle.ibc_wire.specs.declared.messages.Transfer.{Transfer}
use Rattle.ibc_wire.specs.declared.messages.TransferMany.{TransferMany}
use Rattle.ibc_machine.specs.declared.reply.Effect.{Effect}
use Rattle.ibc_machine.specs.declared.reply.Effect.TheVariants as effect
use Rattle.ibc_machine.specs.chain.Records.{Core, Channel, channel_at, with_channel}
use Rattle.ibc_machine.specs.chain.Checks.{Checked, require, go_on, and_then, ◌>>=◌, ◌>>◌}
use Rattle.ibc_machine.specs.ics24.Evidence.{Host, Evidence, require_number}
use Rattle.ibc_machine.specs.ics04.Packets.{sending_end, require_timeouts, after_send}
use Rattle.ibc_machine.specs.ics20.Transfers.{transfer_port}
use Rattle.ibc_machine.proofs.PassedChecks.{find, miss, pass}
use Rattle.ibc_records.specs.RecordsModel.{RecordsModel, core_of, IsUnchanged}
use Rattle.ibc_records.specs.HandlerContract.{IsTakenWith}
use Rattle.ibc_records.specs.Packets.{SendsPacket}
use Rattle.ibc_records.proofs.Judging.{IsRefusedBy, stops_at}
use Rattle.ibc_bank.specs.Moves.{BankState, after_moves}
use Rattle.ibc_bank.specs.declared.moves.Move.{Move}
use Rattle.ibc_transfer.specs.BankTransfers.{with_bank_sent, bank_sends, bank_transfer, bank_transfer_many}
use Rattle.ibc_transfer.specs.TransferChecks.{OutgoingModel, one_outgoing, many_outgoing, require_channel, require_moves, send_handler}

pub one_sent : (evidence : Evidence) (host : Host) (core : Core) (bank : BankState) (m : Transfer) → bank_transfer m evidence host core bank ≡ send_handler m.channel (one_outgoing m) evidence host core bank
unfolding bank_transfer bank_sends
one_sent evidence host core bank m = refl

-- 1 to 8 tokens, whose denominations rise
abbrev pub has_form : List Token → Bool
has_form tokens = is_short tokens && is_rising tokens

pub many_sent : (evidence : Evidence) (host : Host) (core : Core) (bank : BankState) (m : TransferMany)
    → bank_transfer_many m evidence host core bank ≡ (require (has_form m.tokens) BadMessage >> send_handler m.channel (many_outgoing m) evidence host core bank)
unfolding bank_transfer_many bank_sends
many_sent evidence host core bank m = refl

-- ---- the payment

-- a move that can't be made is refused first
pub poor_first : {r : Refusal} (moved : Checked BankState) (number : Checked ⊤) → (r ≡ NoMemory) ⊎ (moved ≡ Err r)
    → (r ≡ NoMemory) ⊎ ((moved >>= λ (after : BankState). number) ≡ Err r)
poor_first moved number (inl memory) = inl memory
poor_first moved number (inr poor) = inr (miss (λ (after : BankState). number) poor refl)

-- and then a number that is full
pub full_next : {r : Refusal} (moved : Checked BankState) (number : Checked ⊤) → IsOk moved → number ≡ Err r
    → (r ≡ NoMemory) ⊎ ((moved >>= λ (after : BankState). number) ≡ Err r)
unfolding go_on
full_next (Ok after) number is full = inr full
full_next (Err refusal) number is full = absurd (cc (is))

same_moves : {bank asked : BankState} {moves checked : List Move} → asked ≡ bank → checked ≡ moves → after_moves checked asked ≡ after_moves moves bank
same_moves same_bank same = ap₂ (λ (steps : List Move) (b : BankState). after_moves steps b) same same_bank

not_going : {B : Type 0} {y : Checked B} {r : Refusal} (moved : Checked BankState) (number : Checked ⊤) (done : BankState → B)
    → (r ≡ NoMemory) ⊎ ((moved >>= λ (after : BankState). number) ≡ Err r) → y ≡ (moved >>= λ (after : BankState). number >> Ok (done after)) → IsRefusedBy y r
unfolding go_on and_then
not_going moved number done (inl memory) row = inr memory
not_going (Err refusal) number done (inr why) row = inl (row ∙ cc (why))
not_going (Ok after) (Err refusal) done (inr why) row = inl (row ∙ cc (why))
not_going (Ok after) (Ok x) done (inr why) row = absurd (cc (why))

-- ---- the checks in a row

-- what is done once all checks in a row passed is done after the row
done_after : {A B : Type 0} (v f t : Checked ⊤) (a : A) (done : A → Checked B) → (v >> (f >> (t >> done a))) ≡ ((v >> (f >> (t >> Ok a))) >>= done)
unfolding go_on and_then
done_after (Err r) f t a done = refl
done_after (Ok u) (Err r) t a done = refl
done_after (Ok u) (Ok w) (Err r) a done = refl
done_after (Ok u) (Ok w) (Ok x) a done = refl

all_done_after : {A B : Type 0} (found : Checked A) (row done : A → Checked B) (checks : A → Checked A) → ((a : A) → row a ≡ (checks a >>= done))
    → (found >>= row) ≡ ((found >>= checks) >>= done)
unfolding go_on
all_done_after (Ok a) row done checks same = same a
all_done_after (Err r) row done checks same = refl

module _ (evidence : Evidence) (host : Host) (core : Core) (channel : Text) (parcel : OutgoingModel) where
  -- the checks behind those of the end
  abbrev pub leave_rest : Channel → Checked Channel
  leave_rest mine =
      require (same_text mine.end.version parcel.version) WrongVersion
      >> (require parcel.fits TooLarge
      >> (require_timeouts evidence core mine parcel.commitment
      >> Ok mine))

  module _ (port : Text) (named : port ≡ transfer_port) where
    pub leave_row : require_channel channel parcel evidence host core ≡ (sending_end core port channel >>= leave_rest)
    leave_row = λ i. sending_end core (sym named i) channel >>= leave_rest

    pub leave_found : (mine : Channel) → sending_end core port channel ≡ Ok mine → require_channel channel parcel evidence host core ≡ leave_rest mine
    leave_found mine is = find leave_rest is leave_row

  module _ (bank : BankState) where
    -- what the end sends once they passed
    abbrev pub sent_by : Channel → Checked (Effect × Core × BankState)
    sent_by mine =
        after_moves parcel.moves bank >>= λ (after : BankState). require_number mine.next_send >> Ok (with_bank_sent channel mine parcel.commitment core after)

    pub sends_after : send_handler channel parcel evidence host core bank ≡ (require_channel channel parcel evidence host core >>= sent_by)
    sends_after =
        all_done_after (sending_end core transfer_port channel) _ sent_by leave_rest
        (λ mine. done_after (require (same_text mine.end.version parcel.version) WrongVersion) (require parcel.fits TooLarge) (require_timeouts evidence core mine parcel.commitment) mine sent_by)

    pub sends_refused : {r : Refusal} → IsRefusedBy (require_channel channel parcel evidence host core) r → IsRefusedBy (send_handler channel parcel evidence host core bank) r
    sends_refused why = stops_at sent_by why sends_after

    pub unpaid : {asked : BankState} {checked : List Move} {r : Refusal} → asked ≡ bank → checked ≡ parcel.moves → (mine : Channel)
        → require_channel channel parcel evidence host core ≡ Ok mine → (r ≡ NoMemory) ⊎ (require_moves asked checked mine.next_send ≡ Err r)
        → IsRefusedBy (send_handler channel parcel evidence host core bank) r
    unpaid {asked} {checked} {r} same_bank same mine is why =
        not_going (after_moves parcel.moves bank) (require_number mine.next_send) (λ (after : BankState). with_bank_sent channel mine parcel.commitment core after)
        (subst (λ (moved : Checked BankState). (r ≡ NoMemory) ⊎ ((moved >>= λ (after : BankState). require_number mine.next_send) ≡ Err r)) (same_moves same_bank same) why)
        (find sent_by is sends_after)

pub parcel_taken : (evidence : Evidence) (host : Host) (old : RecordsModel) (bank : BankState) (channel : Text) (parcel : OutgoingModel) (port : Text) → port ≡ transfer_port → (mine : Channel)
    → require_channel channel parcel evidence host (core_of old) ≡ Ok mine
    → require_number mine.next_send ≡ Ok tt
    → channel_at (core_of old) port channel ≡ Some mine
    → (result : Result ℕ Refusal) (new : RecordsModel) (after : BankState)
    → IfOk result (λ n. SendsPacket old port channel parcel.commitment n new)
    → OnOk result (after_moves parcel.moves bank ≡ Ok after)
    → IfErr result (λ refusal. (refusal ≡ NoMemory) ⊎ (after_moves parcel.moves bank ≡ Err refusal))
    → OnErr result (IsUnchanged old new × (after ≡ bank))
    → IsTakenWith effect.Sent (send_handler channel parcel evidence host (core_of old) bank) old bank result new after
parcel_taken evidence host old bank channel parcel port named mine is free there (Ok n) new after sent paid err unchanged =
    let stood : Some mine ≡ Some sent.mine = sym there ∙ sent.stood in
    let same : mine ≡ sent.mine = cc (stood) in
    let sequence : mine.next_send ≡ n = ap (λ (x : Channel). x.next_send) same ∙ sym sent.sequence in
    let passed = find (sent_by evidence host (core_of old) channel parcel bank) is (sends_after evidence host (core_of old) channel parcel bank) in (
      with_channel port channel (after_send parcel.commitment sent.mine) (core_of old),
      pass free (find (λ (b : BankState). require_number mine.next_send >> Ok (with_bank_sent channel mine parcel.commitment (core_of old) b)) paid passed)
          ∙ (λ i. Ok (effect.Sent (sequence i), with_channel (sym named i) channel (after_send parcel.commitment (same i)) (core_of old), after)),
      sent.written,
    )
parcel_taken evidence host old bank channel parcel port named mine is free there (Err refusal) new after sent paid (inl memory) unchanged = (inr memory, unchanged.0, unchanged.1)
parcel_taken evidence host old bank channel parcel port named mine is free there (Err refusal) new after sent paid (inr poor) unchanged =
    let passed = find (sent_by evidence host (core_of old) channel parcel bank) is (sends_after evidence host (core_of old) channel parcel bank) in
    (inl (miss (λ (b : BankState). require_number mine.next_send >> Ok (with_bank_sent channel mine parcel.commitment (core_of old) b)) poor passed), unchanged.0, unchanged.1)
