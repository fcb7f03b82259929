-- The application's answers by a bank are the definitions' answers by its balances (ICS 20, "sendFungibleTokens",
-- "onAcknowledgePacket" and "refundTokens"), and the bank counts what was burnt.
use Rattle.std.proofs.Common.{◌≡◌, Bool, true, false, not, ◌==◌, ◌&&◌, refl, ap, sym, ◌∙◌, subst, List, [], Option, Some, None, Ok, Err, inl, inr, ℕ, if◌then◌else◌}
use Rattle.std.specs.Prelude.{IsTrue, Result, ⊤}
use Rattle.std.proofs.lemmas.Bool.{and_parts}
use Rattle.std.specs.FinMap.{is_sorted}
use Rattle.std.specs.List.{list_any}
use Rattle.std.specs.Option.{option_map_or}
use Rattle.ibc_ids.specs.Texts.{Text, same_text, text_cmp}
use Rattle.ibc_ids.specs.declared.refusal.Refusal.{Refusal}
use Rattle.ibc_ids.specs.declared.refusal.Refusal.TheVariants.{BadMessage, WrongVersion, TooLarge, Poor}
use Rattle.ibc_wire.specs.Tokens.{is_rising, is_short}
use Rattle.ibc_wire.specs.declared.token.Token.{Token}
use Rattle.ibc_wire.specs.declared.packet.Packet.{Packet}
use Rattle.ibc_wire.specs.declared.messages.Transfer.{Transfer}
use Rattle.ibc_wire.specs.declared.messages.TransferMany.{TransferMany}
use Rattle.ibc_machine.specs.declared.reply.Effect.{Effect}
use Rattle.ibc_machine.specs.declared.reply.Effect.TheVariants as effect
use Rattle.ibc_machine.specs.chain.Records.{Core, Channel, Commitment, commitment_of}
use Rattle.ibc_machine.specs.ics20.Bank.{Balances}
use Rattle.ibc_machine.specs.chain.Checks.{Checked, require, expect, go_on, ◌>>=◌, ◌>>◌}
use Rattle.ibc_machine.specs.ics24.Evidence.{Host, Evidence, require_number}
use Rattle.ibc_machine.specs.ics04.Packets.{has_size, sending_end, require_timeouts, with_sent}
use Rattle.ibc_machine.specs.ics20.TokenData.{Data, one_token, several_tokens, data_of, tokens_of, success}
use Rattle.ibc_machine.specs.ics20.Transfers.{transfer_port, transfer_commitment, transfer_data, transfer_many_data, is_zero, refund_data, refund_transfer, acknowledge_transfer, with_tokens_sent, send_tokens, transfer, transfer_many}
use Rattle.ibc_machine.proofs.PassedChecks.{fail, bind_bind, then_bind}
use Rattle.ibc_machine.proofs.PassedRows.{require_passed, then_passed, bind_passed, ok_same}
use Rattle.ibc_records.specs.RecordsModel.{RecordsModel}
use Rattle.ibc_records.specs.HandlerContract.{IsTakenWith}
use Rattle.ibc_bank.specs.Moves.{BankState, after_moves}
use Rattle.ibc_transfer.specs.BankCallbacks.{bank_refunds, bank_times_out, bank_settles, bank_receives, bank_acknowledged}
use Rattle.ibc_transfer.specs.BankTransfers.{send_moves, with_bank_sent, bank_sends, bank_transfer, bank_transfer_many}
use Rattle.ibc_transfer.proofs.Moves.{IsCovered, AreBurntIn, balances_after, sends_by_moves, sends_burn, refunds_by_moves, refunds_settle, settlements_keep, settlements_settle, burnt_alike}

-- ---- sending

-- an answer by a bank, as one by its balances
abbrev pub in_balances : Checked (Effect × Core × BankState) → Checked (Effect × Core × Balances)
in_balances answer = answer >>= λ ((effect, after, left) : Effect × Core × BankState). Ok (effect, after, left.balances)

module _ (evidence : Evidence) (host : Host) (core : Core) (bank : BankState) where
  abbrev lifted : Effect × Core × BankState → Checked (Effect × Core × Balances)
  lifted (effect, after, left) = Ok (effect, after, left.balances)

  sends_by_bank : (channel : Text) (mine : Channel) (d : Data) (c : Commitment)
      → send_tokens channel mine d c evidence host core bank.balances ≡ in_balances (bank_sends channel mine d c evidence host core bank)
  unfolding send_tokens bank_sends go_on
  sends_by_bank channel mine d c =
      ap (λ rest. timeouts >> rest)
      (ap (λ balances. balances >>= told) (sym (sends_by_moves channel d.sender d.tokens bank))
      ∙ bind_bind moves (λ left. Ok left.balances) told
      ∙ (λ i. moves >>= λ left. sym (then_bind number (Ok (with_bank_sent channel mine c core left)) lifted) i)
      ∙ sym (bind_bind moves sent lifted))
      ∙ sym (then_bind timeouts (moves >>= sent) lifted)
    where
      timeouts : Checked ⊤
      timeouts = require_timeouts evidence core mine c

      number : Checked ⊤
      number = require_number mine.next_send

      moves : Checked BankState
      moves = after_moves (send_moves channel d) bank

      sent : BankState → Checked (Effect × Core × BankState)
      sent left = number >> Ok (with_bank_sent channel mine c core left)

      told : Balances → Checked (Effect × Core × Balances)
      told balances = number >> Ok (with_tokens_sent channel mine c core balances)

  -- behind two checks of the end that sends
  checked_by_bank : (first second : Channel → Checked ⊤) (channel : Text) (d : Data) (c : Commitment)
      → (sending_end core transfer_port channel >>= λ mine. first mine >> (second mine >> send_tokens channel mine d c evidence host core bank.balances))
      ≡ in_balances (sending_end core transfer_port channel >>= λ mine. first mine >> (second mine >> bank_sends channel mine d c evidence host core bank))
  checked_by_bank first second channel d c =
      (λ i. sending_end core transfer_port channel >>= λ mine. sides mine i)
      ∙ sym (bind_bind (sending_end core transfer_port channel) (λ mine. first mine >> (second mine >> bank_sends channel mine d c evidence host core bank)) lifted)
    where
      sides : (mine : Channel) → (first mine >> (second mine >> send_tokens channel mine d c evidence host core bank.balances))
          ≡ in_balances (first mine >> (second mine >> bank_sends channel mine d c evidence host core bank))
      sides mine =
          ap (λ rest. first mine >> (second mine >> rest)) (sends_by_bank channel mine d c)
          ∙ ap (λ rest. first mine >> rest) (sym (then_bind (second mine) (bank_sends channel mine d c evidence host core bank) lifted))
          ∙ sym (then_bind (first mine) (second mine >> bank_sends channel mine d c evidence host core bank) lifted)

  pub transfer_by_bank : (m : Transfer) → transfer m evidence host core bank.balances ≡ in_balances (bank_transfer m evidence host core bank)
  unfolding transfer bank_transfer
  transfer_by_bank m =
      checked_by_bank (λ mine. require (same_text mine.end.version one_token) WrongVersion) (λ mine. require (not (m.amount == 0)) TooLarge) m.channel
      (transfer_data m) (transfer_commitment one_token (transfer_data m) m.timeout_height m.timeout_time)

  pub transfer_many_by_bank : (m : TransferMany) → transfer_many m evidence host core bank.balances ≡ in_balances (bank_transfer_many m evidence host core bank)
  unfolding transfer_many bank_transfer_many
  transfer_many_by_bank m =
      ap (λ rest. form >> rest) (checked_by_bank version amounts m.channel (transfer_many_data m) c)
      ∙ sym (then_bind form (sending_end core transfer_port m.channel >>= λ mine. version mine >> (amounts mine >> bank_sends m.channel mine (transfer_many_data m) c evidence host core bank)) lifted)
    where
      form : Checked ⊤
      form = require (is_short m.tokens && is_rising m.tokens) BadMessage

      c : Commitment
      c = transfer_commitment several_tokens (transfer_many_data m) m.timeout_height m.timeout_time

      version : Channel → Checked ⊤
      version mine = require (same_text mine.end.version several_tokens) WrongVersion

      amounts : Channel → Checked ⊤
      amounts mine = require (not (list_any is_zero m.tokens) && has_size c.payload) TooLarge

  -- several tokens in another form are refused
  pub many_refused : (m : TransferMany) → require (is_short m.tokens && is_rising m.tokens) BadMessage ≡ Err BadMessage → transfer_many m evidence host core bank.balances ≡ Err BadMessage
  unfolding transfer_many
  many_refused m e = fail _ e refl

-- what becomes of a message by a bank becomes of it by the bank's balances
pub taken_by_balances : (checked : Checked (Effect × Core × BankState)) (told : Checked (Effect × Core × Balances)) → told ≡ in_balances checked
    → (old : RecordsModel) (bank : BankState) (result : Result ℕ Refusal) (new : RecordsModel) (left : BankState)
    → IsTakenWith effect.Sent checked old bank result new left → IsTakenWith effect.Sent told old bank.balances result new left.balances
unfolding go_on
taken_by_balances checked told same old bank (Ok n) new left taken = (taken.0, same ∙ ap in_balances taken.1, taken.2)
taken_by_balances checked told same old bank (Err refusal) new left (inl failed, unchanged, kept) =
    (inl (same ∙ ap in_balances failed), unchanged, ap (λ (b : BankState). b.balances) kept)
taken_by_balances checked told same old bank (Err refusal) new left (inr memory, unchanged, kept) =
    (inr memory, unchanged, ap (λ (b : BankState). b.balances) kept)

-- what an accepted sending did: the end that sent was there, what goes back is burnt, and the packet is committed to
pub record Sends (core : Core) (bank : BankState) (channel version : Text) (d : Data) (c : Commitment) (effect : Effect) (after : Core) (left : BankState) : Type 0 where
  pub mine : Channel
  pub there : sending_end core transfer_port channel ≡ Ok mine
  pub speaks : same_text mine.end.version version ≡ true
  pub committed : with_sent transfer_port channel mine c core ≡ (effect, after)
  pub burnt : AreBurntIn channel d.tokens left bank

module _ (evidence : Evidence) (host : Host) (core : Core) (bank : BankState) (sorted : IsTrue (is_sorted text_cmp bank.burnt)) {effect : Effect} {after : Core} {left : BankState} where
  sends_did : (channel version : Text) (mine : Channel) (d : Data) (c : Commitment) → sending_end core transfer_port channel ≡ Ok mine
      → same_text mine.end.version version ≡ true → bank_sends channel mine d c evidence host core bank ≡ Ok (effect, after, left)
      → Sends core bank channel version d c effect after left
  unfolding bank_sends
  sends_did channel version mine d c there same e =
      let timeouts = then_passed (require_timeouts evidence core mine c) _ e in
      let paid = bind_passed (after_moves (send_moves channel d) bank) _ timeouts.1 in
      let number = then_passed (require_number mine.next_send) _ paid.2 in
      let is : with_bank_sent channel mine c core paid.0 ≡ (effect, after, left) = ok_same number.1 in
      record {
        mine = mine;
        there = there;
        speaks = same;
        committed = ap (λ (y : Effect × Core × BankState). (y.0, y.1)) is;
        burnt = subst (λ b. AreBurntIn channel d.tokens b bank) (ap (λ (y : Effect × Core × BankState). y.2) is)
            (sends_burn channel d.sender d.tokens bank paid.0 sorted paid.1);
      }

  pub transfer_did : (m : Transfer) → bank_transfer m evidence host core bank ≡ Ok (effect, after, left)
      → Sends core bank m.channel one_token (transfer_data m) (transfer_commitment one_token (transfer_data m) m.timeout_height m.timeout_time) effect after left
      × (not (m.amount == 0) ≡ true)
  unfolding bank_transfer
  transfer_did m e =
      let there = bind_passed (sending_end core transfer_port m.channel) _ e in
      let version = require_passed _ _ _ there.2 in
      let amount = require_passed _ _ _ version.1 in
      (sends_did m.channel one_token there.0 (transfer_data m) _ there.1 version.0 amount.1, amount.0)

  pub transfer_many_did : (m : TransferMany) → bank_transfer_many m evidence host core bank ≡ Ok (effect, after, left)
      → Sends core bank m.channel several_tokens (transfer_many_data m) (transfer_commitment several_tokens (transfer_many_data m) m.timeout_height m.timeout_time) effect after left
      × ((is_short m.tokens && is_rising m.tokens) ≡ true) × (not (list_any is_zero m.tokens) ≡ true)
  unfolding bank_transfer_many
  transfer_many_did m e =
      let form = require_passed _ _ _ e in
      let there = bind_passed (sending_end core transfer_port m.channel) _ form.1 in
      let version = require_passed _ _ _ there.2 in
      let amounts = require_passed _ _ _ version.1 in
      let nonzero = and_parts (not (list_any is_zero m.tokens)) _ amounts.0 in
      (sends_did m.channel several_tokens there.0 (transfer_many_data m) _ there.1 version.0 amounts.1, form.0, nonzero.0)

-- ---- refunds and settlements

module _ (bank : BankState) (version : Text) (p : Packet) where
  abbrev tokens_in : Option Data → List Token
  tokens_in o = option_map_or (λ (d : Data). d.tokens) o []

  -- the tokens of the packet
  abbrev packet_tokens : List Token
  packet_tokens = tokens_of version (commitment_of p)

  pub timed_out_by_bank : IsTrue (is_sorted text_cmp bank.burnt) → IsCovered p.source_channel packet_tokens bank
      → refund_transfer bank.balances version p ≡ balances_after (bank_times_out bank version p)
  unfolding refund_transfer bank_times_out go_on
  timed_out_by_bank sorted covers = go (data_of version p.payload) covers
    where
      go : (o : Option Data) → IsCovered p.source_channel (tokens_in o) bank → expect (refund_data p bank.balances o) Poor ≡ balances_after (bank_refunds bank p o)
      go None covers = refl
      go (Some d) covers = sym (refunds_by_moves p.source_channel d.sender d.tokens bank sorted covers)

  pub timed_out_in_flight : IsTrue (is_sorted text_cmp bank.burnt) → (left : BankState) → bank_times_out bank version p ≡ Ok left
      → AreBurntIn p.source_channel packet_tokens bank left
  unfolding bank_times_out
  timed_out_in_flight sorted left e = go (data_of version p.payload) e
    where
      go : (o : Option Data) → bank_refunds bank p o ≡ Ok left → AreBurntIn p.source_channel (tokens_in o) bank left
      go None e = subst (λ b. AreBurntIn p.source_channel [] bank b) (ok_same e) (burnt_alike p.source_channel bank sorted)
      go (Some d) e = refunds_settle p.source_channel d.sender d.tokens bank left sorted e

  settles_keep : (o : Option Data) → (bank_settles bank p o).balances ≡ bank.balances
  settles_keep None = refl
  settles_keep (Some d) = settlements_keep p.source_channel d.tokens bank

  settles : (o : Option Data) → IsTrue (is_sorted text_cmp bank.burnt) → IsCovered p.source_channel (tokens_in o) bank
      → AreBurntIn p.source_channel (tokens_in o) bank (bank_settles bank p o)
  settles None sorted covers = burnt_alike p.source_channel bank sorted
  settles (Some d) sorted covers = settlements_settle p.source_channel d.tokens bank sorted covers

  module _ (ack : Text) (sorted : IsTrue (is_sorted text_cmp bank.burnt)) (covers : IsCovered p.source_channel packet_tokens bank) where
    pub acknowledged_by_bank : acknowledge_transfer bank.balances version p ack ≡ balances_after (bank_acknowledged bank version p ack)
    unfolding acknowledge_transfer bank_acknowledged go_on
    acknowledged_by_bank = go (same_text ack success)
      where
        go : (b : Bool) → (if b then Ok bank.balances else refund_transfer bank.balances version p)
            ≡ balances_after (if b then Ok (bank_settles bank p (data_of version p.payload)) else bank_times_out bank version p)
        go true = ap (λ balances. Ok balances) (sym (settles_keep (data_of version p.payload)))
        go false = timed_out_by_bank sorted covers

    pub acknowledged_in_flight : (left : BankState) → bank_acknowledged bank version p ack ≡ Ok left → AreBurntIn p.source_channel packet_tokens bank left
    unfolding bank_acknowledged
    acknowledged_in_flight left e = go (same_text ack success) e
      where
        go : (b : Bool) → (if b then Ok (bank_settles bank p (data_of version p.payload)) else bank_times_out bank version p) ≡ Ok left
            → AreBurntIn p.source_channel packet_tokens bank left
        go true e = subst (λ b. AreBurntIn p.source_channel packet_tokens bank b) (ok_same e) (settles (data_of version p.payload) sorted covers)
        go false e = timed_out_in_flight sorted left e

-- ---- receiving

-- what was burnt stays
pub received_in_flight : (bank : BankState) (version : Text) (p : Packet) → (bank_receives bank version p).1.burnt ≡ bank.burnt
received_in_flight bank version p = refl
