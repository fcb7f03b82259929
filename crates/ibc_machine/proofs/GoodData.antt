-- The data of a message that sends tokens is good, where the message is what its type promises and passed its checks.
use Rattle.std.proofs.Common.{◌≡◌, ℕ, ◌≤◌, ◌^◌, Bool, true, false, refl, sym, ◌∙◌, List, [], ◌∷◌, ◌++◌, arith, not, ◌==◌, ◌&&◌, ◌||◌, nat_le, nat_lt, le-leb}
use Rattle.std.specs.List.{list_all, list_any, flat_map}
use Rattle.std.proofs.lemmas.List.Folds.{list_all-append}
use Rattle.ibc_ids.specs.Names.{is_denom, is_memo, is_receiver, is_user}
use Rattle.ibc_wire.specs.Tokens.{is_rising, is_short}
use Rattle.ibc_wire.specs.Fields.{Field, are_typed, name, be64, form_condition}
use Rattle.ibc_wire.specs.Spelling.{token_fields}
use Rattle.ibc_wire.specs.Messages.{message_fields}
use Rattle.ibc_wire.specs.declared.token.Token.{Token}
use Rattle.ibc_wire.specs.declared.messages.Message.TheVariants as message
use Rattle.ibc_wire.specs.declared.messages.Transfer.{Transfer}
use Rattle.ibc_wire.specs.declared.messages.TransferMany.{TransferMany}
use Rattle.ibc_machine.specs.ics20.TokenData.{one_token, several_tokens, is_token, is_data}
use Rattle.ibc_machine.specs.ics20.Transfers.{transfer_data, transfer_many_data, is_zero}
use Rattle.ibc_machine.proofs.QuotedTexts.{both, and_true}

not_zero : (n : ℕ) → not (n == 0) ≡ true → nat_le 1 n ≡ true
not_zero n e = le-leb 1 n (go (n == 0) refl e)
  where
    go : (b : Bool) → (n == 0) ≡ b → not b ≡ true → 1 ≤ n
    go true is e = absurd (cc e)
    go false is e = grind (arith, is)

pub transfer_good : (m : Transfer) → not (m.amount == 0) ≡ true → are_typed (message_fields (message.Transfer m)) ≡ true
    → is_data one_token (transfer_data m) ≡ true
transfer_good m amount typed =
    let channel = both _ _ typed in
    let user = both (is_user m.user) _ channel.1 in
    let denom = both (is_denom m.denom) _ user.1 in
    let range = both (nat_lt m.amount (2 ^ 128)) _ denom.1 in
    let receiver = both (is_receiver m.receiver) _ range.1 in
    let memo = both (is_memo m.memo) _ receiver.1 in
    let token = and_true (and_true (and_true (not_zero m.amount amount) range.0) denom.0) refl in
    and_true (and_true (and_true token memo.0) receiver.0) user.0

transfer_many_tokens : (tokens : List Token) → are_typed (flat_map token_fields tokens) ≡ true → not (list_any is_zero tokens) ≡ true
    → list_all is_token tokens ≡ true
transfer_many_tokens [] typed amounts = refl
transfer_many_tokens (token ∷ tokens) typed amounts =
    let denom = both (is_denom token.denom) _ typed in
    let range = both (nat_lt token.amount (2 ^ 128)) _ denom.1 in
    let none = neither (token.amount == 0) (list_any is_zero tokens) amounts in
    and_true (and_true (and_true (not_zero token.amount none.0) range.0) denom.0) (transfer_many_tokens tokens range.1 none.1)
  where
    neither : (a b : Bool) → not (a || b) ≡ true → (not a ≡ true) × (not b ≡ true)
    neither true b e = absurd (cc e)
    neither false b e = (refl, e)

abbrev in_type : Field → Bool
in_type field = field.in_type

-- the fields of the tokens behind their number, and those that stand behind them
abbrev listed : TransferMany → List Field
listed m = flat_map token_fields m.tokens ++ form_condition (is_rising m.tokens) ∷ []

abbrev behind : TransferMany → List Field
behind m = name is_receiver m.receiver ∷ name is_memo m.memo ∷ be64 m.timeout_height ∷ be64 m.timeout_time ∷ []

pub transfer_many_good : (m : TransferMany) → (is_short m.tokens && is_rising m.tokens) ≡ true → not (list_any is_zero m.tokens) ≡ true
    → are_typed (message_fields (message.TransferMany m)) ≡ true → is_data several_tokens (transfer_many_data m) ≡ true
transfer_many_good m form amounts typed =
    let channel = both _ _ typed in
    let user = both (is_user m.user) _ channel.1 in
    let split = both (list_all in_type (listed m)) (list_all in_type (behind m)) (sym (list_all-append in_type (listed m) (behind m)) ∙ user.1) in
    let tokens = both (are_typed (flat_map token_fields m.tokens)) _ (sym (list_all-append in_type (flat_map token_fields m.tokens) (form_condition (is_rising m.tokens) ∷ [])) ∙ split.0) in
    let receiver = both (is_receiver m.receiver) _ split.1 in
    let memo = both (is_memo m.memo) _ receiver.1 in
    and_true (and_true (and_true (and_true form (transfer_many_tokens m.tokens tokens.0 amounts)) memo.0) receiver.0) user.0
