-- Data as it is cut out of its one spelling.
use Rattle.std.specs.Prelude.{◌≡◌, ⊤, ◌==◌, ◌&&◌, ◌||◌, ℕ, zero, suc, Bool, false, codes, decimal, List, [], ◌∷◌, Option, Some, None, Result, Ok, Err, if◌then◌else◌}
use Rattle.std.specs.Option.{option_map, option_map_or}
use Rattle.std.specs.Ordering.{is_lt}
use Rattle.ibc_ids.specs.Texts.{Text, same_text, text_cmp}
use Rattle.ibc_ids.specs.Names.{is_denom, is_memo, is_receiver, is_user}
use Rattle.ibc_wire.specs.Reading.{◌>>=◌}
use Rattle.ibc_wire.specs.declared.token.Token.{Token}
use Rattle.ibc_machine.specs.ics20.TokenData.{Data, is_amount, is_token, number_of}
use Rattle.ibc_token_data.specs.declared.fault.TokenDataFault.{TokenDataFault}
use Rattle.ibc_token_data.specs.declared.fault.TokenDataFault.TheVariants.{NotData, NoMemory}

-- what a function returned, seen by view, is what is cut out, unless a growth was refused
abbrev pub Gives : {X Y : Type 0} → (X → Y) → Result X TokenDataFault → Option Y → Type 0
Gives view (Ok x) cut = cut ≡ Some (view x)
Gives view (Err NotData) cut = cut ≡ None
Gives view (Err NoMemory) cut = ⊤

-- it is so only where the test passes
abbrev pub only_if : {A : Type 0} → Bool → A → Option A
only_if passes a = if passes then Some a else None

-- ---- texts

-- what stands behind the front
unfoldable pub behind : Text → Text → Option Text
behind [] text = Some text
behind (f ∷ front) [] = None
behind (f ∷ front) (c ∷ text) = if c == f then behind front text else None

abbrev pub is_quote : ℕ → Bool
is_quote c = c == 34

-- one byte more before what was cut off
abbrev pub with_byte : ℕ → Text × Text → Text × Text
with_byte c cut = (c ∷ cut.0, cut.1)

-- the text up to the first quote, and what stands behind the quote
unfoldable pub up_to_quote : Text → Option (Text × Text)
up_to_quote [] = None
up_to_quote (c ∷ text) = if c == 34 then Some ([], text) else option_map (with_byte c) (up_to_quote text)

-- the text between the front and the next quote, and what stands behind that quote
abbrev pub value_behind : Text → Text → Option (Text × Text)
value_behind front text = behind front text >>= up_to_quote

-- ---- tokens

-- the amount of which these are the digits
unfoldable pub amount_of_digits : Text → Option ℕ
amount_of_digits digits =
    only_if (is_amount (number_of digits) && same_text (decimal (number_of digits)) digits) (number_of digits)

-- amount and denomination at the front, and what stands behind them
abbrev pub token_at : Text → Option (ℕ × Text × Text)
token_at text = do
  digits ← value_behind (codes "{\"amount\":\"") text
  amount ← amount_of_digits digits.0
  denom ← value_behind (codes ",\"denom\":\"") digits.1
  only_if (is_token (record { denom = denom.0; amount = amount })) (amount, denom.0, denom.1)

abbrev pub token_of : ℕ → Text → Option Token
token_of amount denom = only_if (is_denom denom) (record { denom = denom; amount = amount })

-- up to so many tokens and the end of their list
unfoldable pub tokens_in : ℕ → Text → Option (List Token)
tokens_in zero text = None
tokens_in (suc n) text =
    token_at text >>= λ found. token_of found.0 found.1 >>= λ token.
    if same_text found.2 (codes "}]}") then Some (token ∷ [])
    else (behind (codes "},") found.2 >>= λ next. option_map (λ tokens. token ∷ tokens) (tokens_in n next))

-- whether up to so many tokens stand there, each denomination behind the last one, and the end of their list
unfoldable pub is_row : ℕ → Text → Text → Bool
is_row zero last text = false
is_row (suc n) last text =
    option_map_or (λ found. is_lt (text_cmp last found.1)
    && (same_text found.2 (codes "}]}") || option_map_or (is_row n found.1) (behind (codes "},") found.2) false))
    (token_at text) false

-- ---- parties

abbrev pub with_rest : Text → Text → Text × Text
with_rest memo rest = (memo, rest)

-- a memo, where there is one, and what stands behind its comma
abbrev pub memo_found : Text → Option (Text × Text) → Option (Text × Text)
memo_found text None = Some ([], text)
memo_found text (Some ([], rest)) = None
memo_found text (Some (c ∷ cs, rest)) = option_map (with_rest (c ∷ cs)) (behind (codes ",") rest)

abbrev pub memo_at : Text → Option (Text × Text)
memo_at text = memo_found text (value_behind (codes "\"memo\":\"") text)

-- receiver and sender, and what stands behind them
abbrev pub pair_at : Text → Option (Text × Text × Text)
pair_at text = do
  receiver ← value_behind (codes "\"receiver\":\"") text
  sender ← value_behind (codes ",\"sender\":\"") receiver.1
  Some (receiver.0, sender.0, sender.1)

abbrev pub are_parties : Text → Text → Text → Bool
are_parties memo receiver sender = is_memo memo && is_receiver receiver && is_user sender

-- memo, receiver and sender behind the front, and what stands behind them
abbrev pub parties_behind : Text → Text → Option (Text × Text × Text × Text)
parties_behind front text = do
  start ← behind front text
  memo ← memo_at start
  pair ← pair_at memo.1
  only_if (are_parties memo.0 pair.0 pair.1) (memo.0, pair.0, pair.1, pair.2)

-- ---- data

abbrev pub told_with : List Token → Text × Text × Text × Text → Option Data
told_with tokens (memo, receiver, sender, rest) =
    only_if (are_parties memo receiver sender)
    (record { tokens = tokens; memo = memo; receiver = receiver; sender = sender })

-- one token, and the parties up to the end
abbrev pub one_cut : Text → Option (ℕ × Text × (Text × Text × Text × Text))
one_cut text = do
  token ← token_at text
  parties ← parties_behind (codes ",") token.2
  only_if (same_text parties.3 (codes "}")) (token.0, token.1, parties)

abbrev pub one_told : Text → Option Data
one_told text = do
  cut ← one_cut text
  token ← token_of cut.0 cut.1
  told_with (token ∷ []) cut.2

abbrev pub several_told : Text → Option Data
several_told text = do
  parties ← parties_behind (codes "{") text
  list ← behind (codes ",\"tokens\":[") parties.3
  row ← only_if (is_row 8 [] list) list
  tokens ← tokens_in 8 row
  told_with tokens parties

-- the data of which the text may be the spelling
abbrev pub told_by : Bool → Text → Option Data
told_by several text = if several then several_told text else one_told text
