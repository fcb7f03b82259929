-- The data of a packet of tokens, as compact JSON (ICS 20, "FungibleTokenPacketData"; the order of the members
-- and the form for several tokens are this project's profile).
use Rattle.std.specs.Prelude.{◌≡◌, ◌↔◌, IsTrue, ℕ, ◌+◌, ◌-◌, ◌*◌, ◌^◌, ◌==◌, ◌&&◌, Bool, true, false, nat_lt, nat_le, codes, List, [], ◌∷◌, ◌++◌, length, map, Option, Some, None, if◌then◌else◌}
use Rattle.std.specs.List.{join_with_byte, list_all, fold, slice_split, sum_by}
use Rattle.std.specs.Option.{option_map, option_map_or, option_and_then}
use Rattle.std.specs.Fmt.{decimal}
use Rattle.ibc_ids.specs.Texts.{Text, same_text}
use Rattle.ibc_ids.specs.Names.{is_denom, is_memo, is_receiver, is_user}
use Rattle.ibc_wire.specs.Tokens.{is_rising, is_short}
use Rattle.ibc_wire.specs.declared.token.Token.{Token}
use Rattle.ibc_machine.specs.chain.Records.{Commitment}

-- what a packet says: the tokens, who sends them and who receives them
pub record Data : Type 0 where
  pub tokens : List Token
  pub memo : Text
  pub receiver : Text
  pub sender : Text

-- ---- versions

-- one token a packet, and this project's own version with several
abbrev pub one_token : Text
one_token = codes "ics20-1"

abbrev pub several_tokens : Text
several_tokens = codes "ics20-own-2"

abbrev pub has_several : Text → Bool
has_several version = same_text version several_tokens

-- ---- writing

abbrev pub quoted_text : Text → Text
quoted_text text = 34 ∷ text ++ 34 ∷ []

abbrev pub member : Text → Text → Text
member name value = quoted_text name ++ codes ":" ++ quoted_text value

abbrev pub object : List Text → Text
object members = codes "{" ++ join_with_byte 44 members ++ codes "}"

abbrev pub token_members : Token → List Text
token_members token = member (codes "amount") (decimal token.amount) ∷ member (codes "denom") token.denom ∷ []

-- a memo stands only where there is one
abbrev pub memo_member : Text → List Text
memo_member [] = []
memo_member (c ∷ cs) = member (codes "memo") (c ∷ cs) ∷ []

abbrev pub party_members : Data → List Text
party_members d =
    memo_member d.memo ++ member (codes "receiver") d.receiver ∷ member (codes "sender") d.sender ∷ []

abbrev pub members_of_first : List Token → List Text
members_of_first [] = []
members_of_first (token ∷ tokens) = token_members token

abbrev pub tokens_member : List Token → Text
tokens_member tokens =
    quoted_text (codes "tokens") ++ codes ":[" ++ join_with_byte 44 (map (λ token. object (token_members token)) tokens)
    ++ codes "]"

-- the one spelling of data
unfoldable pub data_text : Text → Data → Text
data_text version d =
    if has_several version then object (party_members d ++ tokens_member d.tokens ∷ [])
    else object (members_of_first d.tokens ++ party_members d)

-- ---- which data a packet may have

-- an amount is not 0 and fits 128 bits
abbrev pub is_amount : ℕ → Bool
is_amount n = nat_le 1 n && nat_lt n (2 ^ 128)

abbrev pub is_token : Token → Bool
is_token token = is_amount token.amount && is_denom token.denom

-- one token, or 1 to 8 whose denominations rise
abbrev pub is_list_for : Text → List Token → Bool
is_list_for version tokens =
    if has_several version then is_short tokens && is_rising tokens else length tokens == 1

abbrev pub is_data : Text → Data → Bool
is_data version d =
    is_list_for version d.tokens && list_all is_token d.tokens && is_memo d.memo && is_receiver d.receiver
    && is_user d.sender

-- ---- reading

-- what stands between quotes, of the parts that the quotes cut: names and values of members in turn
abbrev pub between_quotes : List Text → List Text
between_quotes [] = []
between_quotes (outside ∷ []) = []
between_quotes (outside ∷ inside ∷ parts) = inside ∷ between_quotes parts

-- the number that decimal digits stand for
abbrev pub number_of : Text → ℕ
number_of digits = fold (λ n c. 10 * n + (c - 48)) 0 digits

-- the tokens, each two members
abbrev pub tokens_in : List Text → List Token
tokens_in (amount_name ∷ amount ∷ denom_name ∷ denom ∷ parts) =
    record { denom = denom; amount = number_of amount } ∷ tokens_in parts
tokens_in _ = []

-- memo, receiver and sender at the front, and what stands behind them
abbrev pub parties_in : List Text → Option (Text × Text × Text × List Text)
parties_in (first ∷ a ∷ second ∷ b ∷ third ∷ c ∷ parts) =
    if same_text first (codes "memo") then Some (a, b, c, parts) else Some ([], a, b, third ∷ c ∷ parts)
parties_in (first ∷ a ∷ second ∷ b ∷ parts) = Some ([], a, b, parts)
parties_in _ = None

abbrev pub data_with : List Token → Text × Text × Text × List Text → Data
data_with tokens (memo, receiver, sender, parts) =
    record { tokens = tokens; memo = memo; receiver = receiver; sender = sender }

-- several tokens stand behind the parties and the name of their list
abbrev pub tokens_behind : Text × Text × Text × List Text → Data
tokens_behind (memo, receiver, sender, []) = data_with [] (memo, receiver, sender, [])
tokens_behind (memo, receiver, sender, name ∷ parts) = data_with (tokens_in parts) (memo, receiver, sender, [])

-- one token stands before them
abbrev pub one_token_in : List Text → Option Data
one_token_in (amount_name ∷ amount ∷ denom_name ∷ denom ∷ parts) =
    option_map (data_with (record { denom = denom; amount = number_of amount } ∷ [])) (parties_in parts)
one_token_in _ = None

-- the data that the members may be of
abbrev pub data_in : Text → List Text → Option Data
data_in version parts =
    if has_several version then option_map tokens_behind (parties_in parts) else one_token_in parts

abbrev pub data_if : Bool → Data → Option Data
data_if true d = Some d
data_if false d = None

-- the data, where it is the one that the text spells
unfoldable pub data_of : Text → Text → Option Data
data_of version text =
    option_and_then (λ d. data_if (is_data version d && same_text (data_text version d) text) d)
    (data_in version (between_quotes (slice_split (λ c. c == 34) text)))

-- what is read is spelled so, and what is spelled so is read
abbrev pub ReadsData : Type 0
ReadsData = (version text : Text) (d : Data)
    → (data_of version text ≡ Some d) ↔ (IsTrue (is_data version d) × (text ≡ data_text version d))

-- ---- tokens in packets that were sent

abbrev pub tokens_of : Text → Commitment → List Token
tokens_of version c = option_map_or (λ d. d.tokens) (data_of version c.payload) []

abbrev pub amount_of : Text → List Token → ℕ
amount_of denom tokens = sum_by (λ token. if same_text token.denom denom then token.amount else 0) tokens

-- ---- acknowledgements

abbrev pub success : Text
success = object (member (codes "result") (codes "AQ==") ∷ [])

abbrev pub error : Text → Text
error words = object (member (codes "error") words ∷ [])
