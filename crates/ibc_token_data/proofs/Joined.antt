-- What is written piece by piece is the one spelling.
use Rattle.std.proofs.Common.{◌≡◌, ℕ, ◌+◌, ◌<◌, Bool, true, false, List, [], ◌∷◌, ◌++◌, length, take, get_or, codes, decimal, append_assoc, append-nil, refl, sym, ap, ◌∙◌, if◌then◌else◌}
use Rattle.std.proofs.lemmas.List.{take_more}
use Rattle.std.specs.List.{join_with_byte}
use Rattle.ibc_ids.specs.Texts.{Text}
use Rattle.ibc_wire.specs.declared.token.Token.{Token}
use Rattle.ibc_machine.specs.ics20.TokenData.{Data, member, object, token_members, party_members, members_of_first, tokens_member, has_several, data_text}
use Rattle.ibc_token_data.specs.Spelling.{memo_front, parties_text, token_text, objects_text, behind_text, members_text}

abbrev one_object : Token → Text
one_object token = object (token_members token)

abbrev member_amount : Token → Text
member_amount token = member (codes "amount") (decimal token.amount)

-- ---- lists of tokens

behind_one : (xs : List Token) (y : Token) → behind_text (xs ++ y ∷ []) ≡ behind_text xs ++ 44 ∷ one_object y
behind_one [] y = ap (λ t. 44 ∷ t) (append-nil (one_object y))
behind_one (x ∷ xs) y =
    ap (λ t. 44 ∷ (one_object x ++ t)) (behind_one xs y)
    ∙ ap (λ t. 44 ∷ t) (sym (append_assoc (one_object x) (behind_text xs) (44 ∷ one_object y)))

-- one token more
pub behind_step : (ts : List Token) (i : ℕ) (t : Token) (old text comma new : Text) → i < length ts → t ≡ get_or ts i t
    → text ≡ old ++ behind_text (take i ts) → comma ≡ text ++ codes "," → new ≡ comma ++ object (token_members t) → new ≡ old ++ behind_text (take (i + 1) ts)
behind_step ts i t old text comma new inside is so_far one pushed =
    let place : take (i + 1) ts ≡ take i ts ++ t ∷ [] = take_more ts i t inside ∙ ap (λ x. take i ts ++ x ∷ []) (sym is) in
    let more : behind_text (take (i + 1) ts) ≡ behind_text (take i ts) ++ 44 ∷ one_object t = ap behind_text place ∙ behind_one (take i ts) t in
    pushed ∙ ap (λ x. x ++ one_object t) (one ∙ ap (λ x. x ++ 44 ∷ []) so_far)
    ∙ append_assoc (old ++ behind_text (take i ts)) (44 ∷ []) (one_object t)
    ∙ append_assoc old (behind_text (take i ts)) (44 ∷ one_object t)
    ∙ ap (λ x. old ++ x) (sym more)

objects_joined : (first : Token) (others : List Token) → one_object first ++ behind_text others ≡ objects_text (first ∷ others)
objects_joined first [] = append-nil (one_object first)
objects_joined first (x ∷ xs) = ap (λ t. one_object first ++ 44 ∷ t) (objects_joined x xs)

-- the first one, and then the others
pub row_pushed : (first : Token) (others : List Token) (old one new : Text) → one ≡ old ++ object (token_members first) → new ≡ one ++ behind_text others
    → new ≡ old ++ objects_text (first ∷ others)
row_pushed first others old one new begun rest =
    rest ∙ ap (λ x. x ++ behind_text others) begun ∙ append_assoc old (one_object first) (behind_text others)
    ∙ ap (λ x. old ++ x) (objects_joined first others)

-- ---- members

-- one text more behind others
join_more : (x : Text) (xs : List Text) (y : Text) → join_with_byte 44 (x ∷ (xs ++ y ∷ [])) ≡ join_with_byte 44 (x ∷ xs) ++ 44 ∷ y
join_more x [] y = refl
join_more x (z ∷ zs) y =
    ap (λ t. x ++ 44 ∷ t) (join_more z zs y) ∙ sym (append_assoc x (44 ∷ join_with_byte 44 (z ∷ zs)) (44 ∷ y))

module _ (receiver sender : Text) where
  abbrev pair : Text
  pair = member (codes "receiver") receiver ++ 44 ∷ member (codes "sender") sender

  abbrev parties : Text → List Token → Data
  parties memo tokens = record { tokens = tokens; memo = memo; receiver = receiver; sender = sender }

  parties_joined : (memo : Text) (tokens : List Token) → parties_text (parties memo tokens) ≡ join_with_byte 44 (party_members (parties memo tokens))
  parties_joined [] tokens = refl
  parties_joined (c ∷ cs) tokens = append_assoc (member (codes "memo") (c ∷ cs)) (44 ∷ []) pair

  -- a text behind the parties
  behind_parties : (memo : Text) (tokens : List Token) (y : Text)
      → join_with_byte 44 (party_members (parties memo tokens) ++ y ∷ []) ≡ join_with_byte 44 (party_members (parties memo tokens)) ++ 44 ∷ y
  behind_parties [] tokens y = join_more (member (codes "receiver") receiver) (member (codes "sender") sender ∷ []) y
  behind_parties (c ∷ cs) tokens y =
      join_more (member (codes "memo") (c ∷ cs)) (member (codes "receiver") receiver ∷ member (codes "sender") sender ∷ []) y

  -- the parties behind a text
  before_parties : (memo : Text) (tokens : List Token) (x : Text)
      → join_with_byte 44 (x ∷ party_members (parties memo tokens)) ≡ x ++ 44 ∷ join_with_byte 44 (party_members (parties memo tokens))
  before_parties [] tokens x = refl
  before_parties (c ∷ cs) tokens x = refl

  list_joined : (memo : Text) (tokens : List Token)
      → members_text true (parties memo tokens) ≡ join_with_byte 44 (party_members (parties memo tokens) ++ tokens_member tokens ∷ [])
  list_joined memo tokens =
      append_assoc (parties_text (parties memo tokens) ++ codes ",\"tokens\":[") (objects_text tokens) (codes "]")
      ∙ append_assoc (parties_text (parties memo tokens)) (codes ",\"tokens\":[") (objects_text tokens ++ codes "]")
      ∙ ap (λ t. t ++ 44 ∷ tokens_member tokens) (parties_joined memo tokens)
      ∙ sym (behind_parties memo tokens (tokens_member tokens))

  first_joined : (memo : Text) (tokens : List Token)
      → members_text false (parties memo tokens) ≡ join_with_byte 44 (members_of_first tokens ++ party_members (parties memo tokens))
  first_joined memo [] = parties_joined memo []
  first_joined memo (token ∷ tokens) =
      append_assoc (token_text token) (44 ∷ []) (parties_text (parties memo (token ∷ tokens)))
      ∙ ap (λ t. token_text token ++ 44 ∷ t) (parties_joined memo (token ∷ tokens))
      ∙ append_assoc (member_amount token) (44 ∷ member (codes "denom") token.denom) (44 ∷ join_with_byte 44 (party_members (parties memo (token ∷ tokens))))
      ∙ ap (λ t. member_amount token ++ 44 ∷ t) (sym (before_parties memo (token ∷ tokens) (member (codes "denom") token.denom)))

-- the parties, one after another
pub parties_pushed : (d : Data) (old front one comma new receiver sender : Text) → receiver ≡ d.receiver → sender ≡ d.sender
    → front ≡ old ++ memo_front d.memo → one ≡ front ++ member (codes "receiver") receiver → comma ≡ one ++ codes "," → new ≡ comma ++ member (codes "sender") sender
    → new ≡ old ++ parties_text d
parties_pushed d old front one comma new receiver sender same_receiver same_sender begun received parted ended =
    let first : Text = member (codes "receiver") d.receiver in
    let second : Text = member (codes "sender") d.sender in
    ended ∙ ap (λ x. comma ++ member (codes "sender") x) same_sender
    ∙ ap (λ x. x ++ second) (parted ∙ ap (λ x. x ++ 44 ∷ []) (received ∙ ap (λ x. front ++ member (codes "receiver") x) same_receiver ∙ ap (λ x. x ++ first) begun))
    ∙ append_assoc ((old ++ memo_front d.memo) ++ first) (44 ∷ []) second
    ∙ append_assoc (old ++ memo_front d.memo) first (44 ∷ second)
    ∙ append_assoc old (memo_front d.memo) (first ++ 44 ∷ second)

-- ---- the whole

pub by_several : (several : Bool) (d : Data) → codes "{" ++ members_text several d ++ codes "}"
    ≡ (if several then object (party_members d ++ tokens_member d.tokens ∷ []) else object (members_of_first d.tokens ++ party_members d))
by_several true d = ap (λ t. codes "{" ++ t ++ codes "}") (list_joined d.receiver d.sender d.memo d.tokens)
by_several false d = ap (λ t. codes "{" ++ t ++ codes "}") (first_joined d.receiver d.sender d.memo d.tokens)

pub whole_pushed : (version : Text) (d : Data) (empty opened filled closed : Text) → empty ≡ [] → opened ≡ empty ++ codes "{"
    → filled ≡ opened ++ members_text (has_several version) d → closed ≡ filled ++ codes "}" → closed ≡ data_text version d
unfolding data_text
whole_pushed version d empty opened filled closed none begun inside ended =
    ended ∙ ap (λ t. t ++ codes "}") (inside ∙ ap (λ t. t ++ members_text (has_several version) d) (begun ∙ ap (λ t. t ++ codes "{") none))
    ∙ by_several (has_several version) d
