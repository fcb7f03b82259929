-- The data of a packet of tokens: what is read is spelled so, and what is spelled so is read.
use Rattle.std.proofs.Common.{◌≡◌, Bool, true, false, refl, ap, sym, ◌∙◌, subst, codes, List, [], ◌∷◌, ◌++◌, length, map, Option, Some, None, arith, ◌==◌, ◌&&◌, if◌then◌else◌, append_assoc, append-nil, decimal, eqb-true, nat_le, option_map}
use Rattle.std.specs.List.{join_with_byte, list_all}
use Rattle.std.specs.Option.{option_and_then}
use Rattle.ibc_ids.specs.Texts.{Text, same_text}
use Rattle.ibc_ids.specs.Names.{is_denom, is_memo, is_receiver, is_user}
use Rattle.ibc_wire.specs.Tokens.{is_short, is_rising}
use Rattle.ibc_wire.specs.declared.token.Token.{Token}
use Rattle.ibc_machine.specs.ics20.TokenData.{Data, quoted_text, member, object, token_members, memo_member, party_members, members_of_first, tokens_member, data_text, is_amount, is_token, is_list_for, is_data, number_of, tokens_in, parties_in, one_token_in, tokens_behind, data_in, data_if, data_of, has_several, ReadsData}
use Rattle.ibc_machine.proofs.QuotedTexts.{both, and_true, Clear, clear_made, clear_denom, clear_decimal, number_read, between, Spells, spells-clear, spells-quoted, spells-both, spelled, spells-member, spells-next, spells-object}

-- ---- the parts of data

abbrev token_parts : List Token → List Text
token_parts [] = []
token_parts (t ∷ ts) = codes "amount" ∷ decimal t.amount ∷ codes "denom" ∷ t.denom ∷ token_parts ts

abbrev memo_parts : Text → List Text
memo_parts [] = []
memo_parts (c ∷ cs) = codes "memo" ∷ (c ∷ cs) ∷ []

abbrev party_parts : Data → List Text
party_parts d = memo_parts d.memo ++ codes "receiver" ∷ d.receiver ∷ codes "sender" ∷ d.sender ∷ []

tokens_read : (ts : List Token) → list_all is_token ts ≡ true → tokens_in (token_parts ts) ≡ ts
tokens_read [] e = refl
tokens_read (t ∷ ts) e =
    let parts = both (is_token t) _ e in
    let amount = number_read t.amount (both (is_amount t.amount) _ parts.0).0 in
    λ i. record { denom = t.denom; amount = amount i } ∷ tokens_read ts parts.1 i

-- what the data's parts must be
record IsClear (d : Data) : Type 0 where
  memo : Clear d.memo
  receiver : Clear d.receiver
  sender : Clear d.sender
  tokens : list_all is_token d.tokens ≡ true

data_clear : (version : Text) (d : Data) → is_data version d ≡ true → IsClear d
data_clear version d e =
    let one = both _ (is_user d.sender) e in
    let two = both _ (is_receiver d.receiver) one.0 in
    let three = both _ (is_memo d.memo) two.0 in
    let four = both (is_list_for version d.tokens) (list_all is_token d.tokens) three.0 in
    record {
      memo = clear_made _ refl 0 256 d.memo three.1;
      receiver = clear_made _ refl 1 64 d.receiver two.1;
      sender = clear_made _ refl 1 32 d.sender one.1;
      tokens = four.1;
    }

-- ---- the members of data

module _ (receiver sender : Text) (hr : Clear receiver) (hs : Clear sender) (tail qs : List Text)
    (ends : Spells (join_with_byte 44 (member (codes "sender") sender ∷ tail)) (codes "sender" ∷ sender ∷ qs)) where
  abbrev pair : List Text
  pair = member (codes "receiver") receiver ∷ member (codes "sender") sender ∷ tail

  abbrev pair_parts : List Text
  pair_parts = codes "receiver" ∷ receiver ∷ codes "sender" ∷ sender ∷ qs

  spells-pair : Spells (join_with_byte 44 pair) pair_parts
  spells-pair = spells-next (member (codes "receiver") receiver) (member (codes "sender") sender) tail
      (codes "receiver" ∷ receiver ∷ []) (codes "sender" ∷ sender ∷ qs)
      (spells-member (codes "receiver") receiver refl hr) ends

  spells-parties : (memo : Text) → Clear memo → Spells (join_with_byte 44 (memo_member memo ++ pair)) (memo_parts memo ++ pair_parts)
  spells-parties [] hm = spells-pair
  spells-parties (c ∷ cs) hm =
      spells-next (member (codes "memo") (c ∷ cs)) (member (codes "receiver") receiver) (member (codes "sender") sender ∷ tail)
      (codes "memo" ∷ (c ∷ cs) ∷ []) pair_parts (spells-member (codes "memo") (c ∷ cs) refl hm) spells-pair

  -- behind another member
  spells-behind : (x : Text) (ps : List Text) → Spells x ps → (memo : Text) → Clear memo
      → Spells (join_with_byte 44 (x ∷ (memo_member memo ++ pair))) (ps ++ (memo_parts memo ++ pair_parts))
  spells-behind x ps hx [] hm =
      spells-next x (member (codes "receiver") receiver) (member (codes "sender") sender ∷ tail) ps pair_parts hx spells-pair
  spells-behind x ps hx (c ∷ cs) hm =
      spells-next x (member (codes "memo") (c ∷ cs)) pair ps (memo_parts (c ∷ cs) ++ pair_parts) hx (spells-parties (c ∷ cs) hm)

-- ---- one token

module _ (t : Token) (memo receiver sender : Text) (ht : is_token t ≡ true) (hm : Clear memo) (hr : Clear receiver) (hs : Clear sender) where
  abbrev one : Data
  one = record { tokens = t ∷ []; memo = memo; receiver = receiver; sender = sender }

  one_spelled : between (object (members_of_first (t ∷ []) ++ party_members one)) ≡ token_parts (t ∷ []) ++ party_parts one
  one_spelled =
      let token = both (is_amount t.amount) (is_denom t.denom) ht in
      let sender_last = spells-member (codes "sender") sender refl hs in
      let amount = spells-member (codes "amount") (decimal t.amount) refl (clear_decimal t.amount token.0) in
      let denom = spells-member (codes "denom") t.denom refl (clear_denom t.denom token.1) in
      spelled (object (members_of_first (t ∷ []) ++ party_members one)) (token_parts (t ∷ []) ++ party_parts one)
      (spells-object (members_of_first (t ∷ []) ++ party_members one) (token_parts (t ∷ []) ++ party_parts one)
      (spells-next (member (codes "amount") (decimal t.amount)) (member (codes "denom") t.denom) (party_members one)
      (codes "amount" ∷ decimal t.amount ∷ []) (codes "denom" ∷ t.denom ∷ party_parts one) amount
      (spells-behind receiver sender hr hs [] [] sender_last (member (codes "denom") t.denom) (codes "denom" ∷ t.denom ∷ []) denom memo hm)))

  one_in : one_token_in (token_parts (t ∷ []) ++ party_parts one) ≡ Some one
  one_in = go memo
    where
      amount : number_of (decimal t.amount) ≡ t.amount
      amount = number_read t.amount (both (is_amount t.amount) (is_denom t.denom) ht).0

      go : (memo : Text) → one_token_in (token_parts (t ∷ []) ++ (memo_parts memo ++ codes "receiver" ∷ receiver ∷ codes "sender" ∷ sender ∷ []))
          ≡ Some (record { tokens = t ∷ []; memo = memo; receiver = receiver; sender = sender })
      go [] = λ i. Some (record { tokens = record { denom = t.denom; amount = amount i } ∷ []; memo = []; receiver = receiver; sender = sender })
      go (c ∷ cs) = λ i. Some (record { tokens = record { denom = t.denom; amount = amount i } ∷ []; memo = c ∷ cs; receiver = receiver; sender = sender })

-- ---- several tokens

spells-token : (t : Token) → is_token t ≡ true → Spells (object (token_members t)) (codes "amount" ∷ decimal t.amount ∷ codes "denom" ∷ t.denom ∷ [])
spells-token t ht =
    let token = both (is_amount t.amount) (is_denom t.denom) ht in
    spells-object (token_members t) (codes "amount" ∷ decimal t.amount ∷ codes "denom" ∷ t.denom ∷ [])
    (spells-next (member (codes "amount") (decimal t.amount)) (member (codes "denom") t.denom) []
    (codes "amount" ∷ decimal t.amount ∷ []) (codes "denom" ∷ t.denom ∷ [])
    (spells-member (codes "amount") (decimal t.amount) refl (clear_decimal t.amount token.0))
    (spells-member (codes "denom") t.denom refl (clear_denom t.denom token.1)))

spells-tokens : (ts : List Token) → list_all is_token ts ≡ true
    → Spells (join_with_byte 44 (map (λ token. object (token_members token)) ts)) (token_parts ts)
spells-tokens [] h = spells-clear [] refl
spells-tokens (t ∷ []) h = spells-token t (both (is_token t) true h).0
spells-tokens (t ∷ u ∷ ts) h =
    let parts = both (is_token t) _ h in
    spells-next (object (token_members t)) (object (token_members u)) (map (λ token. object (token_members token)) ts)
    (codes "amount" ∷ decimal t.amount ∷ codes "denom" ∷ t.denom ∷ []) (token_parts (u ∷ ts))
    (spells-token t parts.0) (spells-tokens (u ∷ ts) parts.1)

spells-list : (ts : List Token) → list_all is_token ts ≡ true → Spells (tokens_member ts) (codes "tokens" ∷ token_parts ts)
spells-list ts h =
    let list : Text = join_with_byte 44 (map (λ token. object (token_members token)) ts) in
    subst (λ ps. Spells (tokens_member ts) (codes "tokens" ∷ ps)) (append-nil (token_parts ts))
    (spells-both (quoted_text (codes "tokens") ++ codes ":[" ++ list) (codes "]") (codes "tokens" ∷ token_parts ts) []
    (spells-both (quoted_text (codes "tokens") ++ codes ":[") list (codes "tokens" ∷ []) (token_parts ts)
    (spells-both (quoted_text (codes "tokens")) (codes ":[") (codes "tokens" ∷ []) [] (spells-quoted (codes "tokens") refl) (spells-clear (codes ":[") refl))
    (spells-tokens ts h)) (spells-clear (codes "]") refl))

several_spelled : (d : Data) → IsClear d → between (object (party_members d ++ tokens_member d.tokens ∷ []))
    ≡ memo_parts d.memo ++ codes "receiver" ∷ d.receiver ∷ codes "sender" ∷ d.sender ∷ codes "tokens" ∷ token_parts d.tokens
several_spelled d h =
    let tail : List Text = tokens_member d.tokens ∷ [] in
    let ends = spells-next (member (codes "sender") d.sender) (tokens_member d.tokens) [] (codes "sender" ∷ d.sender ∷ []) (codes "tokens" ∷ token_parts d.tokens)
    (spells-member (codes "sender") d.sender refl h.sender) (spells-list d.tokens h.tokens) in
    let parts : List Text = memo_parts d.memo ++ codes "receiver" ∷ d.receiver ∷ codes "sender" ∷ d.sender ∷ codes "tokens" ∷ token_parts d.tokens in
    spelled (object (party_members d ++ tail)) parts (spells-object (party_members d ++ tail) parts
    (subst (λ ms. Spells (join_with_byte 44 ms) parts)
    (sym (append_assoc (memo_member d.memo) (member (codes "receiver") d.receiver ∷ member (codes "sender") d.sender ∷ []) tail))
    (spells-parties d.receiver d.sender h.receiver h.sender tail (codes "tokens" ∷ token_parts d.tokens) ends d.memo h.memo)))

several_in : (ts : List Token) (memo receiver sender : Text) → nat_le 1 (length ts) ≡ true → list_all is_token ts ≡ true
    → option_map tokens_behind (parties_in (memo_parts memo ++ codes "receiver" ∷ receiver ∷ codes "sender" ∷ sender ∷ codes "tokens" ∷ token_parts ts))
    ≡ Some (record { tokens = ts; memo = memo; receiver = receiver; sender = sender })
several_in [] memo receiver sender some h = absurd (cc some)
several_in (t ∷ ts) [] receiver sender some h =
    ap (λ (us : List Token). Some (record { tokens = us; memo = []; receiver = receiver; sender = sender })) (tokens_read (t ∷ ts) h)
several_in (t ∷ ts) (c ∷ cs) receiver sender some h =
    ap (λ (us : List Token). Some (record { tokens = us; memo = c ∷ cs; receiver = receiver; sender = sender })) (tokens_read (t ∷ ts) h)

-- ---- both versions

text_in : Bool → Data → Text
text_in several d = if several then object (party_members d ++ tokens_member d.tokens ∷ []) else object (members_of_first d.tokens ++ party_members d)

parts_in : Bool → List Text → Option Data
parts_in several parts = if several then option_map tokens_behind (parties_in parts) else one_token_in parts

is_list_in : Bool → List Token → Bool
is_list_in several tokens = if several then is_short tokens && is_rising tokens else length tokens == 1

read_in : (several : Bool) (d : Data) → IsClear d → is_list_in several d.tokens ≡ true → parts_in several (between (text_in several d)) ≡ Some d
unfolding text_in parts_in is_list_in
read_in true d h list =
    let short = both (is_short d.tokens) (is_rising d.tokens) list in
    ap (λ parts. option_map tokens_behind (parties_in parts)) (several_spelled d h)
    ∙ several_in d.tokens d.memo d.receiver d.sender (both (nat_le 1 (length d.tokens)) _ short.0).0 h.tokens
read_in false d h list = go d.tokens h.tokens list
  where
    go : (ts : List Token) → list_all is_token ts ≡ true → (length ts == 1) ≡ true
        → one_token_in (between (object (members_of_first ts ++ party_members d))) ≡ Some (record d { tokens = ts })
    go [] tokens list = absurd (cc list)
    go (t ∷ []) tokens list =
        let token = (both (is_token t) true tokens).0 in
        ap (λ parts. one_token_in parts) (one_spelled t d.memo d.receiver d.sender token h.memo h.receiver h.sender)
        ∙ one_in t d.memo d.receiver d.sender token h.memo h.receiver h.sender
    go (t ∷ u ∷ ts) tokens list = let two : length (t ∷ u ∷ ts) ≡ 1 = eqb-true (length (t ∷ u ∷ ts)) 1 list in absurd (omega arith)

same_text-self : (a : Text) → same_text a a ≡ true
same_text-self [] = refl
same_text-self (x ∷ xs) = let e : (x == x) ≡ true = grind arith in and_true e (same_text-self xs)

same_text_is : (a b : Text) → same_text a b ≡ true → a ≡ b
same_text_is [] [] e = refl
same_text_is [] (y ∷ ys) e = absurd (cc e)
same_text_is (x ∷ xs) [] e = absurd (cc e)
same_text_is (x ∷ xs) (y ∷ ys) e =
    let parts = both (x == y) (same_text xs ys) e in
    cc (eqb-true x y parts.0, same_text_is xs ys parts.1)

-- good data is read back from its spelling
pub data_read : (version : Text) (d : Data) → is_data version d ≡ true → data_of version (data_text version d) ≡ Some d
unfolding data_of data_text text_in parts_in is_list_in
data_read version d e =
    let list = (both (is_list_for version d.tokens) _ (both _ (is_memo d.memo) (both _ (is_receiver d.receiver) (both _ (is_user d.sender) e).0).0).0).0 in
    ap (λ o. option_and_then (λ x. data_if (is_data version x && same_text (data_text version x) (data_text version d)) x) o)
    (read_in (has_several version) d (data_clear version d e) list)
    ∙ ap (λ b. data_if b d) (and_true e (same_text-self (data_text version d)))

-- and what is read is good, and spelled so
pub data_spelled : (version text : Text) (d : Data) → data_of version text ≡ Some d → (is_data version d ≡ true) × (text ≡ data_text version d)
unfolding data_of
data_spelled version text d e = go (data_in version (between text)) e
  where
    inner : (x : Data) (b : Bool) → (is_data version x && same_text (data_text version x) text) ≡ b → data_if b x ≡ Some d
        → (is_data version d ≡ true) × (text ≡ data_text version d)
    inner x true is e =
        let same : x ≡ d = cc e in
        let parts = both (is_data version x) _ is in
        (subst (λ y. is_data version y ≡ true) same parts.0, subst (λ y. text ≡ data_text version y) same (sym (same_text_is (data_text version x) text parts.1)))
    inner x false is e = absurd (cc e)

    go : (o : Option Data) → option_and_then (λ x. data_if (is_data version x && same_text (data_text version x) text) x) o ≡ Some d
        → (is_data version d ≡ true) × (text ≡ data_text version d)
    go (Some x) e = inner x (is_data version x && same_text (data_text version x) text) refl e
    go None e = absurd (cc e)

pub reads_data : ReadsData
reads_data version text d = (
  λ e. data_spelled version text d e,
  λ h. subst (λ t. data_of version t ≡ Some d) (sym h.1) (data_read version d h.0),
)
