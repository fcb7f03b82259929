-- Data is told of its one spelling, and of no other text.
use Rattle.std.proofs.Common.{◌≡◌, ℕ, ◌<◌, Bool, true, false, ◌&&◌, ◌==◌, List, [], ◌∷◌, ◌++◌, length, Option, Some, None, codes, if◌then◌else◌, refl, sym, ap, ◌∙◌, subst, arith, nat_le, eqb-true, leb-true}
use Rattle.std.proofs.lemmas.Bool.{and_parts, and_from, le-leb}
use Rattle.std.specs.List.{list_all}
use Rattle.std.specs.Ordering.{is_lt}
use Rattle.ibc_ids.specs.Texts.{Text, same_text, text_cmp}
use Rattle.ibc_ids.specs.Names.{is_denom, is_memo, is_receiver, is_user}
use Rattle.ibc_ids.proofs.Texts.{text_same}
use Rattle.ibc_wire.specs.Tokens.{is_rising, is_short}
use Rattle.ibc_wire.specs.Reading.{◌>>=◌}
use Rattle.ibc_wire.specs.declared.token.Token.{Token}
use Rattle.ibc_machine.specs.ics20.TokenData.{Data, is_amount, is_token, is_list_for, is_data, has_several, data_text, data_of}
use Rattle.ibc_machine.proofs.DataRead.{reads_data}
use Rattle.ibc_token_data.specs.Cutting.{behind, only_if, token_at, token_of, tokens_in, is_row, are_parties, parties_behind, told_with, one_cut, one_told, several_told, told_by}
use Rattle.ibc_token_data.specs.Spelling.{members_text}
use Rattle.ibc_token_data.proofs.Joined.{by_several}
use Rattle.ibc_token_data.proofs.Cuts.{step_is, only_if_is, behind_self, behind_is}
use Rattle.ibc_token_data.proofs.TokenTexts.{token_front, token_is, list_text, list_is, token_found, token_read, list_self, row_is, first_rises}
use Rattle.ibc_token_data.proofs.PartyTexts.{parties_front, parties_is, parties_self}
use Rattle.ibc_token_data.proofs.WrittenTexts.{one_text, one_then, several_text, several_then}

-- ---- good data

abbrev pub written : Bool → Data → Text
written several d = codes "{" ++ members_text several d ++ codes "}"

-- data that a packet may have, which has several tokens or one
record IsGood (several : Bool) (d : Data) : Type 0 where
  list : (if several then is_short d.tokens && is_rising d.tokens else length d.tokens == 1) ≡ true
  tokens : list_all is_token d.tokens ≡ true
  parties : are_parties d.memo d.receiver d.sender ≡ true

good_parts : (version : Text) (d : Data) → is_data version d ≡ true → IsGood (has_several version) d
good_parts version d e =
    let one = and_parts _ (is_user d.sender) e in
    let two = and_parts _ (is_receiver d.receiver) one.0 in
    let three = and_parts _ (is_memo d.memo) two.0 in
    let four = and_parts (is_list_for version d.tokens) (list_all is_token d.tokens) three.0 in
    record { list = four.0; tokens = four.1; parties = and_from _ _ (and_from _ _ three.1 two.1) one.1 }

good_data : (version : Text) (d : Data) → IsGood (has_several version) d → is_data version d ≡ true
good_data version d good =
    let two = and_parts _ (is_user d.sender) good.parties in
    let one = and_parts (is_memo d.memo) (is_receiver d.receiver) two.0 in
    and_from _ _ (and_from _ _ (and_from _ _ (and_from (is_list_for version d.tokens) _ good.list good.tokens) one.0) one.1) two.1

-- ---- what is told is spelled

-- what is told of a text is good, and the text is its spelling
abbrev IsToldOf : Bool → Text → Data → Type 0
IsToldOf several text d = (text ≡ written several d) × IsGood several d

-- data with these tokens and parties
abbrev data_of_parts : List Token → Text × Text × Text × Text → Data
data_of_parts tokens p = record { tokens = tokens; memo = p.0; receiver = p.1; sender = p.2 }

with_is : (tokens : List Token) (p : Text × Text × Text × Text) (d : Data) → told_with tokens p ≡ Some d → (are_parties p.0 p.1 p.2 ≡ true) × (data_of_parts tokens p ≡ d)
with_is tokens (memo, receiver, sender, rest) d e =
    only_if_is (are_parties memo receiver sender) (record { tokens = tokens; memo = memo; receiver = receiver; sender = sender }) d e

good_of_parts : (several : Bool) (tokens : List Token) (p : Text × Text × Text × Text) (d : Data) → (are_parties p.0 p.1 p.2 ≡ true) × (data_of_parts tokens p ≡ d)
    → (if several then is_short tokens && is_rising tokens else length tokens == 1) ≡ true → list_all is_token tokens ≡ true → IsGood several d
good_of_parts several tokens p d is list good = subst (IsGood several) is.1 (record { list = list; tokens = good; parties = is.0 })

one_is : (text : Text) (d : Data) → one_told text ≡ Some d → IsToldOf false text d
unfolding one_text
one_is text d e =
    let cut = step_is (one_cut text) _ d e in
    let token = step_is (token_of cut.0.0 cut.0.1) _ d cut.2 in
    let facts = with_is (token.0 ∷ []) cut.0.2 d token.2 in
    let named = (only_if_is (is_denom cut.0.1) (record { denom = cut.0.1; amount = cut.0.0 }) token.0 token.1).1 in
    let front = step_is (token_at text) _ cut.0 cut.1 in
    let parties = step_is (parties_behind (codes ",") front.0.2) _ cut.0 front.2 in
    let ends = only_if_is (same_text parties.0.3 (codes "}")) (front.0.0, front.0.1, parties.0) cut.0 parties.2 in
    let start = token_is text front.0.0 front.0.1 front.0.2 front.1 in
    let whole : text ≡ token_front front.0.0 front.0.1 (codes "," ++ parties_front parties.0.0 parties.0.1 parties.0.2 (codes "}")) =
    start.0
    ∙ ap (token_front front.0.0 front.0.1) (parties_is (codes ",") front.0.2 parties.0.0 parties.0.1 parties.0.2 parties.0.3 parties.1)
    ∙ ap (λ x. token_front front.0.0 front.0.1 (codes "," ++ parties_front parties.0.0 parties.0.1 parties.0.2 x)) (text_same parties.0.3 (codes "}") ends.0) in
    let same : text ≡ one_text token.0 d =
    whole
    ∙ ap (λ (x : ℕ × Text × (Text × Text × Text × Text)). token_front x.0 x.1 (codes "," ++ parties_front x.2.0 x.2.1 x.2.2 (codes "}"))) ends.1
    ∙ (λ i. token_front (named i).amount (named i).denom (codes "," ++ parties_front (facts.1 i).memo (facts.1 i).receiver (facts.1 i).sender (codes "}"))) in
    let good_token : is_token token.0 ≡ true =
    ap is_token (sym named) ∙ ap (λ (x : ℕ × Text × (Text × Text × Text × Text)). is_token (record { denom = x.1; amount = x.0 })) (sym ends.1) ∙ start.1 in (
      same ∙ sym (one_then token.0 [] d (ap (λ (x : Data). x.tokens) (sym facts.1))),
      good_of_parts false (token.0 ∷ []) cut.0.2 d facts refl (and_from (is_token token.0) true good_token refl),
    )

several_is : (text : Text) (d : Data) → several_told text ≡ Some d → IsToldOf true text d
unfolding several_text
several_is text d e =
    let parties = step_is (parties_behind (codes "{") text) _ d e in
    let list = step_is (behind (codes ",\"tokens\":[") parties.0.3) _ d parties.2 in
    let seen = step_is (only_if (is_row 8 [] list.0) list.0) _ d list.2 in
    let rises = only_if_is (is_row 8 [] list.0) list.0 seen.0 seen.1 in
    let tokens = step_is (tokens_in 8 seen.0) _ d seen.2 in
    let facts = with_is tokens.0 parties.0 d tokens.2 in
    let row = list_is 8 list.0 tokens.0 (ap (tokens_in 8) rises.1 ∙ tokens.1) in
    let same : text ≡ several_text row.first row.others d =
    parties_is (codes "{") text parties.0.0 parties.0.1 parties.0.2 parties.0.3 parties.1
    ∙ ap (λ x. codes "{" ++ parties_front parties.0.0 parties.0.1 parties.0.2 x)
    (behind_is (codes ",\"tokens\":[") parties.0.3 list.0 list.1 ∙ ap (λ x. codes ",\"tokens\":[" ++ x) row.spelled)
    ∙ (λ i. codes "{" ++ parties_front (facts.1 i).memo (facts.1 i).receiver (facts.1 i).sender (codes ",\"tokens\":[" ++ list_text row.first row.others)) in
    let rising : is_rising (row.first ∷ row.others) ≡ true =
    (and_parts (is_lt (text_cmp [] row.first.denom)) _
    (sym (row_is 8 [] row.first row.others row.short row.good) ∙ ap (is_row 8 []) (sym row.spelled) ∙ rises.0)).1 in
    let few = row.short in
    let short : is_short (row.first ∷ row.others) ≡ true = and_from _ _ (le-leb 1 (length (row.first ∷ row.others)) (omega arith)) (le-leb (length (row.first ∷ row.others)) 8 (omega (arith, few))) in (
      same ∙ sym (several_then row.first row.others d (ap (λ (x : Data). x.tokens) (sym facts.1) ∙ row.are)),
      good_of_parts true tokens.0 parties.0 d facts (ap (λ l. is_short l && is_rising l) row.are ∙ and_from _ _ short rising) (ap (list_all is_token) row.are ∙ row.good),
    )

told_is : (several : Bool) (text : Text) (d : Data) → told_by several text ≡ Some d → IsToldOf several text d
told_is true text d e = several_is text d e
told_is false text d e = one_is text d e

-- ---- what is spelled is told

module _ (d : Data) (tokens : list_all is_token d.tokens ≡ true) (parties : are_parties d.memo d.receiver d.sender ≡ true) where
  parties_read : (front rest : Text) → parties_behind front (front ++ parties_front d.memo d.receiver d.sender rest) ≡ Some (d.memo, d.receiver, d.sender, rest)
  parties_read front rest = parties_self front d.memo d.receiver d.sender rest parties

  with_self : (rest : Text) (ts : List Token) → d.tokens ≡ ts → told_with ts (d.memo, d.receiver, d.sender, rest) ≡ Some d
  with_self rest ts is =
      ap (λ b. only_if b (record { tokens = ts; memo = d.memo; receiver = d.receiver; sender = d.sender })) parties
      ∙ ap (λ (l : List Token). Some (record { tokens = l; memo = d.memo; receiver = d.receiver; sender = d.sender })) (sym is)

  one_self : (t : Token) → d.tokens ≡ t ∷ [] → one_told (written false d) ≡ Some d
  unfolding one_text
  one_self t is =
      let good : is_token t ≡ true = (and_parts (is_token t) true (ap (list_all is_token) (sym is) ∙ tokens)).0 in
      let p : Text × Text × Text × Text = (d.memo, d.receiver, d.sender, codes "}") in
      let rest : Text = codes "," ++ parties_front d.memo d.receiver d.sender (codes "}") in
      let cut : one_cut (one_text t d) ≡ Some (t.amount, t.denom, p) =
      ap (λ (o : Option (ℕ × Text × Text)). o >>= λ token. parties_behind (codes ",") token.2 >>= λ parties. only_if (same_text parties.3 (codes "}")) (token.0, token.1, parties))
      (token_read t rest good)
      ∙ ap (λ (o : Option (Text × Text × Text × Text)). o >>= λ parties. only_if (same_text parties.3 (codes "}")) (t.amount, t.denom, parties)) (parties_read (codes ",") (codes "}")) in
      ap one_told (one_then t [] d is)
      ∙ ap (λ (o : Option (ℕ × Text × (Text × Text × Text × Text))). o >>= λ cut. token_of cut.0 cut.1 >>= λ token. told_with (token ∷ []) cut.2) cut
      ∙ ap (λ (o : Option Token). o >>= λ token. told_with (token ∷ []) p) (token_found t good)
      ∙ with_self (codes "}") (t ∷ []) is

  several_self : (t : Token) (us : List Token) → d.tokens ≡ t ∷ us → length us < 8 → is_rising (t ∷ us) ≡ true → several_told (written true d) ≡ Some d
  unfolding several_text
  several_self t us is short rising =
      let list_opens : Text = codes ",\"tokens\":[" in
      let p : Text × Text × Text × Text = (d.memo, d.receiver, d.sender, list_opens ++ list_text t us) in
      let good : list_all is_token (t ∷ us) ≡ true = ap (list_all is_token) (sym is) ∙ tokens in
      let good_denom : is_denom t.denom ≡ true = (and_parts (is_amount t.amount) (is_denom t.denom) (and_parts (is_token t) (list_all is_token us) good).0).1 in
      let rises : is_row 8 [] (list_text t us) ≡ true = row_is 8 [] t us short good ∙ and_from _ _ (first_rises t.denom good_denom) rising in
      ap several_told (several_then t us d is)
      ∙ ap (λ (o : Option (Text × Text × Text × Text)). o >>= λ parties. behind (codes ",\"tokens\":[") parties.3 >>= λ list. only_if (is_row 8 [] list) list >>= λ row. tokens_in 8 row >>= λ tokens. told_with tokens parties)
      (parties_read (codes "{") (list_opens ++ list_text t us))
      ∙ ap (λ (o : Option Text). o >>= λ list. only_if (is_row 8 [] list) list >>= λ row. tokens_in 8 row >>= λ tokens. told_with tokens p) (behind_self list_opens (list_text t us))
      ∙ ap (λ b. only_if b (list_text t us) >>= λ row. tokens_in 8 row >>= λ tokens. told_with tokens p) rises
      ∙ ap (λ (o : Option (List Token)). o >>= λ tokens. told_with tokens p) (list_self 8 t us short good)
      ∙ with_self (list_opens ++ list_text t us) (t ∷ us) is

  several_read : (is_short d.tokens && is_rising d.tokens) ≡ true → several_told (written true d) ≡ Some d
  several_read listed = go d.tokens refl listed
    where
      go : (ts : List Token) → d.tokens ≡ ts → (is_short ts && is_rising ts) ≡ true → several_told (written true d) ≡ Some d
      go [] is listed = absurd (cc listed)
      go (t ∷ us) is listed =
          let parts = and_parts (is_short (t ∷ us)) (is_rising (t ∷ us)) listed in
          let most = leb-true (length (t ∷ us)) 8 (and_parts (nat_le 1 (length (t ∷ us))) (nat_le (length (t ∷ us)) 8) parts.0).1 in
          several_self t us is (omega (arith, most)) parts.1

  one_read : (length d.tokens == 1) ≡ true → one_told (written false d) ≡ Some d
  one_read one = go d.tokens refl one
    where
      go : (ts : List Token) → d.tokens ≡ ts → (length ts == 1) ≡ true → one_told (written false d) ≡ Some d
      go [] is one = absurd (cc one)
      go (t ∷ []) is one = one_self t is
      go (t ∷ u ∷ us) is one = let two : length (t ∷ u ∷ us) ≡ 1 = eqb-true (length (t ∷ u ∷ us)) 1 one in absurd (omega arith)

  read_by : (several : Bool) → (if several then is_short d.tokens && is_rising d.tokens else length d.tokens == 1) ≡ true → told_by several (written several d) ≡ Some d
  read_by true list = several_read list
  read_by false list = one_read list

spelled_so : (version : Text) (d : Data) → written (has_several version) d ≡ data_text version d
unfolding data_text
spelled_so version d = by_several (has_several version) d

-- ---- what is read

-- good data that is told of a text is its data
told_good : (version text : Text) (d : Data) → told_by (has_several version) text ≡ Some d → data_of version text ≡ Some d
told_good version text d told =
    let is = told_is (has_several version) text d told in
    (reads_data version text d).1 (good_data version d is.1, is.0 ∙ spelled_so version d)

-- a text's data is told of it
data_told : (version text : Text) (d : Data) → data_of version text ≡ Some d → told_by (has_several version) text ≡ Some d
data_told version text d e =
    let h = (reads_data version text d).0 e in
    let good = good_parts version d h.0 in
    ap (told_by (has_several version)) (h.1 ∙ sym (spelled_so version d))
    ∙ read_by d good.tokens good.parties (has_several version) good.list

-- what is told of a text is its data
pub told_data : (version text : Text) → told_by (has_several version) text ≡ data_of version text
told_data version text = go (told_by (has_several version) text) refl (data_of version text) refl
  where
    go : (o : Option Data) → told_by (has_several version) text ≡ o → (p : Option Data) → data_of version text ≡ p → o ≡ p
    go (Some d) told p of = sym (told_good version text d told) ∙ of
    go None told None of = refl
    go None told (Some d) of = sym told ∙ data_told version text d of
