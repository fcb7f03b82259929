-- Tokens are cut out of their spelling, and of no other text.
use Rattle.std.proofs.Common.{◌≡◌, ℕ, ◌<◌, ◌&&◌, zero, suc, Bool, true, false, List, [], ◌∷◌, ◌++◌, length, Option, Some, None, codes, decimal, option_map, if◌then◌else◌, refl, sym, ap, ◌∙◌, arith}
use Rattle.std.proofs.lemmas.Bool.{and_parts, and_from}
use Rattle.std.specs.List.{list_all}
use Rattle.std.specs.Ordering.{is_lt}
use Rattle.ibc_ids.specs.Texts.{Text, same_text, text_cmp}
use Rattle.ibc_ids.specs.Names.{is_denom}
use Rattle.ibc_ids.proofs.Texts.{text_same}
use Rattle.ibc_wire.specs.Tokens.{is_rising}
use Rattle.ibc_wire.specs.Reading.{◌>>=◌}
use Rattle.ibc_wire.specs.declared.token.Token.{Token}
use Rattle.ibc_machine.specs.ics20.TokenData.{is_amount, is_token}
use Rattle.ibc_machine.proofs.QuotedTexts.{clear_denom, clear_decimal}
use Rattle.ibc_token_data.specs.Cutting.{behind, value_behind, only_if, amount_of_digits, token_at, token_of, tokens_in, is_row}
use Rattle.ibc_token_data.proofs.Amounts.{amount_is, amount_self}
use Rattle.ibc_token_data.proofs.Cuts.{step_is, only_if_is, behind_self, behind_is, value_self, value_is}

-- amount and denomination, and what stands behind them
abbrev pub token_front : ℕ → Text → Text → Text
token_front amount denom rest =
    codes "{\"amount\":\"" ++ (decimal amount ++ 34 ∷ (codes ",\"denom\":\"" ++ (denom ++ 34 ∷ rest)))

pub token_is : (text : Text) (amount : ℕ) (denom rest : Text) → token_at text ≡ Some (amount, denom, rest)
    → (text ≡ token_front amount denom rest) × (is_token (record { denom = denom; amount = amount }) ≡ true)
token_is text amount denom rest e =
    let one = step_is (value_behind (codes "{\"amount\":\"") text) _ (amount, denom, rest) e in
    let two = step_is (amount_of_digits one.0.0) _ (amount, denom, rest) one.2 in
    let three = step_is (value_behind (codes ",\"denom\":\"") one.0.1) _ (amount, denom, rest) two.2 in
    let last = only_if_is (is_token (record { denom = three.0.0; amount = two.0 })) (two.0, three.0.0, three.0.1) (amount, denom, rest) three.2 in
    let number : two.0 ≡ amount = ap (λ (x : ℕ × Text × Text). x.0) last.1 in
    let name : three.0.0 ≡ denom = ap (λ (x : ℕ × Text × Text). x.1) last.1 in
    let back : three.0.1 ≡ rest = ap (λ (x : ℕ × Text × Text). x.2) last.1 in
    let digits : one.0.0 ≡ decimal amount = amount_is one.0.0 two.0 two.1 ∙ ap decimal number in
    let behind_digits : one.0.1 ≡ codes ",\"denom\":\"" ++ (denom ++ 34 ∷ rest) =
    value_is (codes ",\"denom\":\"") one.0.1 three.0.0 three.0.1 three.1 ∙ (λ i. codes ",\"denom\":\"" ++ (name i ++ 34 ∷ back i)) in
    let front : text ≡ token_front amount denom rest =
    value_is (codes "{\"amount\":\"") text one.0.0 one.0.1 one.1 ∙ (λ i. codes "{\"amount\":\"" ++ (digits i ++ 34 ∷ behind_digits i)) in
    let good : is_token (record { denom = denom; amount = amount }) ≡ true =
    (λ i. is_token (record { denom = sym name i; amount = sym number i })) ∙ last.0 in
    (front, good)

pub token_read : (t : Token) (rest : Text) → is_token t ≡ true → token_at (token_front t.amount t.denom rest) ≡ Some (t.amount, t.denom, rest)
token_read t rest good =
    let parts = and_parts (is_amount t.amount) (is_denom t.denom) good in
    let after : Text = codes ",\"denom\":\"" ++ (t.denom ++ 34 ∷ rest) in
    ap (λ (o : Option (Text × Text)). o >>= λ digits. amount_of_digits digits.0 >>= λ n. value_behind (codes ",\"denom\":\"") digits.1 >>= λ name. only_if (is_token (record { denom = name.0; amount = n })) (n, name.0, name.1))
    (value_self (codes "{\"amount\":\"") (decimal t.amount) after (clear_decimal t.amount parts.0))
    ∙ ap (λ (o : Option ℕ). o >>= λ n. value_behind (codes ",\"denom\":\"") after >>= λ name. only_if (is_token (record { denom = name.0; amount = n })) (n, name.0, name.1)) (amount_self t.amount parts.0)
    ∙ ap (λ (o : Option (Text × Text)). o >>= λ name. only_if (is_token (record { denom = name.0; amount = t.amount })) (t.amount, name.0, name.1))
    (value_self (codes ",\"denom\":\"") t.denom rest (clear_denom t.denom parts.1))
    ∙ ap (λ b. only_if b (t.amount, t.denom, rest)) good

-- tokens behind one another, up to the end of the list and of the data
unfoldable pub list_text : Token → List Token → Text
list_text t [] = token_front t.amount t.denom (codes "}]}")
list_text t (u ∷ us) = token_front t.amount t.denom (codes "}," ++ list_text u us)

-- a text is that of at most so many tokens
pub record IsList (n : ℕ) (text : Text) (ts : List Token) : Type 0 where
  pub first : Token
  pub others : List Token
  pub are : ts ≡ first ∷ others
  pub spelled : text ≡ list_text first others
  pub good : list_all is_token (first ∷ others) ≡ true
  pub short : length others < n

list_step : (n : ℕ) (text : Text) (ts : List Token) (amount : ℕ) (denom rest : Text) (token : Token) → token_at text ≡ Some (amount, denom, rest) → token_of amount denom ≡ Some token
    → ((more : Text) (us : List Token) → tokens_in n more ≡ Some us → IsList n more us)
    → (if same_text rest (codes "}]}") then Some (token ∷ []) else (behind (codes "},") rest >>= λ next. option_map (λ tokens. token ∷ tokens) (tokens_in n next))) ≡ Some ts
    → IsList (suc n) text ts
unfolding list_text
list_step n text ts amount denom rest token found named so e = go (same_text rest (codes "}]}")) refl e
  where
    is : record { denom = denom; amount = amount } ≡ token
    is = (only_if_is (is_denom denom) (record { denom = denom; amount = amount }) token named).1

    whole : (text ≡ token_front amount denom rest) × (is_token (record { denom = denom; amount = amount }) ≡ true)
    whole = token_is text amount denom rest found

    good_token : is_token token ≡ true
    good_token = ap is_token (sym is) ∙ whole.1

    front : (after : Text) → rest ≡ after → text ≡ token_front token.amount token.denom after
    front after same = whole.0 ∙ (λ i. token_front (is i).amount (is i).denom (same i))

    later : (more : Text) (o : Option (List Token)) → tokens_in n more ≡ o → behind (codes "},") rest ≡ Some more → option_map (λ tokens. token ∷ tokens) o ≡ Some ts → IsList (suc n) text ts
    later more None gives step e = absurd (cc e)
    later more (Some us) gives step e =
        let others = so more us gives in
        let all : token ∷ us ≡ ts = cc e in
        let few = others.short in
        record {
          first = token;
          others = others.first ∷ others.others;
          are = sym all ∙ ap (λ l. token ∷ l) others.are;
          spelled = front (codes "}," ++ list_text others.first others.others) (behind_is (codes "},") rest more step ∙ ap (λ t. codes "}," ++ t) others.spelled);
          good = and_from (is_token token) _ good_token others.good;
          short = omega (arith, few);
        }

    go : (b : Bool) → same_text rest (codes "}]}") ≡ b
        → (if b then Some (token ∷ []) else (behind (codes "},") rest >>= λ next. option_map (λ tokens. token ∷ tokens) (tokens_in n next))) ≡ Some ts → IsList (suc n) text ts
    go true ends e = record {
      first = token;
      others = [];
      are = sym (cc e);
      spelled = front (codes "}]}") (text_same rest (codes "}]}") ends);
      good = and_from (is_token token) true good_token refl;
      short = omega arith;
    }
    go false ends e =
        let next = step_is (behind (codes "},") rest) (λ next. option_map (λ tokens. token ∷ tokens) (tokens_in n next)) ts e in
        later next.0 (tokens_in n next.0) refl next.1 next.2

pub list_is : (n : ℕ) (text : Text) (ts : List Token) → tokens_in n text ≡ Some ts → IsList n text ts
unfolding tokens_in
list_is zero text ts e = absurd (cc e)
list_is (suc n) text ts e =
    let found = step_is (token_at text) _ ts e in
    let token = step_is (token_of found.0.0 found.0.1) _ ts found.2 in
    list_step n text ts found.0.0 found.0.1 found.0.2 token.0 found.1 token.1 (λ more us is. list_is n more us is) token.2

pub token_found : (t : Token) → is_token t ≡ true → token_of t.amount t.denom ≡ Some t
token_found t good = ap (λ b. only_if b t) (and_parts (is_amount t.amount) (is_denom t.denom) good).1

pub list_self : (n : ℕ) (t : Token) (us : List Token) → length us < n → list_all is_token (t ∷ us) ≡ true → tokens_in n (list_text t us) ≡ Some (t ∷ us)
unfolding tokens_in list_text
list_self zero t us short good = absurd (omega (arith, short))
list_self (suc n) t [] short good =
    let one = (and_parts (is_token t) true good).0 in
    rw (token_read t (codes "}]}") one, token_found t one) refl
list_self (suc n) t (u ∷ us) short good =
    let parts = and_parts (is_token t) (list_all is_token (u ∷ us)) good in
    rw (token_read t (codes "}," ++ list_text u us) parts.0, token_found t parts.0, behind_self (codes "},") (list_text u us), list_self n u us (omega (arith, short)) parts.1) refl

-- a row is seen where its tokens rise
pub row_is : (n : ℕ) (last : Text) (t : Token) (us : List Token) → length us < n → list_all is_token (t ∷ us) ≡ true
    → is_row n last (list_text t us) ≡ (is_lt (text_cmp last t.denom) && is_rising (t ∷ us))
unfolding is_row list_text
row_is zero last t us short good = absurd (omega (arith, short))
row_is (suc n) last t [] short good =
    let one = (and_parts (is_token t) true good).0 in
    rw (token_read t (codes "}]}") one) refl
row_is (suc n) last t (u ∷ us) short good =
    let parts = and_parts (is_token t) (list_all is_token (u ∷ us)) good in
    rw (token_read t (codes "}," ++ list_text u us) parts.0, behind_self (codes "},") (list_text u us), row_is n t.denom u us (omega (arith, short)) parts.1) refl

-- the first denomination stands behind the empty text
pub first_rises : (denom : Text) → is_denom denom ≡ true → is_lt (text_cmp [] denom) ≡ true
first_rises [] good = absurd (cc good)
first_rises (c ∷ cs) good = refl
