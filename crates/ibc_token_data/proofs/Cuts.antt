-- Texts that are cut behind a front and at a quote.
use Rattle.std.proofs.Common.{◌≡◌, ◌≢◌, Bor, ℕ, ◌+◌, suc, ◌==◌, Bool, true, false, not, cond, if◌then◌else◌, [], ◌∷◌, ◌++◌, length, take, drop, Option, Some, None, option_map, nat_lt, refl, sym, ap, ◌∙◌, arith, eqb-true}
use Rattle.std.proofs.lemmas.Bool.{lt-ltb}
use Rattle.std.proofs.lemmas.Bool.Decides.{nat_tests}
use Rattle.std.specs.Prelude.{MatchOption}
use Rattle.std.specs.List.{position, prefix_len}
use Rattle.ibc_ids.specs.Texts.{Text}
use Rattle.ibc_wire.specs.Reading.{◌>>=◌}
use Rattle.ibc_machine.proofs.QuotedTexts.{Clear, both, not_is}
use Rattle.ibc_token_data.specs.Cutting.{is_quote, with_byte, behind, up_to_quote, value_behind, only_if}

-- ---- steps that may give nothing

pub step_is : {A B : Type 0} (o : Option A) (f : A → Option B) (b : B) → (o >>= f) ≡ Some b → (a : A) × (o ≡ Some a) × (f a ≡ Some b)
step_is None f b e = absurd (cc e)
step_is (Some a) f b e = (a, refl, e)

pub some_is : {A : Type 0} {a b : A} → Some a ≡ Some b → a ≡ b
some_is e = cc e

pub only_if_is : {A : Type 0} (passes : Bool) (a b : A) → only_if passes a ≡ Some b → (passes ≡ true) × (a ≡ b)
only_if_is true a b e = (refl, cc e)
only_if_is false a b e = absurd (cc e)

-- ---- fronts

pub behind_self : (front rest : Text) → behind front (front ++ rest) ≡ Some rest
unfolding behind
behind_self [] rest = refl
behind_self (f ∷ front) rest =
    let same : (f == f) ≡ true = grind arith in
    ap (λ b. if b then behind front (front ++ rest) else None) same ∙ behind_self front rest

pub behind_is : (front text rest : Text) → behind front text ≡ Some rest → text ≡ front ++ rest
unfolding behind
behind_is [] text rest e = cc e
behind_is (f ∷ front) [] rest e = absurd (cc e)
behind_is (f ∷ front) (c ∷ text) rest e = go (c == f) refl (λ found. behind_is front text rest found) e
  where
    go : (b : Bool) → (c == f) ≡ b → (behind front text ≡ Some rest → text ≡ front ++ rest) → (if b then behind front text else None) ≡ Some rest → c ∷ text ≡ f ∷ (front ++ rest)
    go true is so e =
        let head = eqb-true c f is in
        let tail = so e in
        λ i. head i ∷ tail i
    go false is so e = absurd (cc e)

-- what is stripped of its front is what stands behind it
pub behind_by : (front text : Text) (r : Option (Bor Text)) → MatchOption r ((rest : Text) → text ≢ front ++ rest) (λ x. text ≡ front ++ x.now)
    → option_map (λ rest. rest.now) r ≡ behind front text
behind_by front text (Some x) h = sym (ap (behind front) h ∙ behind_self front x.now)
behind_by front text None h = go (behind front text) refl
  where
    go : (o : Option Text) → behind front text ≡ o → None ≡ behind front text
    go None is = sym is
    go (Some rest) is = absurd (h rest (behind_is front text rest is))

-- ---- quotes

pub up_to_self : (value rest : Text) → Clear value → up_to_quote (value ++ 34 ∷ rest) ≡ Some (value, rest)
unfolding up_to_quote
up_to_self [] rest h = refl
up_to_self (c ∷ value) rest h =
    let parts = both (not (c == 34)) _ h in
    ap (λ b. if b then Some ([], value ++ 34 ∷ rest) else option_map (with_byte c) (up_to_quote (value ++ 34 ∷ rest))) (not_is (c == 34) parts.0)
    ∙ ap (λ o. option_map (with_byte c) o) (up_to_self value rest parts.1)

pub up_to_is : (text value rest : Text) → up_to_quote text ≡ Some (value, rest) → text ≡ value ++ 34 ∷ rest
unfolding up_to_quote
up_to_is [] value rest e = absurd (cc e)
up_to_is (c ∷ text) value rest e = go (c == 34) refl (λ inside more found. up_to_is text inside more found) e
  where
    later : (o : Option (Text × Text)) → ((inside more : Text) → o ≡ Some (inside, more) → text ≡ inside ++ 34 ∷ more) → option_map (with_byte c) o ≡ Some (value, rest) → c ∷ text ≡ value ++ 34 ∷ rest
    later None so e = absurd (cc e)
    later (Some (inside, more)) so e =
        let all = some_is e in
        let front : c ∷ inside ≡ value = ap (λ (x : Text × Text). x.0) all in
        let back : more ≡ rest = ap (λ (x : Text × Text). x.1) all in
        ap (λ t. c ∷ t) (so inside more refl) ∙ (λ i. front i ++ 34 ∷ back i)

    go : (b : Bool) → (c == 34) ≡ b → ((inside more : Text) → up_to_quote text ≡ Some (inside, more) → text ≡ inside ++ 34 ∷ more) → (if b then Some ([], text) else option_map (with_byte c) (up_to_quote text)) ≡ Some (value, rest) → c ∷ text ≡ value ++ 34 ∷ rest
    go true is so e =
        let all = some_is e in
        let front : [] ≡ value = ap (λ (x : Text × Text). x.0) all in
        let back : text ≡ rest = ap (λ (x : Text × Text). x.1) all in
        ap (λ k. k ∷ text) (eqb-true c 34 is) ∙ (λ i. front i ++ 34 ∷ back i)
    go false is so e = later (up_to_quote text) so e

abbrev pub cut_there : Text → ℕ → Text × Text
cut_there text at = (take at text, drop (at + 1) text)

-- the first quote's place cuts there
pub up_to_by : (text : Text) → option_map (cut_there text) (position is_quote text) ≡ up_to_quote text
unfolding up_to_quote
up_to_by [] = refl
up_to_by (c ∷ text) = go (c == 34) (up_to_by text)
  where
    before : ℕ
    before = prefix_len (λ x. not (is_quote x)) text

    later : (b : Bool) → nat_lt before (length text) ≡ b → option_map (cut_there text) (cond b (Some before) None) ≡ up_to_quote text
        → option_map (cut_there (c ∷ text)) (cond b (Some (1 + before)) None) ≡ option_map (with_byte c) (up_to_quote text)
    later true is e =
        let next : 1 + before + 1 ≡ suc (before + 1) = omega arith in
        let one : 1 + before ≡ suc before = omega arith in
        (λ i. Some (take (one i) (c ∷ text), drop (next i) (c ∷ text))) ∙ ap (λ o. option_map (with_byte c) o) e
    later false is e = ap (λ o. option_map (with_byte c) o) e

    go : (b : Bool) → option_map (cut_there text) (position is_quote text) ≡ up_to_quote text
        → option_map (cut_there (c ∷ text)) (cond (nat_lt (cond (not b) (1 + before) 0) (length (c ∷ text))) (Some (cond (not b) (1 + before) 0)) None)
        ≡ (if b then Some ([], text) else option_map (with_byte c) (up_to_quote text))
    go true so =
        let some : nat_lt 0 (length (c ∷ text)) ≡ true = lt-ltb 0 (length (c ∷ text)) (omega arith) in
        ap (λ b. option_map (cut_there (c ∷ text)) (cond b (Some 0) None)) some
    go false so =
        let same : nat_lt (1 + before) (length (c ∷ text)) ≡ nat_lt before (length text) = grind (arith, nat_tests) in
        ap (λ b. option_map (cut_there (c ∷ text)) (cond b (Some (1 + before)) None)) same
        ∙ later (nat_lt before (length text)) refl so

-- ---- values

pub value_self : (front value rest : Text) → Clear value → value_behind front (front ++ (value ++ 34 ∷ rest)) ≡ Some (value, rest)
value_self front value rest h =
    ap (λ o. o >>= up_to_quote) (behind_self front (value ++ 34 ∷ rest)) ∙ up_to_self value rest h

pub value_is : (front text value rest : Text) → value_behind front text ≡ Some (value, rest) → text ≡ front ++ (value ++ 34 ∷ rest)
value_is front text value rest e =
    let start = step_is (behind front text) up_to_quote (value, rest) e in
    behind_is front text start.0 start.1 ∙ ap (λ t. front ++ t) (up_to_is start.0 value rest start.2)
