-- The sequence that a text writes.
use Rattle.std.proofs.Common.{◌≡◌, ◌≢◌, ◌⊎◌, inl, inr, zero, suc, eqb-true, ℕ, ◌<◌, ◌^◌, List, length, get_or, Bool, true, false, ◌&&◌, ltb, eqb, [], ◌∷◌, Result, Ok, Err, refl, sym, ap, ◌∙◌, subst, arith, ltb-true}
use Rattle.std.specs.Prelude.{MatchOption}
use Rattle.std.specs.Result.{result_ok}
use Rattle.std.specs.Fmt.{decimal}
use Rattle.std.specs.Str.Parse.{ParsesUnsigned, AllDigits, digits_value}
use Rattle.std.proofs.lemmas.Str.Parse.{IsNumeralModel, numerals_by_value, tells_digits, parse_plain, digit_at}
use Rattle.std.proofs.lemmas.Bool.{and_parts}
use Rattle.std.proofs.lemmas.Bool.Decides.{nat_tests}
use Rattle.std.proofs.lemmas.Fmt.{decimal-digits_value, parse-decimal, decimal_nonempty, first_decimal, decimal_digit, digits_decimal}

numerals : IsNumeralModel (AllDigits 10) (digits_value 10)
numerals = numerals_by_value (AllDigits 10) tells_digits

lt_or_eq : (n : ℕ) → (n ≡ 0) ⊎ (0 < n)
lt_or_eq zero = inl refl
lt_or_eq (suc n) = inr (omega arith)

-- no sign begins it
pub no_sign : (bs : List ℕ) → get_or bs 0 0 ≡ 43 → (n : ℕ) → n < 2 ^ 64 → bs ≢ decimal n
no_sign bs sign n small is =
    let some = decimal_nonempty n small in
    let digit = digit_at (decimal n) 0 (digits_decimal numerals n small) some in
    let first : get_or (decimal n) 0 0 ≡ 43 = ap (λ (t : List ℕ). get_or t 0 0) (sym is) ∙ sign in
    omega (arith, digit.0)

zero_first : (n : ℕ) → n < 2 ^ 64 → 1 < length (decimal n) → get_or (decimal n) 0 0 ≡ 48 → ⊥
zero_first n small many first =
    elim (lt_or_eq n) [ inl none ↦ (let one = ap length (decimal_digit n (omega arith)) in omega (arith, one)) | inr some ↦ omega (arith, first_decimal n some small) ]

-- no needless zero begins it, whatever the text's bytes are called
pub no_zero : (bs text : List ℕ) (b : Bool) → bs ≡ text → b ≡ (ltb 1 (length bs) && eqb (get_or bs 0 0) 48) → b ≡ true → (n : ℕ) → n < 2 ^ 64 → text ≢ decimal n
no_zero bs text b same test holds n small is =
    let both = and_parts (ltb 1 (length bs)) (eqb (get_or bs 0 0) 48) (sym test ∙ holds) in
    let many : 1 < length (decimal n) = subst (λ (t : List ℕ). 1 < length t) (same ∙ is) (ltb-true 1 (length bs) both.0) in
    let first : get_or (decimal n) 0 0 ≡ 48 = sym (ap (λ (t : List ℕ). get_or t 0 0) (same ∙ is)) ∙ eqb-true (get_or bs 0 0) 48 both.1 in
    zero_first n small many first

zero_is_first : (xs : List ℕ) → (ltb 1 (length xs) && eqb (get_or xs 0 0) 48) ≡ false → get_or xs 0 0 ≡ 48 → length xs ≡ 1
zero_is_first [] fails first = absurd (omega (arith, first))
zero_is_first (x ∷ []) fails first = refl
zero_is_first (x ∷ y ∷ xs) fails first = grind (arith, nat_tests)

pub zero_alone : (bs text : List ℕ) (b : Bool) → bs ≡ text → b ≡ (ltb 1 (length bs) && eqb (get_or bs 0 0) 48) → b ≡ false → get_or text 0 0 ≡ 48 → length text ≡ 1
zero_alone bs text b same test fails = subst (λ (t : List ℕ). get_or t 0 0 ≡ 48 → length t ≡ 1) same (zero_is_first bs (sym test ∙ fails))

-- what is read of any other text
pub read : (E : Type 0) (bs : List ℕ) (r : Result ℕ E) → ParsesUnsigned 64 10 bs r → get_or bs 0 0 ≢ 43 → (get_or bs 0 0 ≡ 48 → length bs ≡ 1)
    → MatchOption (result_ok r) ((n : ℕ) → n < 2 ^ 64 → bs ≢ decimal n) (λ n. bs ≡ decimal n)
read E bs (Ok n) h plus alone =
    let p = parse_plain numerals {E = E} 64 bs (Ok n) h plus in
    sym (ap decimal p.1 ∙ decimal-digits_value numerals bs p.0.0 p.0.1 alone p.0.2)
read E bs (Err e) h plus alone = λ n small is. let read = parse-decimal 64 n bs (Err e) small small is h in absurd (cc)
