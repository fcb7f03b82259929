-- Amounts are read from their digits, and from no other text.
use Rattle.std.proofs.Common.{◌≡◌, ◌≢◌, ℕ, ◌+◌, ◌*◌, ◌/◌, ◌%◌, ◌<◌, ◌≤◌, ◌^◌, ◌&&◌, Bool, true, false, IsUtf8, [], ◌∷◌, ◌++◌, get_or, Option, Some, None, Result, Ok, Err, decimal, nat_le, nat_lt, refl, sym, ap, ◌∙◌, subst, arith, ltb-true, leb-true, append_assoc, append-nil}
use Rattle.std.proofs.lemmas.Bool.{and_parts, and_from, le-leb, lt-ltb}
use Rattle.std.proofs.lemmas.Bool.Decides.{nat_tests}
use Rattle.std.proofs.lemmas.Fmt.{parse-decimal_wide, decimal_digit, decimal_step_wide, decimal_by_steps_wide, IsAscii-decimal_wide}
use Rattle.std.proofs.lemmas.Str.{IsUtf8-from_ascii}
use Rattle.std.proofs.lemmas.Str.Parse.{IsNumeralModel, numerals_by_value, tells_digits, parse_plain, digit_from_value}
use Rattle.std.specs.Char.{digit_value}
use Rattle.std.specs.Prelude.{MatchOption}
use Rattle.std.specs.Result.{result_ok}
use Rattle.std.specs.Str.Parse.{ParsesUnsigned, AllDigits, digits_value, digits_value_after}
use Rattle.ibc_ids.specs.Texts.{Text, same_text}
use Rattle.ibc_ids.proofs.Texts.{text_same, same_text_itself}
use Rattle.ibc_machine.specs.ics20.TokenData.{is_amount, number_of}
use Rattle.ibc_machine.proofs.QuotedTexts.{amount_small, number_read, digit_is}
use Rattle.ibc_token_data.specs.Cutting.{amount_of_digits, only_if}
use Rattle.ibc_token_data.proofs.Cuts.{only_if_is}

numerals : IsNumeralModel (AllDigits 10) (digits_value 10)
numerals = numerals_by_value (AllDigits 10) tells_digits

-- ---- digits that begin with none of 0

grows : (n : ℕ) (ds : Text) → n ≤ digits_value_after 10 n ds
grows n [] = omega arith
grows n (c ∷ cs) = let rest = grows (n * 10 + digit_value c) cs in omega (arith, rest)

-- digits behind the text of a number
digits_behind : (n : ℕ) (front ds : Text) → AllDigits 10 ds → 0 < n → front ≡ decimal n → digits_value_after 10 n ds < 10 ^ 64 → front ++ ds ≡ decimal (digits_value_after 10 n ds)
digits_behind n front [] h some is small = append-nil front ∙ is
digits_behind n front (c ∷ cs) h some is small =
    let range = digit_from_value c h.0 in
    let next : ℕ = n * 10 + digit_value c in
    let within = grows next cs in
    let step = decimal_step_wide next (omega arith) (omega (arith, within, small)) in
    let low = h.0 in
    let top : next / 10 ≡ n = omega (arith, low) in
    let last : next % 10 ≡ digit_value c = omega (arith, low) in
    let glyph : 48 + digit_value c ≡ c = digit_glyph_of c h.0 in
    let written : decimal next ≡ decimal n ++ c ∷ [] = step ∙ (λ i. decimal (top i) ++ (48 + last i) ∷ []) ∙ ap (λ g. decimal n ++ g ∷ []) glyph in
    sym (append_assoc front (c ∷ []) cs) ∙ digits_behind next (front ++ c ∷ []) cs h.1 (omega arith) (ap (λ t. t ++ c ∷ []) is ∙ sym written) small
  where
    digit_glyph_of : (c : ℕ) → digit_value c < 10 → 48 + digit_value c ≡ c
    digit_glyph_of c low = let value = digit_is c low in let range = digit_from_value c low in omega (arith, value, range.0)

written_digits : (ds : Text) → AllDigits 10 ds → 49 ≤ get_or ds 0 0 → digits_value 10 ds < 10 ^ 64 → (ds ≡ decimal (digits_value 10 ds)) × (1 ≤ digits_value 10 ds)
written_digits [] h first small = absurd (omega (arith, first))
written_digits (c ∷ cs) h first small =
    let value = digit_is c h.0 in
    let n : ℕ = 0 * 10 + digit_value c in
    let within = grows n cs in
    let low = h.0 in
    let one : c ∷ [] ≡ decimal n = (let glyph : 48 + n ≡ c = omega (arith, value, first) in sym (decimal_digit n (omega (arith, low)) ∙ ap (λ g. g ∷ []) glyph)) in
    (digits_behind n (c ∷ []) cs h.1 (omega (arith, value, first)) one small, omega (arith, value, first, within))

-- ---- the first digit

record HasFirstDigit (ds : Text) : Type 0 where
  low : 49 ≤ get_or ds 0 0
  high : get_or ds 0 0 ≤ 57

first_stays : (ds ends : Text) → HasFirstDigit ds → HasFirstDigit (ds ++ ends)
first_stays [] ends h = absurd (let low = h.low in omega (arith, low))
first_stays (c ∷ cs) ends h = record { low = h.low; high = h.high }

first_digit : (n : ℕ) → 0 < n → n < 10 ^ 64 → HasFirstDigit (decimal n)
first_digit n some small =
    decimal_by_steps_wide (λ m ds. 0 < m → HasFirstDigit ds)
    (λ m one pos. record { low = omega (arith, pos); high = omega (arith, one) })
    (λ m ds ten h pos. first_stays ds ((48 + m % 10) ∷ []) (h (omega (arith, ten)))) n small some

-- ---- what is parsed

abbrev pub IsAmountText : Text → Option ℕ → Type 0
IsAmountText digits r = MatchOption r ((n : ℕ) → is_amount n ≡ true → digits ≢ decimal n) (λ n. (is_amount n ≡ true) × (digits ≡ decimal n))

-- which amount the digits are of
pub amount_by : (digits : Text) (r : Option ℕ) → IsAmountText digits r → r ≡ amount_of_digits digits
unfolding amount_of_digits
amount_by digits (Some n) h =
    let number : number_of digits ≡ n = ap number_of h.1 ∙ number_read n h.0 in
    let test : (is_amount n && same_text (decimal n) digits) ≡ true = and_from _ _ h.0 (ap (λ t. same_text (decimal n) t) h.1 ∙ same_text_itself (decimal n)) in
    sym (ap (λ m. only_if (is_amount m && same_text (decimal m) digits) m) number ∙ ap (λ b. only_if b n) test)
amount_by digits None h = go (is_amount (number_of digits) && same_text (decimal (number_of digits)) digits) refl
  where
    go : (b : Bool) → (is_amount (number_of digits) && same_text (decimal (number_of digits)) digits) ≡ b → None ≡ only_if b (number_of digits)
    go true is =
        let parts = and_parts (is_amount (number_of digits)) _ is in
        absurd (h (number_of digits) parts.0 (sym (text_same (decimal (number_of digits)) digits parts.1)))
    go false is = refl

pub amount_is : (digits : Text) (n : ℕ) → amount_of_digits digits ≡ Some n → digits ≡ decimal n
unfolding amount_of_digits
amount_is digits n e =
    let found = only_if_is (is_amount (number_of digits) && same_text (decimal (number_of digits)) digits) (number_of digits) n e in
    let parts = and_parts (is_amount (number_of digits)) _ found.0 in
    sym (text_same (decimal (number_of digits)) digits parts.1) ∙ ap decimal found.1

pub amount_self : (n : ℕ) → is_amount n ≡ true → amount_of_digits (decimal n) ≡ Some n
amount_self n good = sym (amount_by (decimal n) (Some n) (good, refl))

range_of : (n : ℕ) → is_amount n ≡ true → (1 ≤ n) × (n < 2 ^ 128)
range_of n good =
    let parts = and_parts (nat_le 1 n) (nat_lt n (2 ^ 128)) good in
    (leb-true 1 n parts.0, ltb-true n (2 ^ 128) parts.1)

-- another first byte begins no amount
pub no_first_digit : (digits : Text) → (nat_le 49 (get_or digits 0 0) && nat_le (get_or digits 0 0) 57) ≡ false → None ≡ amount_of_digits digits
no_first_digit digits fails = amount_by digits None (λ n good is.
    let range = range_of n good in
    let small = range.1 in
    let first = first_digit n range.0 (omega (arith, small)) in
    let low : 49 ≤ get_or digits 0 0 = subst (λ (t : Text). 49 ≤ get_or t 0 0) (sym is) first.low in
    let high : get_or digits 0 0 ≤ 57 = subst (λ (t : Text). get_or t 0 0 ≤ 57) (sym is) first.high in
    grind (arith, nat_tests))

-- nor do bytes that are no text
pub no_text : (digits : Text) → (IsUtf8 digits → ⊥) → None ≡ amount_of_digits digits
no_text digits h = amount_by digits None (λ n good is.
    let small = (range_of n good).1 in
    h (subst IsUtf8 (sym is) (IsUtf8-from_ascii (decimal n) (IsAscii-decimal_wide n (omega (arith, small))))))

-- what is parsed of any other text
pub amount_parsed : {E : Type 0} (digits text : Text) (r : Result ℕ E) → text ≡ digits → (nat_le 49 (get_or digits 0 0) && nat_le (get_or digits 0 0) 57) ≡ true
    → ParsesUnsigned 128 10 text r → result_ok r ≡ amount_of_digits digits
amount_parsed {E} digits text (Ok n) same first h =
    let parts = and_parts (nat_le 49 (get_or digits 0 0)) _ first in
    let low : 49 ≤ get_or text 0 0 = subst (λ (t : Text). 49 ≤ get_or t 0 0) (sym same) (leb-true 49 (get_or digits 0 0) parts.0) in
    let p = parse_plain numerals {E = E} 128 text (Ok n) h (λ plus. omega (arith, low, plus)) in
    let bound = p.0.2 in
    let written = written_digits text p.0.0 low (omega (arith, bound)) in
    let some = written.1 in
    let value = p.1 in
    let good : is_amount n ≡ true = and_from _ _ (le-leb 1 n (omega (arith, some, value))) (lt-ltb n (2 ^ 128) (omega (arith, bound, value))) in
    amount_by digits (Some n) (good, sym same ∙ written.0 ∙ sym (ap decimal value))
amount_parsed digits text (Err e) same first h =
    amount_by digits None (λ n good is.
    let range = range_of n good in
    let read = parse-decimal_wide 128 n text (Err e) range.1 (amount_small n good) (same ∙ is) h in absurd (cc read))
