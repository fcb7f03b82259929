-- Names, numbers and what is spelled of them are texts of bytes, of bounded lengths.
use Rattle.std.proofs.Common.{◌≡◌, ℕ, ◌+◌, ◌≤◌, ◌<◌, ◌^◌, Bool, true, ◌&&◌, ◌||◌, nat_le, nat_lt, eqb, codes, List, [], ◌∷◌, ◌++◌, length, refl, ◌∙◌, arith, inl, inr, eqb-true, leb-true, le-leb, ltb-true, lt-ltb, length-append, ◌%◌}
use Rattle.std.specs.List.{list_all, list_any}
use Rattle.std.specs.Int.{w16, w64, to_be_bytes}
use Rattle.std.specs.Fmt.{decimal}
use Rattle.std.proofs.lemmas.Fmt.{decimal_by_steps, length-decimal-le, decimal_nonempty}
use Rattle.std.proofs.lemmas.List.Folds.{list_all-append}
use Rattle.std.proofs.lemmas.Bool.{and_parts, and_from, or_cases, or_left, false≢true}
use Rattle.ibc_ids.specs.Texts.{Text}
use Rattle.ibc_ids.specs.Names.{is_made_of, is_letter_or_digit, is_identifier_byte, is_client, is_connection, is_channel, is_version}
use Rattle.ibc_ids.specs.Paths.{nth_client, nth_connection, nth_channel}
use Rattle.ibc_wire.specs.Fields.{with_length}
use Rattle.ibc_refinement.proofs.ShortTexts.{AreBytes}
use Rattle.ibc_merkle.proofs.Depths.{bytes-be}
use Rattle.ibc_refinement.proofs.ShortTexts.{FitsText}

pub fits_both : (a b : ℕ) (x y : Text) → FitsText a x → FitsText b y → FitsText (a + b) (x ++ y)
fits_both a b x y h g = record {
  bytes = list_all-append (λ c. nat_lt c 256) x y ∙ and_from (list_all (λ c. nat_lt c 256) x) (list_all (λ c. nat_lt c 256) y) h.bytes g.bytes;
  short = omega (arith, length-append x y, h.short, g.short);
}

pub fits_within : (a b : ℕ) (x : Text) → a ≤ b → FitsText a x → FitsText b x
fits_within a b x le h = record { bytes = h.bytes; short = omega (arith, h.short) }

pub byte_fits : (n : ℕ) → n < 256 → FitsText 1 (n ∷ [])
byte_fits n h = record { bytes = and_from (nat_lt n 256) true (lt-ltb n 256 h) refl; short = omega arith }

pub number_fits : (n : ℕ) → FitsText 8 (to_be_bytes w64 n)
number_fits n = record { bytes = bytes-be 8 n; short = omega arith }

pub counted_fits : (a : ℕ) (x : Text) → FitsText a x → FitsText (2 + a) (with_length x)
counted_fits a x h = fits_both 2 a (to_be_bytes w16 (length x)) x (record { bytes = bytes-be 2 (length x); short = omega arith }) h

-- ---- names

all_bytes : (test : ℕ → Bool) → ((c : ℕ) → test c ≡ true → c < 256) → (text : Text) → list_all test text ≡ true → AreBytes text
all_bytes test low [] h = refl
all_bytes test low (c ∷ text) h =
    let parts = and_parts (test c) (list_all test text) h in
    and_from (nat_lt c 256) (list_all (λ c. nat_lt c 256) text) (lt-ltb c 256 (low c parts.0)) (all_bytes test low text parts.1)

letter_or_digit_low : (c : ℕ) → is_letter_or_digit c ≡ true → c < 256
letter_or_digit_low c h =
    elim (or_cases ((nat_le 48 c && nat_le c 57) || (nat_le 65 c && nat_le c 90)) (nat_le 97 c && nat_le c 122) h) [
      | inl w ↦ elim (or_cases (nat_le 48 c && nat_le c 57) (nat_le 65 c && nat_le c 90) w) [
        | inl v ↦ let p = leb-true c 57 (and_parts (nat_le 48 c) (nat_le c 57) v).1 in omega arith
        | inr v ↦ let p = leb-true c 90 (and_parts (nat_le 65 c) (nat_le c 90) v).1 in omega arith
      ]
      | inr w ↦ let p = leb-true c 122 (and_parts (nat_le 97 c) (nat_le c 122) w).1 in omega arith
    ]

one_of_low : (c : ℕ) (ds : List ℕ) → AreBytes ds → list_any (λ d. eqb c d) ds ≡ true → c < 256
one_of_low c [] low h = absurd (false≢true h)
one_of_low c (d ∷ ds) low h =
    let parts = and_parts (nat_lt d 256) (list_all (λ c. nat_lt c 256) ds) low in
    elim (or_cases (eqb c d) (list_any (λ d. eqb c d) ds) h) [
      | inl e ↦ let same = eqb-true c d e in let l = ltb-true d 256 parts.0 in omega arith
      | inr e ↦ one_of_low c ds parts.1 e
    ]

identifier_low : (c : ℕ) → is_identifier_byte c ≡ true → c < 256
identifier_low c h =
    elim (or_cases (is_letter_or_digit c) (list_any (λ d. eqb c d) (codes "._+-#[]<>")) h) [ inl w ↦ letter_or_digit_low c w | inr w ↦ one_of_low c (codes "._+-#[]<>") refl w ]

version_low : (c : ℕ) → (is_letter_or_digit c || eqb c 45 || eqb c 46) ≡ true → c < 256
version_low c h =
    elim (or_cases (is_letter_or_digit c || eqb c 45) (eqb c 46) h) [
      | inl w ↦ elim (or_cases (is_letter_or_digit c) (eqb c 45) w) [ inl v ↦ letter_or_digit_low c v | inr v ↦ let e = eqb-true c 45 v in omega arith ]
      | inr w ↦ let e = eqb-true c 46 w in omega arith
    ]

made_fits : (test : ℕ → Bool) (low high : ℕ) (text : Text) → ((c : ℕ) → test c ≡ true → c < 256) → is_made_of test low high text ≡ true → FitsText high text
made_fits test low high text bytes h =
    let parts = and_parts (nat_le low (length text) && nat_le (length text) high) (list_all test text) h in
    let lengths = and_parts (nat_le low (length text)) (nat_le (length text) high) parts.0 in
    record { bytes = all_bytes test bytes text parts.1; short = leb-true (length text) high lengths.1 }

pub name_fits : (low high : ℕ) (text : Text) → is_made_of is_identifier_byte low high text ≡ true → FitsText high text
name_fits low high text h = made_fits is_identifier_byte low high text identifier_low h

pub version_fits : (text : Text) → is_version text ≡ true → FitsText 32 text
version_fits text h = made_fits (λ c. is_letter_or_digit c || eqb c 45 || eqb c 46) 1 32 text version_low h

-- ---- the identifiers that a chain gives

digit_is : (d : ℕ) → d < 10 → is_identifier_byte (48 + d) ≡ true
digit_is d h =
    or_left (is_letter_or_digit (48 + d)) _
    (or_left ((nat_le 48 (48 + d) && nat_le (48 + d) 57) || (nat_le 65 (48 + d) && nat_le (48 + d) 90)) _
    (or_left (nat_le 48 (48 + d) && nat_le (48 + d) 57) _
    (and_from (nat_le 48 (48 + d)) (nat_le (48 + d) 57) (le-leb 48 (48 + d) (omega arith)) (le-leb (48 + d) 57 (omega arith)))))

decimal_is : (n : ℕ) → n < 2 ^ 64 → list_all is_identifier_byte (decimal n) ≡ true
decimal_is =
    decimal_by_steps (λ n ds. list_all is_identifier_byte ds ≡ true)
    (λ n h. and_from (is_identifier_byte (48 + n)) true (digit_is n h) refl)
    (λ n ds h all. list_all-append is_identifier_byte ds ((48 + n % 10) ∷ [])
    ∙ and_from (list_all is_identifier_byte ds) (is_identifier_byte (48 + n % 10) && true) all (and_from (is_identifier_byte (48 + n % 10)) true (digit_is (n % 10) (omega arith)) refl))

pub decimal_fits : (n : ℕ) → n < 2 ^ 64 → FitsText 20 (decimal n)
decimal_fits n h = record { bytes = all_bytes is_identifier_byte identifier_low (decimal n) (decimal_is n h); short = length-decimal-le 20 n (omega arith) (omega arith) h }

given_name : (front : Text) (low : ℕ) (n : ℕ) → list_all is_identifier_byte front ≡ true → low ≤ length front + 1 → length front ≤ 44 → n < 2 ^ 64
    → is_made_of is_identifier_byte low 64 (front ++ decimal n) ≡ true
given_name front low n all least most h =
    let some = decimal_nonempty n h in
    let few = length-decimal-le 20 n (omega arith) (omega arith) h in
    let whole = length-append front (decimal n) in
    and_from (nat_le low (length (front ++ decimal n)) && nat_le (length (front ++ decimal n)) 64) (list_all is_identifier_byte (front ++ decimal n))
    (and_from (nat_le low (length (front ++ decimal n))) (nat_le (length (front ++ decimal n)) 64)
    (le-leb low (length (front ++ decimal n)) (omega arith)) (le-leb (length (front ++ decimal n)) 64 (omega arith)))
    (list_all-append is_identifier_byte front (decimal n) ∙ and_from (list_all is_identifier_byte front) (list_all is_identifier_byte (decimal n)) all (decimal_is n h))

pub nth_client_is : (n : ℕ) → n < 2 ^ 64 → is_client (nth_client n) ≡ true
nth_client_is n h = given_name (codes "inprocess-") 9 n refl (omega arith) (omega arith) h

pub nth_connection_is : (n : ℕ) → n < 2 ^ 64 → is_connection (nth_connection n) ≡ true
nth_connection_is n h = given_name (codes "connection-") 10 n refl (omega arith) (omega arith) h

pub nth_channel_is : (n : ℕ) → n < 2 ^ 64 → is_channel (nth_channel n) ≡ true
nth_channel_is n h = given_name (codes "channel-") 8 n refl (omega arith) (omega arith) h
