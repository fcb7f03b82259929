-- The identifiers that a chain gives have their form.
use Rattle.std.proofs.Common.{◌≡◌, ℕ, ◌<◌, ◌≤◌, ◌^◌, ◌+◌, ◌%◌, true, ◌&&◌, nat_le, codes, [], ◌∷◌, ◌++◌, length, refl, ◌∙◌, arith, le-leb, length-append}
use Rattle.std.specs.List.{list_all}
use Rattle.std.specs.Fmt.{decimal}
use Rattle.std.specs.Prelude.{IsTrue}
use Rattle.std.proofs.lemmas.Bool.{and_from}
use Rattle.std.proofs.lemmas.Fmt.{decimal_by_steps, length-decimal-le, decimal_nonempty}
use Rattle.std.proofs.lemmas.List.Folds.{list_all-append}
use Rattle.std.proofs.lemmas.Bool.Decides.{nat_tests}
use Rattle.ibc_ids.specs.Texts.{Text}
use Rattle.ibc_ids.specs.Names.{is_identifier_byte, is_made_of, is_client, is_connection, is_channel}
use Rattle.ibc_ids.specs.Paths.{nth_client, nth_connection, nth_channel}

a_digit : (n : ℕ) → n < 10 → is_identifier_byte (48 + n) ≡ true
a_digit n h = grind (arith, nat_tests)

pub digits : (n : ℕ) → n < 2 ^ 64 → list_all is_identifier_byte (decimal n) ≡ true
digits = decimal_by_steps (λ n ds. list_all is_identifier_byte ds ≡ true)
    (λ n h. and_from (is_identifier_byte (48 + n)) true (a_digit n h) refl)
    (λ n ds h so_far. list_all-append is_identifier_byte ds ((48 + n % 10) ∷ []) ∙ and_from (list_all is_identifier_byte ds) (list_all is_identifier_byte ((48 + n % 10) ∷ [])) so_far (and_from (is_identifier_byte (48 + n % 10)) true (a_digit (n % 10) (omega arith)) refl))

numbered : (low : ℕ) (front : Text) (n : ℕ) → n < 2 ^ 64 → list_all is_identifier_byte front ≡ true → low ≤ length front + 1 → length front ≤ 40 → is_made_of is_identifier_byte low 64 (front ++ decimal n) ≡ true
numbered low front n fits plain least short =
    let some = decimal_nonempty n fits in
    let few = length-decimal-le 20 n (omega arith) (omega arith) fits in
    let long : length (front ++ decimal n) ≡ length front + length (decimal n) = length-append front (decimal n) in
    and_from (nat_le low (length (front ++ decimal n)) && nat_le (length (front ++ decimal n)) 64) (list_all is_identifier_byte (front ++ decimal n))
    (and_from (nat_le low (length (front ++ decimal n))) (nat_le (length (front ++ decimal n)) 64) (le-leb low (length (front ++ decimal n)) (omega arith)) (le-leb (length (front ++ decimal n)) 64 (omega arith)))
    (list_all-append is_identifier_byte front (decimal n) ∙ and_from (list_all is_identifier_byte front) (list_all is_identifier_byte (decimal n)) plain (digits n fits))

pub nth_client_is_one : (n : ℕ) → n < 2 ^ 64 → IsTrue (is_client (nth_client n))
nth_client_is_one n fits = numbered 9 (codes "inprocess-") n fits refl (omega arith) (omega arith)

pub nth_connection_is_one : (n : ℕ) → n < 2 ^ 64 → IsTrue (is_connection (nth_connection n))
nth_connection_is_one n fits = numbered 10 (codes "connection-") n fits refl (omega arith) (omega arith)

pub nth_channel_is_one : (n : ℕ) → n < 2 ^ 64 → IsTrue (is_channel (nth_channel n))
nth_channel_is_one n fits = numbered 8 (codes "channel-") n fits refl (omega arith) (omega arith)
