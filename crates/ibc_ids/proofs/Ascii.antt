-- Names are short texts of ASCII bytes.
use Rattle.std.proofs.Common.{◌≡◌, ℕ, ◌<◌, ◌≤◌, Bool, true, false, ◌&&◌, nat_le, List, [], ◌∷◌, ◌++◌, length, subst, arith, leb-true}
use Rattle.std.specs.List.{list_all, slice_split, join_with_byte}
use Rattle.std.specs.Str.{IsAscii}
use Rattle.std.proofs.lemmas.Bool.{and_parts, false≢true}
use Rattle.std.proofs.lemmas.Bool.Decides.{nat_tests}
use Rattle.std.proofs.lemmas.Str.Ascii.{IsAscii-nil, IsAscii-cons}
use Rattle.std.proofs.lemmas.Str.{IsAscii-append}
use Rattle.std.proofs.lemmas.List.Splits.{join_with_byte-slice_split}
use Rattle.ibc_ids.specs.Texts.{Text}
use Rattle.ibc_ids.specs.Names.{is_letter_or_digit, is_identifier_byte, is_plain_byte, is_version_byte, is_made_of, is_port, is_client, is_connection, is_channel, is_user, is_receiver, is_memo, is_version, is_slash, are_hops_and_base, is_denom}

all_ascii : (test : ℕ → Bool) → ((c : ℕ) → test c ≡ true → c < 128) → (text : Text) → list_all test text ≡ true → IsAscii text
all_ascii test small [] h = IsAscii-nil
all_ascii test small (x ∷ xs) h =
    let parts = and_parts (test x) (list_all test xs) h in IsAscii-cons x xs (small x parts.0) (all_ascii test small xs parts.1)

made_of : (test : ℕ → Bool) (low high : ℕ) → ((c : ℕ) → test c ≡ true → c < 128) → high ≤ 256 → (text : Text) → is_made_of test low high text ≡ true → IsAscii text × (length text ≤ 256)
made_of test low high small few text h =
    let parts = and_parts (nat_le low (length text) && nat_le (length text) high) (list_all test text) h in
    let most = leb-true (length text) high (and_parts (nat_le low (length text)) (nat_le (length text) high) parts.0).1 in
    (all_ascii test small text parts.1, omega arith)

small_word : (c : ℕ) → is_letter_or_digit c ≡ true → c < 128
small_word c h = grind (arith, nat_tests)

small_identifier : (c : ℕ) → is_identifier_byte c ≡ true → c < 128
small_identifier c h = grind (arith, nat_tests)

small_plain : (c : ℕ) → is_plain_byte c ≡ true → c < 128
small_plain c h = grind (arith, nat_tests)

small_version : (c : ℕ) → is_version_byte c ≡ true → c < 128
small_version c h = grind (arith, nat_tests)

pub identifiers : (low high : ℕ) → high ≤ 256 → (text : Text) → is_made_of is_identifier_byte low high text ≡ true → IsAscii text × (length text ≤ 256)
identifiers low high few text h = made_of is_identifier_byte low high small_identifier few text h

pub words : (low high : ℕ) → high ≤ 256 → (text : Text) → is_made_of is_letter_or_digit low high text ≡ true → IsAscii text × (length text ≤ 256)
words low high few text h = made_of is_letter_or_digit low high small_word few text h

pub plain_texts : (low high : ℕ) → high ≤ 256 → (text : Text) → is_made_of is_plain_byte low high text ≡ true → IsAscii text × (length text ≤ 256)
plain_texts low high few text h = made_of is_plain_byte low high small_plain few text h

pub ports : (text : Text) → is_port text ≡ true → IsAscii text × (length text ≤ 256)
ports text h = identifiers 2 128 (omega arith) text h

pub clients : (text : Text) → is_client text ≡ true → IsAscii text × (length text ≤ 256)
clients text h = identifiers 9 64 (omega arith) text h

pub connections : (text : Text) → is_connection text ≡ true → IsAscii text × (length text ≤ 256)
connections text h = identifiers 10 64 (omega arith) text h

pub channels : (text : Text) → is_channel text ≡ true → IsAscii text × (length text ≤ 256)
channels text h = identifiers 8 64 (omega arith) text h

pub users : (text : Text) → is_user text ≡ true → IsAscii text × (length text ≤ 256)
users text h = words 1 32 (omega arith) text h

pub receivers : (text : Text) → is_receiver text ≡ true → IsAscii text × (length text ≤ 256)
receivers text h = plain_texts 1 64 (omega arith) text h

pub memos : (text : Text) → is_memo text ≡ true → IsAscii text × (length text ≤ 256)
memos text h = plain_texts 0 256 (omega arith) text h

pub versions : (text : Text) → is_version text ≡ true → IsAscii text × (length text ≤ 256)
versions text h = made_of is_version_byte 1 32 small_version (omega arith) text h

joined_ascii : (parts : List Text) → are_hops_and_base parts ≡ true → IsAscii (join_with_byte 47 parts)
joined_ascii [] h = absurd (false≢true h)
joined_ascii (base ∷ []) h = (words 1 64 (omega arith) base h).0
joined_ascii (port ∷ channel ∷ []) h = absurd (false≢true (and_parts (is_port port && is_channel channel) false h).1)
joined_ascii (port ∷ channel ∷ next ∷ rest) h =
    let parts = and_parts (is_port port && is_channel channel) (are_hops_and_base (next ∷ rest)) h in
    let names = and_parts (is_port port) (is_channel channel) parts.0 in
    let behind = IsAscii-cons 47 (join_with_byte 47 (next ∷ rest)) (omega arith) (joined_ascii (next ∷ rest) parts.1) in
    let from_channel = IsAscii-append channel (47 ∷ join_with_byte 47 (next ∷ rest)) (channels channel names.1).0 behind in
    IsAscii-append port (47 ∷ (channel ++ 47 ∷ join_with_byte 47 (next ∷ rest))) (ports port names.0).0
    (IsAscii-cons 47 (channel ++ 47 ∷ join_with_byte 47 (next ∷ rest)) (omega arith) from_channel)

pub denominations : (text : Text) → is_denom text ≡ true → IsAscii text × (length text ≤ 256)
denominations text h =
    let parts = and_parts (nat_le (length text) 256) (are_hops_and_base (slice_split is_slash text)) h in
    (subst IsAscii (join_with_byte-slice_split 47 text) (joined_ascii (slice_split is_slash text) parts.1), leb-true (length text) 256 parts.0)
