-- The text of an inner node and its padding, as they are put together.
use Rattle.std.proofs.Common.{◌≡◌, ℕ, ◌+◌, List, [], ◌∷◌, ◌++◌, length, take, drop, replicate, arith, sym, ap, ap₂, ◌∙◌, length-append}
use Rattle.std.proofs.lemmas.List.{take-append-drop}
use Rattle.std.proofs.lemmas.Slice.{take-put_mid, drop-put_mid}
use Rattle.sha2.specs.Sha256.{padded_message, padding}
use Rattle.ibc_merkle.specs.Hash.{inner_text}
use borrow.Rule.Slice.PartMut.{put_mid}

-- what stands behind the digests
abbrev tail : List ℕ
tail = 0x80 ∷ replicate 60 0 ++ 2 ∷ 8 ∷ []

abbrev pub frame : List ℕ
frame = 1 ∷ replicate 64 0 ++ tail

length-inner : (left right : List ℕ) → length left ≡ 32 → length right ≡ 32 → length (inner_text left right) ≡ 65
length-inner left right ll lr = omega (arith, length-append left right)

pub framed : (left right l r : List ℕ) → length left ≡ 32 → length right ≡ 32 → l ≡ left → r ≡ right
    → put_mid 33 32 (put_mid 1 32 frame l) r ≡ padded_message (inner_text left right)
framed left right l r ll lr el er =
    let first = put_mid 1 32 frame left in
    let both = put_mid 33 32 first right in
    let front : take 33 first ≡ 1 ∷ left = take-put_mid 1 32 frame left 33 (omega arith) (omega arith) in
    let behind : drop 33 first ≡ drop 33 frame = drop-put_mid 1 32 frame left 33 (omega arith) (omega arith) ll in
    let parts : first ≡ (1 ∷ left) ++ drop 33 frame = sym (take-append-drop 33 first) ∙ ap₂ ◌++◌ front behind in
    let room : length first ≡ 128 = ap length parts ∙ omega (arith, length-append (1 ∷ left) (drop 33 frame)) in
    let text : take 65 both ≡ inner_text left right =
    take-put_mid 33 32 first right 65 (omega arith) (omega arith) ∙ ap (λ front. front ++ right) front in
    let rest : drop 65 both ≡ tail =
    drop-put_mid 33 32 first right 65 (omega arith) (omega arith) lr
    ∙ drop-put_mid 1 32 frame left 65 (omega arith) (omega arith) ll in
    let padded : padded_message (inner_text left right) ≡ inner_text left right ++ tail =
    ap (λ n. inner_text left right ++ padding n) (length-inner left right ll lr) in
    ap₂ (λ l r. put_mid 33 32 (put_mid 1 32 frame l) r) el er
    ∙ sym (take-append-drop 65 both) ∙ ap₂ ◌++◌ text rest ∙ sym padded

pub length-padded : (left right : List ℕ) → length left ≡ 32 → length right ≡ 32 → length (padded_message (inner_text left right)) ≡ 128
length-padded left right ll lr =
    let long = length-inner left right ll lr in
    length-append (inner_text left right) (padding (length (inner_text left right)))
    ∙ ap₂ ◌+◌ long (ap (λ n. length (padding n)) long)
