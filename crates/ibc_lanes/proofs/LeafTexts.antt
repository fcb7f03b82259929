-- The text of a leaf with a short key, as it is put together.
use Rattle.std.proofs.Common.{◌≡◌, ℕ, ◌+◌, ◌<◌, List, [], ◌∷◌, ◌++◌, length, take, drop, replicate, slice_set, refl, sym, ap, ap₂, ◌∙◌, arith, length-append, length-drop}
use Rattle.std.proofs.lemmas.List.{append_assoc, length-set, take-append-drop, take_more_set}
use Rattle.std.proofs.lemmas.Slice.{take-put_mid, drop-put_mid}
use Rattle.ibc_merkle.proofs.Varints.{varint-last}
use Rattle.ibc_lanes.specs.Leaves.{text_of_leaf}
use borrow.Rule.Slice.PartMut.{put_mid}

pub leaf_made : (key value k v : List ℕ) (n w : ℕ) → length key < 128 → length value ≡ 32 → k ≡ key → v ≡ value → n ≡ length key
    → take (length key + 35) (put_mid (length key + 2 + 1) w (slice_set (put_mid 2 n (0 ∷ length key ∷ replicate 190 0) k) (length key + 2) 0x20) v)
    ≡ text_of_leaf key value
leaf_made key value k v n w short long ek ev en =
    let start : List ℕ = 0 ∷ length key ∷ replicate 190 0 in
    let keyed : List ℕ = put_mid 2 (length key) start key in
    let marked : List ℕ = slice_set keyed (length key + 2) 0x20 in
    let front : take (length key + 2) keyed ≡ 0 ∷ length key ∷ key = take-put_mid 2 (length key) start key (length key + 2) (omega arith) (omega arith) in
    let rest : drop (length key + 2) keyed ≡ drop (length key + 2) start =
    drop-put_mid 2 (length key) start key (length key + 2) (omega arith) (omega arith) refl in
    let parts : keyed ≡ (0 ∷ length key ∷ key) ++ drop (length key + 2) start =
    sym (take-append-drop (length key + 2) keyed) ∙ ap₂ ◌++◌ front rest in
    let room : length keyed ≡ 192 =
    ap length parts ∙ length-append (0 ∷ length key ∷ key) (drop (length key + 2) start) ∙ omega (arith, length-drop (length key + 2) start) in
    let same : length marked ≡ 192 = length-set keyed (length key + 2) 0x20 ∙ room in
    let text : take (length key + 2 + 1) marked ≡ (0 ∷ length key ∷ key) ++ 0x20 ∷ [] =
    take_more_set keyed (length key + 2) 0x20 (omega arith) ∙ ap (λ (l : List ℕ). l ++ 0x20 ∷ []) front in
    (λ i. take (length key + 35) (put_mid (length key + 2 + 1) w (slice_set (put_mid 2 (en i) start (ek i)) (length key + 2) 0x20) (ev i)))
    ∙ take-put_mid (length key + 2 + 1) w marked value (length key + 35) (omega arith) (omega arith)
    ∙ ap (λ (l : List ℕ). l ++ value) text
    ∙ append_assoc (0 ∷ length key ∷ key) (0x20 ∷ []) value
    ∙ ap (λ (l : List ℕ). 0 ∷ l ++ key ++ 0x20 ∷ value) (sym (varint-last (length key) short))
