-- The blocks of a text with its padding: whole ones of the text, and those of its end.
use Rattle.std.proofs.Common.{◌≡◌, ℕ, suc, ◌+◌, ◌-◌, ◌*◌, ◌/◌, ◌%◌, ◌^◌, ◌<◌, ◌≤◌, List, ◌∷◌, ◌++◌, length, take, drop, replicate, slice_set, refl, sym, ap, ap₂, ◌∙◌, arith, length-append, length-drop}
use Rattle.std.proofs.Math.Seq.{take-append-add}
use Rattle.std.proofs.lemmas.List.{append_assoc, drop-append-le, drop-drop, drop-replicate, drop-take, length-replicate, set-append_right, take-append-drop, take-append-le, take-replicate, take-take}
use Rattle.std.proofs.lemmas.Slice.{take-put_mid, drop-put_mid}
use Rattle.std.specs.Int.{w64, to_be_bytes}
use Rattle.sha2.proofs.Absorbing256.{hash_after_next}
use Rattle.sha2.specs.Sha256.{compress, hash_after, initial_hash_256, padded_message, padding}
use Rattle.ibc_lanes.specs.Texts.{IsEnd, block_at, block_count}
use borrow.Rule.Slice.PartMut.{put_mid}

-- how many zeros the padding has
abbrev zeros : ℕ → ℕ
zeros n = (119 - n % 64) % 64

length_padding : (n : ℕ) → length (padding n) ≡ zeros n + 9
length_padding n =
    let long = length-append (replicate (zeros n) 0) (to_be_bytes w64 (n * 8 % 2 ^ 64)) in
    omega (arith, long, length-replicate {A = ℕ} (zeros n) 0)

pub length_padded : (text : List ℕ) → length (padded_message text) ≡ 64 * block_count text
length_padded text = omega (arith, length-append text (padding (length text)), length_padding (length text))

pub count_blocks : (text : List ℕ) → length (padded_message text) / 64 ≡ block_count text
count_blocks text = omega (arith, length_padded text)

-- the padding, as it is put together behind what is left of a text
module _ (text : List ℕ) where
  abbrev used : ℕ
  used = length text % 64

  abbrev size : ℕ
  size = 64 * ((used + 72) / 64)

  abbrev rest : List ℕ
  rest = drop (length text - used) text

  length_rest : length rest ≡ used
  length_rest = omega (arith, length-drop (length text - used) text)

  copied : (room tail : List ℕ) → room ≡ replicate 128 0 → tail ≡ rest → put_mid 0 used room tail ≡ rest ++ replicate (128 - used) 0
  copied room tail er et =
      let whole : List ℕ = put_mid 0 used (replicate 128 0) rest in
      ap₂ (λ (x y : List ℕ). put_mid 0 used x y) er et
      ∙ sym (take-append-drop used whole)
      ∙ ap₂ ◌++◌ (take-put_mid 0 used (replicate 128 0) rest used (omega (arith, length_rest)) (omega arith))
      (drop-put_mid 0 used (replicate 128 0) rest used (omega arith) (omega arith) length_rest ∙ drop-replicate used 128 0)

  marked : slice_set (rest ++ replicate (128 - used) 0) used 0x80 ≡ rest ++ 0x80 ∷ replicate (127 - used) 0
  marked =
      let none : used - used ≡ 0 = omega arith in
      let some : 128 - used ≡ suc (127 - used) = omega arith in
      set-append_right rest (replicate (128 - used) 0) used used 0x80 length_rest (omega arith) ∙ rw (none, some) refl

  front : take (size - 8) (rest ++ 0x80 ∷ replicate (127 - used) 0) ≡ rest ++ 0x80 ∷ replicate (zeros (length text)) 0
  front =
      let count : size - 8 ≡ length rest + suc (zeros (length text)) = omega (arith, length_rest) in
      let fits : zeros (length text) ≤ 127 - used = omega arith in
      ap (λ (n : ℕ). take n (rest ++ 0x80 ∷ replicate (127 - used) 0)) count
      ∙ take-append-add rest (0x80 ∷ replicate (127 - used) 0) (suc (zeros (length text)))
      ∙ ap (λ (l : List ℕ). rest ++ 0x80 ∷ l) (take-replicate (zeros (length text)) (127 - used) 0 fits)

  pub ended : (room tail bytes : List ℕ) (k : ℕ) → room ≡ replicate 128 0 → tail ≡ rest → bytes ≡ to_be_bytes w64 (length text * 8 % 2 ^ 64)
      → IsEnd text (put_mid (size - 8) k (slice_set (put_mid 0 used room tail) used 0x80) bytes)
  ended room tail bytes k er et eb =
      let text_part : List ℕ = rest ++ 0x80 ∷ replicate (127 - used) 0 in
      let made : slice_set (put_mid 0 used room tail) used 0x80 ≡ text_part = ap (λ (l : List ℕ). slice_set l used 0x80) (copied room tail er et) ∙ marked in
      let eight : length bytes ≡ 8 = ap length eb in
      let long : length text_part ≡ 128 =
      length-append rest (0x80 ∷ replicate (127 - used) 0) ∙ omega (arith, length_rest, length-replicate {A = ℕ} (127 - used) 0) in
      let start : 64 * (length text / 64) ≡ length text - used = omega arith in
      ap (λ (l : List ℕ). take size (put_mid (size - 8) k l bytes)) made
      ∙ take-put_mid (size - 8) k text_part bytes size (omega arith) (omega arith)
      ∙ ap₂ ◌++◌ front eb
      ∙ append_assoc rest (0x80 ∷ replicate (zeros (length text)) 0) (to_be_bytes w64 (length text * 8 % 2 ^ 64))
      ∙ sym (ap (λ (n : ℕ). drop n (padded_message text)) start ∙ drop-append-le (length text - used) text (padding (length text)) (omega arith))

-- a whole block of the text
pub block_before : (text : List ℕ) (index width : ℕ) → index < length text / 64 → width ≡ 64
    → take width (drop (64 * index) text) ≡ block_at text index
block_before text index width lt e =
    let at : 64 * index ≡ index * 64 = omega arith in
    let room : 64 ≤ length (drop (index * 64) text) = omega (arith, length-drop (index * 64) text) in
    ap₂ (λ (w n : ℕ). take w (drop n text)) e at
    ∙ sym (ap (take 64) (drop-append-le (index * 64) text (padding (length text)) (omega arith))
    ∙ take-append-le 64 (drop (index * 64) text) (padding (length text)) room)

-- a block of the end
pub block_within : (text end : List ℕ) (index width : ℕ) → length text / 64 ≤ index → index < block_count text → width ≡ 64 → IsEnd text end
    → take width (drop (64 * (index - length text / 64)) end) ≡ block_at text index
block_within text end index width le lt e held =
    let p : List ℕ = padded_message text in
    let w : ℕ = 64 * (length text / 64) in
    let at : ℕ = 64 * (index - length text / 64) in
    let place : w + at ≡ index * 64 = omega arith in
    let within : at + 64 ≤ 64 * ((length text % 64 + 72) / 64) = omega arith in
    ap (λ (n : ℕ). take n (drop at end)) e
    ∙ sym (drop-take at 64 end)
    ∙ ap (drop at) (sym (take-take (at + 64) (64 * ((length text % 64 + 72) / 64)) end within) ∙ ap (take (at + 64)) held)
    ∙ drop-take at 64 (drop w p)
    ∙ ap (take 64) (drop-drop at w p)
    ∙ ap (λ (n : ℕ). take 64 (drop n p)) place

-- the hash value after one more block
pub hashed_next : (text before after : List ℕ) (i : ℕ) → before ≡ hash_after initial_hash_256 (padded_message text) i
    → after ≡ compress before (block_at text i) → after ≡ hash_after initial_hash_256 (padded_message text) (i + 1)
hashed_next text before after i held next =
    next ∙ ap (λ (h : List ℕ). compress h (block_at text i)) held ∙ sym (hash_after_next initial_hash_256 (padded_message text) i)
