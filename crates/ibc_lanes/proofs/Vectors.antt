-- Vectors of four lanes, lane by lane.
use Rattle.std.proofs.Common.{◌≡◌, ℕ, zero, suc, ◌<◌, ◌-◌, ◌*◌, ◌/◌, ◌%◌, ◌^◌, List, [], ◌∷◌, length, map, slice_index, bit_or, Fits, arith, refl, ap, ◌∙◌}
use Rattle.std.proofs.Math.ListN.{get_or-map}
use Rattle.std.proofs.lemmas.List.{get_or-map as mapped_element}
use Rattle.std.proofs.lemmas.Simd.{Each1-get_or, get_or-replicate, get_or-zip2, length-zip2}
use Rattle.std.specs.Int.{w32, rotate_right}
use Rattle.std.specs.Simd.Lanes.{Each1, zip2}
use Rattle.ibc_lanes.specs.Lanes.{lane, lane_at, lane_words}

-- what holds of each of four numbers
pub below_four : (P : ℕ → Type 0) → P 0 → P 1 → P 2 → P 3 → (j : ℕ) → j < 4 → P j
below_four P p0 p1 p2 p3 zero h = p0
below_four P p0 p1 p2 p3 (suc zero) h = p1
below_four P p0 p1 p2 p3 (suc (suc zero)) h = p2
below_four P p0 p1 p2 p3 (suc (suc (suc zero))) h = p3
below_four P p0 p1 p2 p3 (suc (suc (suc (suc n)))) h = absurd (omega arith)

-- what holds of each list of four
pub four_elements : {X : Type 0} (P : List X → Type 0) → ((a b c d : X) → P (a ∷ b ∷ c ∷ d ∷ [])) → (xs : List X) → length xs ≡ 4 → P xs
four_elements P p (a ∷ b ∷ c ∷ d ∷ []) h = p a b c d
four_elements P p [] h = absurd (omega arith)
four_elements P p (a ∷ []) h = absurd (omega arith)
four_elements P p (a ∷ b ∷ []) h = absurd (omega arith)
four_elements P p (a ∷ b ∷ c ∷ []) h = absurd (omega arith)
four_elements P p (a ∷ b ∷ c ∷ d ∷ e ∷ xs) h = absurd (omega arith)

-- a lane is a word
pub lane_fits : (xs : List ℕ) → (length xs ≡ 4) × Each1 (Fits w32) xs → (j : ℕ) → j < 4 → slice_index xs j < 2 ^ 32
lane_fits xs held j lt = (Each1-get_or (Fits w32) xs j 0 (omega (arith, held.0)) held.1).fits

-- a lane of an operation on two vectors
pub zipped : (f : ℕ → ℕ → ℕ) (xs ys : List ℕ) → length xs ≡ 4 → length ys ≡ 4 → (j : ℕ) → j < 4
    → slice_index (zip2 f xs ys) j ≡ f (slice_index xs j) (slice_index ys j)
zipped f xs ys lx ly j lt = get_or-zip2 f xs ys j 0 0 0 (omega arith) (omega arith)

pub length-zipped : (f : ℕ → ℕ → ℕ) (xs ys : List ℕ) → length xs ≡ 4 → length ys ≡ 4 → length (zip2 f xs ys) ≡ 4
length-zipped f xs ys lx ly = length-zip2 f xs ys (omega arith) ∙ lx

-- a lane of an operation on a vector and one number
pub zipped_with : (f : ℕ → ℕ → ℕ) (xs : List ℕ) (n : ℕ) → length xs ≡ 4 → (j : ℕ) → j < 4
    → slice_index (zip2 f xs (n ∷ n ∷ n ∷ n ∷ [])) j ≡ f (slice_index xs j) n
zipped_with f xs n lx j lt =
    zipped f xs (n ∷ n ∷ n ∷ n ∷ []) lx refl j lt ∙ ap (f (slice_index xs j)) (get_or-replicate 4 j n 0 lt)

-- a lane of an operation on one vector
pub mapped : (f : ℕ → ℕ) (xs : List ℕ) → length xs ≡ 4 → (j : ℕ) → j < 4 → slice_index (map f xs) j ≡ f (slice_index xs j)
mapped f xs lx j lt = mapped_element f xs j 0 0 (omega arith)

-- two shifts of each lane and an or are a rotation
abbrev Rotates : ℕ → List ℕ → Type 0
Rotates k xs = (j : ℕ) → j < 4
    → slice_index (zip2 bit_or
    (zip2 (λ x n. x / 2 ^ n) xs (k ∷ k ∷ k ∷ k ∷ []))
    (zip2 (λ x n. x * 2 ^ n % 2 ^ 32) xs ((32 - k) ∷ (32 - k) ∷ (32 - k) ∷ (32 - k) ∷ []))) j
    ≡ rotate_right w32 (slice_index xs j) k

pub shifts_rotate : (k : ℕ) → 0 < k → k < 32 → (xs : List ℕ) → length xs ≡ 4 → Rotates k xs
shifts_rotate k low high =
    let right : k % 32 ≡ k = omega arith in
    let left : (32 - k) % 32 ≡ 32 - k = omega arith in
    four_elements (Rotates k) (λ a b c d.
    below_four _ (rw (right, left) refl) (rw (right, left) refl) (rw (right, left) refl) (rw (right, left) refl))

-- the word in lane j of vector k
pub lane_word : (vectors : List (List ℕ)) (j k : ℕ) → slice_index (lane_words j vectors) k ≡ lane_at vectors k j
lane_word vectors j k = get_or-map (λ vector. slice_index vector j) vectors k []

-- what holds of each of eight numbers
below_eight : (P : ℕ → Type 0) → P 0 → P 1 → P 2 → P 3 → P 4 → P 5 → P 6 → P 7 → (k : ℕ) → k < 8 → P k
below_eight P p0 p1 p2 p3 p4 p5 p6 p7 zero h = p0
below_eight P p0 p1 p2 p3 p4 p5 p6 p7 (suc zero) h = p1
below_eight P p0 p1 p2 p3 p4 p5 p6 p7 (suc (suc zero)) h = p2
below_eight P p0 p1 p2 p3 p4 p5 p6 p7 (suc (suc (suc zero))) h = p3
below_eight P p0 p1 p2 p3 p4 p5 p6 p7 (suc (suc (suc (suc k)))) h =
    below_four (λ n. P (suc (suc (suc (suc n))))) p4 p5 p6 p7 k (omega arith)

-- word k of the hash value in lane j
pub slice_index-lane : (vectors : List (List ℕ)) (j k : ℕ) → k < 8 → slice_index (lane j vectors) k ≡ lane_at vectors k j
slice_index-lane vectors j = below_eight _ refl refl refl refl refl refl refl refl
