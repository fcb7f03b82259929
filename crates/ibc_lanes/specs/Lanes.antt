-- Four texts side by side: a word of each stands in a vector, with a lane for each text.
use Rattle.std.specs.Prelude.{◌≡◌, ℕ, ◌<◌, List, [], ◌∷◌, map, take, drop, slice_index, slice_index_or}
use Rattle.sha2.specs.Sha256.{digest_bytes, first_words}

-- the word in lane j of vector k
abbrev pub lane_at : List (List ℕ) → ℕ → ℕ → ℕ
lane_at vectors k j = slice_index (slice_index_or vectors k []) j

-- the eight words of a hash value in lane j
abbrev pub lane : ℕ → List (List ℕ) → List ℕ
lane j vectors =
    lane_at vectors 0 j ∷ lane_at vectors 1 j ∷ lane_at vectors 2 j ∷ lane_at vectors 3 j
    ∷ lane_at vectors 4 j ∷ lane_at vectors 5 j ∷ lane_at vectors 6 j ∷ lane_at vectors 7 j ∷ []

-- the words in lane j
abbrev pub lane_words : ℕ → List (List ℕ) → List ℕ
lane_words j vectors = map (λ vector. slice_index vector j) vectors

-- in each lane a function of three words gives the fourth
abbrev pub ActsInEachLane : (ℕ → ℕ → ℕ → ℕ) → List ℕ → List ℕ → List ℕ → List ℕ → Type 0
ActsInEachLane f x y z result = (j : ℕ) → j < 4 → slice_index result j ≡ f (slice_index x j) (slice_index y j) (slice_index z j)

-- the digests that the four lanes hold
abbrev pub lane_digests : List (List ℕ) → List (List ℕ)
lane_digests state =
    digest_bytes (lane 0 state) 8 ∷ digest_bytes (lane 1 state) 8 ∷ digest_bytes (lane 2 state) 8 ∷ digest_bytes (lane 3 state) 8 ∷ []

-- each lane has the words of its text's block from a place on
abbrev pub HasBlockWords : List (List ℕ) → ℕ → List (List ℕ) → Type 0
HasBlockWords texts start words =
    (j : ℕ) → j < 4 → lane_words j words ≡ first_words (take 64 (drop start (slice_index_or texts j []))) 16
