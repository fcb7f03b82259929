-- How far each lane is in the rounds of its own block (FIPS 180-4, section 6.2.2).
use Rattle.std.specs.Prelude.{◌≡◌, ℕ, ◌<◌, List, slice_index}
use Rattle.sha2.specs.Sha256.{IsRoundsAt, IsWindow, compress, first_words, rounds, schedule, window_word}
use Rattle.ibc_lanes.specs.Lanes.{lane, lane_words}

-- from t rounds to u ones, where the window has the first 16 words
abbrev pub GoesOn : List (List ℕ) → List (List ℕ) → ℕ → List (List ℕ) → ℕ → Type 0
GoesOn window v t next u = (j : ℕ) (b h : List ℕ) → j < 4 → IsWindow (lane_words j window) (schedule b 48) 16
    → lane j v ≡ rounds h (schedule b 48) t → lane j next ≡ rounds h (schedule b 48) u

-- from t rounds to u ones, with which the window moves on
abbrev pub MovesOn : List (List ℕ) → List (List ℕ) → ℕ → List (List ℕ) → List (List ℕ) → ℕ → Type 0
MovesOn window v t moved next u = (j : ℕ) (b h : List ℕ) → j < 4 → IsRoundsAt b h (lane_words j window) (lane j v) t
    → IsRoundsAt b h (lane_words j moved) (lane j next) u

-- each lane's word is the next one of its window
abbrev pub AreNextWords : List (List ℕ) → ℕ → List ℕ → Type 0
AreNextWords window place words = (j : ℕ) → j < 4 → slice_index words j ≡ window_word (lane_words j window) place

-- each lane goes on from its hash value with its block
abbrev pub CompressesEach : List (List ℕ) → List (List ℕ) → List (List ℕ) → Type 0
CompressesEach state words next = (j : ℕ) (b : List ℕ) → j < 4 → lane_words j words ≡ first_words b 16
    → lane j next ≡ compress (lane j state) b
