-- Texts of bytes, of bounded lengths.
use Rattle.std.proofs.Common.{◌≡◌, ℕ, zero, suc, ◌<◌, ◌≤◌, true, nat_lt, [], ◌∷◌, length, arith, ltb-true}
use Rattle.std.specs.Prelude.{slice_index}
use Rattle.std.specs.List.{list_all}
use Rattle.std.proofs.lemmas.Bool.{and_parts}
use Rattle.ibc_ids.specs.Texts.{Text}

-- a text is of bytes
abbrev pub AreBytes : Text → Type 0
AreBytes text = list_all (λ c. nat_lt c 256) text ≡ true

-- a text of bytes, no longer than this
pub record FitsText (limit : ℕ) (text : Text) : Type 0 where
  pub bytes : AreBytes text
  pub short : length text ≤ limit

-- a pair whose texts can be spelled in a proof
abbrev pub FitsPair : Text × Text → Type 0
FitsPair pair = FitsText 256 pair.0 × FitsText 512 pair.1

-- each byte of a text of bytes
pub each_byte : (text : Text) → AreBytes text → (i : ℕ) → i < length text → slice_index text i < 256
each_byte [] h i within = absurd (omega arith)
each_byte (c ∷ text) h zero within = ltb-true c 256 (and_parts (nat_lt c 256) (list_all (λ c. nat_lt c 256) text) h).0
each_byte (c ∷ text) h (suc i) within =
    each_byte text (and_parts (nat_lt c 256) (list_all (λ c. nat_lt c 256) text) h).1 i (omega arith)
