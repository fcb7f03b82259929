-- The parts of an inner node's text.
use Rattle.std.proofs.Common.{◌≡◌, [], ◌∷◌, ◌++◌, length, take, drop, refl, sym, ap, ap₂, ◌∙◌, arith}
use Rattle.std.proofs.Math.Seq.{take-append_seam}
use Rattle.std.proofs.Math.ListN.{drop_of_length-le}
use Rattle.std.proofs.lemmas.List.{append-nil, length-append, length-drop}
use Rattle.std.specs.List.{slice_index}
use Rattle.ibc_ids.specs.Texts.{Text}
use borrow.Rule.Slice.PartMut.{put_mid, post_of}

pub empty : (xs : Text) → length xs ≡ 0 → xs ≡ []
empty [] l = refl
empty (x ∷ xs) l = absurd (omega arith)

pub one_byte : (xs : Text) → length xs ≡ 1 → xs ≡ slice_index xs 0 ∷ []
one_byte [] l = absurd (omega arith)
one_byte (x ∷ []) l = refl
one_byte (x ∷ y ∷ xs) l = absurd (omega arith)

-- what is written behind the first part, as long as what stood there
pub behind_first : (one two rest : Text) → length one ≡ 33 → length two ≡ 32 → length rest ≡ 32 → put_mid 33 32 (one ++ rest) two ≡ one ++ two
behind_first one two rest l m n =
    let first : take 33 (one ++ rest) ≡ one = ap (λ k. take k (one ++ rest)) (sym l) ∙ take-append_seam one rest in
    let none : post_of 33 32 (one ++ rest) ≡ [] = drop_of_length-le (drop 33 (one ++ rest)) {i = 32} (omega (arith, length-drop 33 (one ++ rest), length-append one rest)) in
    ap₂ (λ a b. a ++ (two ++ b)) first none ∙ ap (λ b. one ++ b) (append-nil two)
