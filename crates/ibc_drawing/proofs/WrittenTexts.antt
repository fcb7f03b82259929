-- Texts that are written a character at a time.
use Rattle.std.proofs.Common.{◌≡◌, ℕ, ◌+◌, ◌<◌, List, ◌∷◌, ◌++◌, length, drop, get_or, sym, ap, ◌∙◌, append_assoc, Result, Ok, Err, OnOk}
use Rattle.std.specs.Prelude.{is_ok, if◌then◌else◌, flat_map}
use Rattle.std.proofs.lemmas.List.{drop_more}

-- what was added to a text
pub added : {T E : Type 0} (r : Result T E) (front next whole new : List ℕ) → front ++ next ≡ whole → new ≡ (if is_ok r then front ++ next else front) → OnOk r (new ≡ whole)
added (Ok x) front next whole new all is = is ∙ all
added (Err e) front next whole new all is = tt

-- with one more written, the rest is left
pub written_more : (written : ℕ → List ℕ) (xs : List ℕ) (i x : ℕ) (before after : List ℕ) → i < length xs → x ≡ get_or xs i x → after ≡ before ++ written x
    → after ++ flat_map written (drop (i + 1) xs) ≡ before ++ flat_map written (drop i xs)
written_more written xs i x before after low is grown =
    let rest : List ℕ = drop (i + 1) xs in
    let there : drop i xs ≡ x ∷ rest = drop_more xs i x low ∙ ap (λ (y : ℕ). y ∷ rest) (sym is) in
    ap (λ (text : List ℕ). text ++ flat_map written rest) grown ∙ append_assoc before (written x) (flat_map written rest)
    ∙ ap (λ (l : List ℕ). before ++ flat_map written l) (sym there)
