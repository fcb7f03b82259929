-- Lines are explained one after another.
use Rattle.std.proofs.Common.{◌≡◌, ◌∙◌, ◌++◌, ◌∷◌, [], ◌<◌, ◌+◌, ℕ, zero, suc, All, List, ap, arith, get_or, length, map, subst, sym, take}
use Rattle.std.proofs.lemmas.List.{map-append, take_more}
use Rattle.std.proofs.lemmas.List.Elements.{All-append}
use Rattle.ibc_explain.specs.declared.explaining.ExplainedLine.{ExplainedLine}
use Rattle.ibc_explain.specs.declared.places.PlacedLine.{PlacedLine}

all_one : {X : Type 0} (P : X → Type 0) (x : X) → P x → All P (x ∷ [])
all_one P x fact zero d low = fact
all_one P x fact (suc k) d low = absurd (omega (arith, low))

-- one line more is explained
pub all_more : {X : Type 0} (P : X → Type 0) (done new : List X) (x : X) → new ≡ done ++ x ∷ [] → All P done → P x → All P new
all_more {X} P done new x grown all fact = subst (λ (l : List X). All P l) (sym grown) (All-append P done (x ∷ []) all (all_one P x fact))

pub lines_more : (lines : List PlacedLine) (done new : List ExplainedLine) (x : ExplainedLine) (i : ℕ) (d : PlacedLine) → i < length lines
    → new ≡ done ++ x ∷ [] → x.line ≡ get_or lines i d → map (λ (x : ExplainedLine). x.line) done ≡ take i lines
    → map (λ (x : ExplainedLine). x.line) new ≡ take (i + 1) lines
lines_more lines done new x i d low grown its so_far =
    ap (λ (l : List ExplainedLine). map (λ (x : ExplainedLine). x.line) l) grown
    ∙ map-append (λ (x : ExplainedLine). x.line) done (x ∷ [])
    ∙ ap (λ (l : List PlacedLine). l ++ x.line ∷ []) so_far
    ∙ ap (λ (y : PlacedLine). take i lines ++ y ∷ []) its
    ∙ sym (take_more lines i d low)
