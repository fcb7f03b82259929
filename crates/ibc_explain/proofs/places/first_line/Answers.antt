-- A text is cut at its first line feed.
use Rattle.std.proofs.Common.{◌≡◌, ℕ, List, ◌∷◌, ◌++◌, ◌<◌, Option, None, Some, IfSome, MatchOption, lit<}
use Rattle.std.proofs.lemmas.Str.Pattern.{split_parts}
use denote.Ref.{Bor}
use Rattle.ibc_explain.proofs.places.first_line.Goals as goal

cut_of : (A : Type 0) (B : Bor (List ℕ) × Bor (List ℕ) → Type 0) (text : List ℕ) (found : Option (Bor (List ℕ) × Bor (List ℕ)))
    → MatchOption found A (λ cut. (text ≡ cut.0.now ++ (10 ∷ cut.1.now)) × B cut) → IfSome found (λ cut. text ≡ cut.0.now ++ 10 ∷ cut.1.now)
cut_of A B text None fact = tt
cut_of A B text (Some cut) fact = fact.0

pub returns : goal.returns
returns c = cut_of _ _ c.args.text.now c.split_once.result (split_parts 10 c.args.text.now c.split_once.result c.split_once.ensures.cases (lit< tt))
