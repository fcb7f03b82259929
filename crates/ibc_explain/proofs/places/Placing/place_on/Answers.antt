-- The line is the next entry's.
use Rattle.std.proofs.Common.{◌≡◌, ◌∙◌, ◌<◌, ◌≤◌, ℕ, List, None, Option, Some, MatchOption, length, option_copied, refl, slice_get, subst, sym}
use Rattle.std.proofs.lemmas.Option.{slice_get_read}
use Rattle.std.specs.List.{HoldsAt}
use denote.Ref.{Bor}
use Rattle.ibc_explain.proofs.places.Placing.place_on.Goals as goal

got : (found : Option (Bor ℕ)) (xs : List ℕ) (i k index : ℕ) → MatchOption found (length xs ≤ i) (λ x. (i < length xs) × HoldsAt (λ y. x.now ≡ y) xs i)
    → Some index ≡ option_copied found → i ≡ k → slice_get xs k ≡ Some index
got None xs i k index there is same = absurd (cc is)
got (Some x) xs i k index there is same =
    subst (λ (n : ℕ). slice_get xs n ≡ Some index) same (slice_get_read xs (length xs) i x.now refl there.0 (there.1 x.now) ∙ sym is)

pub returns-then-branch-clause-is : goal.returns-then-branch-clause-is
returns-then-branch-clause-is c = c.in_ok-is_line_of.ensures c.if-branch.true

pub returns-then-branch-clause-next : goal.returns-then-branch-clause-next
returns-then-branch-clause-next c =
    got c.get.result c.args.next.now c.from.result c.args.chain c.in-Some.index c.get.ensures.lookup.3 c.in-Some.ensures c.from.ensures
