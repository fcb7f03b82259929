-- Pairs that differ from the last ones in no gap, or in gaps where none is gone and none came.
use Rattle.std.proofs.Common.{◌≡◌, ℕ, ◌+◌, ◌*◌, ◌^◌, ◌-◌, ◌<◌, List, ◌∷◌, ◌++◌, length, get_or, drop, sym, ap, ap₂, ◌∙◌, subst, arith, take-append-drop}
use Rattle.std.proofs.Math.Nat.{min-le_left}
use Rattle.std.proofs.lemmas.List.{drop_more}
use Rattle.ibc_merkle.specs.Tree.{Pairs}
use Rattle.ibc_forest.specs.Counts.{CountsEachNewLeaf}
use Rattle.ibc_forest.specs.Gaps.{DifferIn}
use Rattle.ibc_forest.specs.Leaves.{count_new}
use Rattle.ibc_forest.specs.declared.gap.Gap.{Gap}
use Rattle.ibc_forest.proofs.NewPairs.{new_unchanged}

one_empty : (gap : Gap) (gaps : List Gap) (last pairs : Pairs) → gap.gone ≡ 0 → gap.come ≡ 0 → ((last pairs : Pairs) → DifferIn gaps last pairs → pairs ≡ last)
    → DifferIn (gap ∷ gaps) last pairs → pairs ≡ last
one_empty gap gaps last pairs gone come rest differ =
    let these : gap.kept + gap.come ≡ gap.kept = omega arith in
    let those : gap.kept + gap.gone ≡ gap.kept = omega arith in
    let behind : drop gap.kept pairs ≡ drop gap.kept last =
    ap (λ n. drop n pairs) (sym these)
    ∙ rest (drop (gap.kept + gap.gone) last) (drop (gap.kept + gap.come) pairs) differ.3
    ∙ ap (λ n. drop n last) those
    in
    sym (take-append-drop gap.kept pairs) ∙ ap₂ (λ (xs ys : Pairs). xs ++ ys) differ.2 behind ∙ take-append-drop gap.kept last

pub next_empty : (gaps : List Gap) (i : ℕ) (d : Gap) (last pairs : Pairs) → i < length gaps → (get_or gaps i d).gone ≡ 0 → (get_or gaps i d).come ≡ 0
    → ((last pairs : Pairs) → DifferIn (drop (i + 1) gaps) last pairs → pairs ≡ last) → DifferIn (drop i gaps) last pairs → pairs ≡ last
next_empty gaps i d last pairs l gone come rest differ =
    one_empty (get_or gaps i d) (drop (i + 1) gaps) last pairs gone come rest (subst (λ (gaps : List Gap). DifferIn gaps last pairs) (drop_more gaps i d l) differ)

pub unchanged_least : (last pairs : Pairs) (steps : ℕ) → pairs ≡ last → CountsEachNewLeaf last pairs steps steps
unchanged_least last pairs steps unchanged =
    let new : count_new last pairs ≡ 0 = ap (count_new last) unchanged ∙ new_unchanged last in
    let few = min-le_left (steps + 2 * count_new last pairs) (2 ^ 64 - 1) in
    omega arith
