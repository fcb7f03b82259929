-- The operations from a leaf up, by the leaf's place.
use Rattle.std.proofs.Common.{◌≡◌, ℕ, zero, suc, ◌+◌, ◌-◌, ◌<◌, ◌≤◌, true, false, List, [], ◌∷◌, ◌++◌, length, get_or, take, drop, refl, sym, ap, ◌∙◌, subst, arith, length-take, length-drop, take-append-drop, append_assoc, append-nil, ap₂, Option, Some, None}
use Rattle.std.specs.Option.{IsSomeAnd}
use Rattle.std.specs.FinMap.{is_sorted}
use Rattle.std.proofs.lemmas.List.{get_or-take, get_or-drop, get_or_default}
use Rattle.ibc_ids.specs.Texts.{Text, text_cmp}
use Rattle.ibc_ids.proofs.Texts.{same_text_itself}
use Rattle.ibc_merkle.specs.Tree.{Pairs, tree, tree_root, largest_power_below, leaves}
use Rattle.ibc_merkle.specs.Written.{left_child, right_child, found_below, operations_to}
use Rattle.ibc_merkle.specs.PairPlaces.{key_at}
use Rattle.ibc_merkle.specs.declared.proof.Operation.{Operation}
use Rattle.ibc_merkle.proofs.Trees.{leaves-tree, tree-halves}
use Rattle.ibc_merkle.proofs.Sorted.{AreRising, AllBelow, rising_from_sorted, before_is_below}
use Rattle.ibc_merkle.proofs.LeafPaths.{IsNone, below_some, none_from_below, finds_none, all_below-left}
use Rattle.ibc_merkle.proofs.SearchedPairs.{parts_at}

pub operations-leaf : (pairs : Pairs) (index : ℕ) → length pairs ≡ 1 → index < length pairs → operations_to (key_at pairs index) (tree pairs) ≡ Some []
operations-leaf [] index one there = absurd (omega arith)
operations-leaf (pair ∷ []) zero one there =
    ap (λ b. elim b as (λ _. Option (List Operation)) [ true ↦ Some [] | false ↦ None ]) (same_text_itself pair.0)
operations-leaf (pair ∷ []) (suc index) one there = absurd (omega arith)
operations-leaf (pair ∷ next ∷ pairs) index one there = absurd (omega arith)

halves : (pairs : Pairs) (split : ℕ) (key : Text) → 1 < length pairs → split ≡ largest_power_below (length pairs)
    → operations_to key (tree pairs)
    ≡ found_below (tree_root (take split pairs)) (tree_root (drop split pairs)) (operations_to key (tree (take split pairs))) (operations_to key (tree (drop split pairs)))
halves pairs split key more is =
    ap (operations_to key) (tree-halves pairs more)
    ∙ ap (λ split. found_below (tree_root (take split pairs)) (tree_root (drop split pairs)) (operations_to key (tree (take split pairs))) (operations_to key (tree (drop split pairs)))) (sym is)

pub key_at-take : (pairs : Pairs) (split index : ℕ) → index < split → key_at (take split pairs) index ≡ key_at pairs index
key_at-take pairs split index l = ap (λ (pair : Text × Text). pair.0) (get_or-take split pairs index ([], []) l)

pub key_at-drop : (pairs : Pairs) (split index : ℕ) → split ≤ index → key_at (drop split pairs) (index - split) ≡ key_at pairs index
key_at-drop pairs split index l =
    ap (λ (pair : Text × Text). pair.0) (get_or-drop split pairs (index - split) ([], []))
    ∙ ap (λ i. key_at pairs i) (let e : split + (index - split) ≡ index = omega arith in e)

-- ---- on a left child

left_found : (pairs : Pairs) (split index : ℕ) (operations : List Operation) → 1 < length pairs → split ≡ largest_power_below (length pairs) → index < split
    → operations_to (key_at (take split pairs) index) (tree (take split pairs)) ≡ Some operations
    → operations_to (key_at pairs index) (tree pairs) ≡ Some (operations ++ left_child (tree_root (drop split pairs)) ∷ [])
left_found pairs split index operations more is l e =
    let key = key_at pairs index in
    let left = tree_root (take split pairs) in
    let right = tree_root (drop split pairs) in
    let there : operations_to key (tree (take split pairs)) ≡ Some operations = ap (λ key. operations_to key (tree (take split pairs))) (sym (key_at-take pairs split index l)) ∙ e in
    halves pairs split key more is
    ∙ ap (λ o. found_below left right o (operations_to key (tree (drop split pairs)))) there
    ∙ below_some left right operations (operations_to key (tree (drop split pairs)))

-- ---- on a right child

not_left : (pairs : Pairs) (split index : ℕ) → is_sorted text_cmp pairs ≡ true → 0 < split → split ≤ index → index < length pairs
    → operations_to (key_at pairs index) (tree (take split pairs)) ≡ None
not_left pairs split index sorted some l there =
    let left : Pairs = take split pairs in
    let right : Pairs = drop split pairs in
    let pair = get_or pairs index ([], []) in
    let stands : pair ≡ get_or right (index - split) pair =
    get_or_default pairs index ([], []) pair there
    ∙ ap (λ i. get_or pairs i pair) (let e : index ≡ split + (index - split) = omega arith in e)
    ∙ sym (get_or-drop split pairs (index - split) pair)
    in
    let low : Pairs = take (index - split) right in
    let high : Pairs = drop (suc (index - split)) right in
    let parts : right ≡ low ++ pair ∷ high = parts_at right (index - split) pair (simp length-drop (omega arith)) stands in
    let whole : pairs ≡ (left ++ low) ++ pair ∷ high = sym (take-append-drop split pairs) ∙ ap (λ ys. left ++ ys) parts ∙ sym (append_assoc left low (pair ∷ high)) in
    let below : AllBelow pair.0 (left ++ low) = before_is_below (left ++ low) pair high (subst AreRising whole (rising_from_sorted pairs sorted)) in
    let leaves_left : leaves (tree left) ≡ left = leaves-tree left (simp length-take (omega arith)) in
    finds_none pair.0 (tree left) (subst (IsNone pair.0) (sym leaves_left) (none_from_below pair.0 left (all_below-left pair.0 left low below)))

right_found : (pairs : Pairs) (split index : ℕ) (operations : List Operation) → is_sorted text_cmp pairs ≡ true → 0 < split → 1 < length pairs → split ≡ largest_power_below (length pairs)
    → split ≤ index → index < length pairs → operations_to (key_at (drop split pairs) (index - split)) (tree (drop split pairs)) ≡ Some operations
    → operations_to (key_at pairs index) (tree pairs) ≡ Some (operations ++ right_child (tree_root (take split pairs)) ∷ [])
right_found pairs split index operations sorted some more is l below e =
    let key = key_at pairs index in
    let left = tree_root (take split pairs) in
    let right = tree_root (drop split pairs) in
    let there : operations_to key (tree (drop split pairs)) ≡ Some operations = ap (λ key. operations_to key (tree (drop split pairs))) (sym (key_at-drop pairs split index l)) ∙ e in
    halves pairs split key more is ∙ ap₂ (found_below left right) (not_left pairs split index sorted some l below) there

-- ---- as a step from half to whole

-- what was added to the operations before are the ones to the key
abbrev pub AddsTo : Text → Pairs → List Operation → List Operation → Type 0
AddsTo key pairs old new = IsSomeAnd (operations_to key (tree pairs)) (λ added. new ≡ old ++ added)

some_and : {A : Type 0} (o : Option A) (P : A → Type 0) → IsSomeAnd o P → (x : A) × (o ≡ Some x) × P x
some_and None P h = absurd h
some_and (Some x) P h = (x, refl, h)

and_some : {A : Type 0} (o : Option A) (P : A → Type 0) (x : A) → o ≡ Some x → P x → IsSomeAnd o P
and_some o P x e h = subst (λ o. IsSomeAnd o P) (sym e) h

pub adds_at_leaf : (pairs : Pairs) (index : ℕ) (old : List Operation) → length pairs ≡ 1 → index < length pairs → AddsTo (key_at pairs index) pairs old old
adds_at_leaf pairs index old one there = and_some _ (λ added. old ≡ old ++ added) [] (operations-leaf pairs index one there) (sym (append-nil old))

pub adds_on_left : (pairs : Pairs) (split index : ℕ) (old half : List Operation) → 1 < length pairs → split ≡ largest_power_below (length pairs) → index < split
    → AddsTo (key_at (take split pairs) index) (take split pairs) old half → AddsTo (key_at pairs index) pairs old (half ++ left_child (tree_root (drop split pairs)) ∷ [])
adds_on_left pairs split index old half more is l h =
    let last = left_child (tree_root (drop split pairs)) in
    let w = some_and (operations_to (key_at (take split pairs) index) (tree (take split pairs))) (λ added. half ≡ old ++ added) h in
    and_some _ (λ added. half ++ last ∷ [] ≡ old ++ added) (w.0 ++ last ∷ []) (left_found pairs split index w.0 more is l w.1)
    (ap (λ xs. xs ++ last ∷ []) w.2 ∙ append_assoc old w.0 (last ∷ []))

pub adds_on_right : (pairs : Pairs) (split index : ℕ) (old half : List Operation) → is_sorted text_cmp pairs ≡ true → 0 < split → 1 < length pairs → split ≡ largest_power_below (length pairs)
    → split ≤ index → index < length pairs
    → AddsTo (key_at (drop split pairs) (index - split)) (drop split pairs) old half → AddsTo (key_at pairs index) pairs old (half ++ right_child (tree_root (take split pairs)) ∷ [])
adds_on_right pairs split index old half sorted some more is l there h =
    let last = right_child (tree_root (take split pairs)) in
    let w = some_and (operations_to (key_at (drop split pairs) (index - split)) (tree (drop split pairs))) (λ added. half ≡ old ++ added) h in
    and_some _ (λ added. half ++ last ∷ [] ≡ old ++ added) (w.0 ++ last ∷ []) (right_found pairs split index w.0 sorted some more is l there w.1)
    (ap (λ xs. xs ++ last ∷ []) w.2 ∙ append_assoc old w.0 (last ∷ []))
