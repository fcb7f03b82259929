-- Paths in a tree from the root down, true to the left: the leaf that a path leads to, the operations along
-- it, and where the leaf stands among the leaves.
use Rattle.std.proofs.Common.{◌≡◌, Bool, true, false, ◌&&◌, ◌||◌, suc, eqb, List, [], ◌∷◌, ◌++◌, length, map, refl, sym, ap, ap₂, ◌∙◌, Option, Some, None, arith, append_assoc, append-nil, eq-eqb}
use Rattle.std.specs.List.{list_all}
use Rattle.std.proofs.lemmas.Bool.{and_parts, and_from, false≢true}
use Rattle.ibc_ids.specs.Texts.{Text, same_text}
use Rattle.ibc_merkle.specs.Hash.{hash, leaf_text, leaf_mark}
use Rattle.ibc_merkle.specs.Tree.{Pairs, Tree, Leaf, Node, root, leaves}
use Rattle.ibc_merkle.specs.Proofs.{goes_left, goes_right, is_inner, operation_text, only_left, only_right, are_adjacent}
use Rattle.ibc_merkle.specs.Written.{left_child, right_child}
use Rattle.ibc_merkle.specs.declared.proof.Operation.{Operation}
use Rattle.ibc_merkle.proofs.Digests.{length-root}

abbrev pub leaf_at : Tree → List Bool → Option (Text × Text)
leaf_at (Leaf key value) [] = Some (key, value)
leaf_at (Leaf key value) (left ∷ path) = None
leaf_at (Node l r) [] = None
leaf_at (Node l r) (true ∷ path) = leaf_at l path
leaf_at (Node l r) (false ∷ path) = leaf_at r path

-- the operations along a path, from the root down
abbrev pub along : Tree → List Bool → List Operation
along (Leaf key value) path = []
along (Node l r) [] = []
along (Node l r) (true ∷ path) = left_child (root r) ∷ along l path
along (Node l r) (false ∷ path) = right_child (root l) ∷ along r path

-- the hash that operations lead to, given from the root down
abbrev pub climb_down : Text → List Operation → Text
climb_down child [] = child
climb_down child (operation ∷ operations) = hash (operation_text operation (climb_down child operations))

pub some_same : {A : Type 0} (x y : A) → ◌≡◌ {A = Option A} (Some x) (Some y) → x ≡ y
some_same x y e = cc

pub none_some : {A B : Type 0} (x : A) → ◌≡◌ {A = Option A} None (Some x) → B
none_some x e = absurd (cc)

-- ---- operations tell their turn

nonempty_apart : (x : Text) → length x ≡ 32 → same_text x [] ≡ false
nonempty_apart [] l = absurd (omega arith)
nonempty_apart (y ∷ x) l = refl

pub goes_left-left : (h : Text) → length h ≡ 32 → goes_left (left_child h) ≡ true
goes_left-left h l = eq-eqb (length h) 32 l

pub goes_left-right : (h : Text) → length h ≡ 32 → goes_left (right_child h) ≡ false
goes_left-right h l = ap (λ b. b && eqb 0 32) (nonempty_apart h l)

goes_right-right : (h : Text) → length h ≡ 32 → goes_right (right_child h) ≡ true
goes_right-right h l = ap (λ n. eqb (suc n) 33 && true && true) l

inner_left : (h : Text) → length h ≡ 32 → is_inner (left_child h) ≡ true
inner_left h l = ap (λ b. b || goes_right (left_child h)) (goes_left-left h l)

inner_right : (h : Text) → length h ≡ 32 → is_inner (right_child h) ≡ true
inner_right h l = ap (λ b. b || goes_right (right_child h)) (goes_left-right h l) ∙ goes_right-right h l

pub turns-along : (t : Tree) (path : List Bool) (e : Text × Text) → leaf_at t path ≡ Some e → map goes_left (along t path) ≡ path
turns-along (Leaf key value) [] e there = refl
turns-along (Leaf key value) (left ∷ path) e there = none_some e there
turns-along (Node l r) [] e there = none_some e there
turns-along (Node l r) (true ∷ path) e there = ap₂ ◌∷◌ (goes_left-left (root r) (length-root r)) (turns-along l path e there)
turns-along (Node l r) (false ∷ path) e there = ap₂ ◌∷◌ (goes_left-right (root l) (length-root l)) (turns-along r path e there)

pub inner-along : (t : Tree) (path : List Bool) → list_all is_inner (along t path) ≡ true
inner-along (Leaf key value) path = refl
inner-along (Node l r) [] = refl
inner-along (Node l r) (true ∷ path) = and_from _ _ (inner_left (root r) (length-root r)) (inner-along l path)
inner-along (Node l r) (false ∷ path) = and_from _ _ (inner_right (root l) (length-root l)) (inner-along r path)

-- ---- the climb along a path leads to the root

pub climbs : (t : Tree) (path : List Bool) (e : Text × Text) → leaf_at t path ≡ Some e → climb_down (hash (leaf_text leaf_mark e.0 e.1)) (along t path) ≡ root t
climbs (Leaf key value) [] e there = ap (λ (x : Text × Text). hash (leaf_text leaf_mark x.0 x.1)) (sym (some_same (key, value) e there))
climbs (Leaf key value) (left ∷ path) e there = none_some e there
climbs (Node l r) [] e there = none_some e there
climbs (Node l r) (true ∷ path) e there = ap (λ h. hash (1 ∷ h ++ root r)) (climbs l path e there)
climbs (Node l r) (false ∷ path) e there =
    ap (λ h. hash (1 ∷ root l ++ h ++ [])) (climbs r path e there) ∙ ap (λ h. hash (1 ∷ h)) (append-nil (root l ++ root r))

-- ---- where the leaf stands

pub stands : (t : Tree) (path : List Bool) (e : Text × Text) → leaf_at t path ≡ Some e → (before after : Pairs) × (leaves t ≡ before ++ e ∷ after)
stands (Leaf key value) [] e there = ([], [], ap (λ (x : Text × Text). x ∷ []) (some_same (key, value) e there))
stands (Leaf key value) (left ∷ path) e there = none_some e there
stands (Node l r) [] e there = none_some e there
stands (Node l r) (true ∷ path) e there =
    let w = stands l path e there in
    (w.0, w.1 ++ leaves r, ap (λ xs. xs ++ leaves r) w.2 ∙ append_assoc w.0 (e ∷ w.1) (leaves r))
stands (Node l r) (false ∷ path) e there =
    let w = stands r path e there in
    (leaves l ++ w.0, w.1, ap (λ xs. leaves l ++ xs) w.2 ∙ sym (append_assoc (leaves l) w.0 (e ∷ w.1)))

pub stands_first : (t : Tree) (path : List Bool) (e : Text × Text) → leaf_at t path ≡ Some e → only_left path ≡ true → (after : Pairs) × (leaves t ≡ e ∷ after)
stands_first (Leaf key value) [] e there only = ([], ap (λ (x : Text × Text). x ∷ []) (some_same (key, value) e there))
stands_first (Leaf key value) (left ∷ path) e there only = none_some e there
stands_first (Node l r) [] e there only = none_some e there
stands_first (Node l r) (true ∷ path) e there only =
    let w = stands_first l path e there only in
    (w.0 ++ leaves r, ap (λ xs. xs ++ leaves r) w.1)
stands_first (Node l r) (false ∷ path) e there only = absurd (false≢true only)

pub stands_last : (t : Tree) (path : List Bool) (e : Text × Text) → leaf_at t path ≡ Some e → only_right path ≡ true → (before : Pairs) × (leaves t ≡ before ++ e ∷ [])
stands_last (Leaf key value) [] e there only = ([], ap (λ (x : Text × Text). x ∷ []) (some_same (key, value) e there))
stands_last (Leaf key value) (left ∷ path) e there only = none_some e there
stands_last (Node l r) [] e there only = none_some e there
stands_last (Node l r) (true ∷ path) e there only = absurd (false≢true only)
stands_last (Node l r) (false ∷ path) e there only =
    let w = stands_last r path e there only in
    (leaves l ++ w.0, ap (λ xs. leaves l ++ xs) w.1 ∙ sym (append_assoc (leaves l) w.0 (e ∷ [])))

pub stand_side_by_side : (t : Tree) (p q : List Bool) (e f : Text × Text) → leaf_at t p ≡ Some e → leaf_at t q ≡ Some f → are_adjacent p q ≡ true → (before after : Pairs) × (leaves t ≡ before ++ e ∷ f ∷ after)
stand_side_by_side t [] q e f there other near = absurd (false≢true near)
stand_side_by_side t (a ∷ p) [] e f there other near = elim a as (λ a. are_adjacent (a ∷ p) [] ≡ true → (before after : Pairs) × (leaves t ≡ before ++ e ∷ f ∷ after)) [ true ↦ λ n. absurd (false≢true n) | false ↦ λ n. absurd (false≢true n) ] near
stand_side_by_side (Leaf key value) (a ∷ p) (b ∷ q) e f there other near = none_some e there
stand_side_by_side (Node l r) (true ∷ p) (true ∷ q) e f there other near =
    let w = stand_side_by_side l p q e f there other near in
    (w.0, w.1 ++ leaves r, ap (λ xs. xs ++ leaves r) w.2 ∙ append_assoc w.0 (e ∷ f ∷ w.1) (leaves r))
stand_side_by_side (Node l r) (false ∷ p) (false ∷ q) e f there other near =
    let w = stand_side_by_side r p q e f there other near in
    (leaves l ++ w.0, w.1, ap (λ xs. leaves l ++ xs) w.2 ∙ sym (append_assoc (leaves l) w.0 (e ∷ f ∷ w.1)))
stand_side_by_side (Node l r) (true ∷ p) (false ∷ q) e f there other near =
    let parts = and_parts (only_right p) (only_left q) near in
    let x = stands_last l p e there parts.0 in
    let y = stands_first r q f other parts.1 in
    (x.0, y.0, ap₂ ◌++◌ x.1 y.1 ∙ append_assoc x.0 (e ∷ []) (f ∷ y.0))
stand_side_by_side (Node l r) (false ∷ p) (true ∷ q) e f there other near = absurd (false≢true near)
