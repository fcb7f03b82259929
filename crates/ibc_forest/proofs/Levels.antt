-- The tree by halves is the tree by levels.
use Rattle.std.proofs.Common.{◌≡◌, ℕ, zero, suc, ◌+◌, ◌*◌, ◌^◌, ◌<◌, ◌≤◌, List, [], ◌∷◌, length, take, drop, map, refl, sym, ap, ap₂, ◌∙◌, arith, length-take, length-drop, pow_mono, pow-suc, inl, inr}
use Rattle.std.proofs.lemmas.Bool.{cases_lt}
use Rattle.std.proofs.lemmas.Nat.{pow_pos}
use Rattle.std.proofs.lemmas.List.{take-map, drop-map, length-map}
use Rattle.ibc_merkle.specs.Tree.{Pairs, Tree, Node, tree, tree_within, largest_power_below}
use Rattle.ibc_merkle.proofs.Depths.{below_power, doubled_power}
use Rattle.ibc_merkle.proofs.Trees.{split_within}
use Rattle.ibc_forest.specs.Levels.{pair_up, tree_over_within, tree_over, leaf_of}

-- ---- over leaves it is the tree over the pairs

over_within-leaves : (depth : ℕ) (pairs : Pairs) → tree_over_within depth (map leaf_of pairs) ≡ tree_within depth pairs
over_within-leaves depth [] = refl
over_within-leaves depth (pair ∷ []) = refl
over_within-leaves zero (pair ∷ next ∷ pairs) = refl
over_within-leaves (suc depth) (pair ∷ next ∷ pairs) =
    let all : Pairs = pair ∷ next ∷ pairs in
    let split = largest_power_below (length all) in
    let counted : length (map leaf_of all) ≡ length all = length-map all leaf_of in
    ap (λ n. Node (tree_over_within depth (take (largest_power_below n) (map leaf_of all))) (tree_over_within depth (drop (largest_power_below n) (map leaf_of all)))) counted
    ∙ ap₂ Node
    (ap (tree_over_within depth) (take-map leaf_of split all) ∙ over_within-leaves depth (take split all))
    (ap (tree_over_within depth) (drop-map leaf_of split all) ∙ over_within-leaves depth (drop split all))

pub over-leaves : (pairs : Pairs) → tree_over (map leaf_of pairs) ≡ tree pairs
over-leaves pairs =
    ap (λ n. tree_over_within n (map leaf_of pairs)) (let e : length (map leaf_of pairs) ≡ length pairs = length-map pairs leaf_of in e)
    ∙ over_within-leaves (length pairs) pairs

-- ---- by its halves

over_within-enough : (d e : ℕ) (trees : List Tree) → length trees ≤ d → length trees ≤ e → tree_over_within d trees ≡ tree_over_within e trees
over_within-enough d e [] p q = refl
over_within-enough d e (tree ∷ []) p q = refl
over_within-enough zero e (tree ∷ next ∷ trees) p q = absurd (omega arith)
over_within-enough (suc d) zero (tree ∷ next ∷ trees) p q = absurd (omega arith)
over_within-enough (suc d) (suc e) (tree ∷ next ∷ trees) p q =
    let all : List Tree = tree ∷ next ∷ trees in
    let split = largest_power_below (length all) in
    let within = split_within (length all) (omega arith) in
    ap₂ Node
    (over_within-enough d e (take split all) (simp length-take (omega arith)) (simp length-take (omega arith)))
    (over_within-enough d e (drop split all) (simp length-drop (omega arith)) (simp length-drop (omega arith)))

over_within-half : (depth : ℕ) (trees : List Tree) → length trees ≤ depth → tree_over_within depth trees ≡ tree_over trees
over_within-half depth trees enough = over_within-enough depth (length trees) trees enough (omega arith)

pub over-halves : (trees : List Tree) (split : ℕ) → 1 < length trees → split ≡ largest_power_below (length trees)
    → tree_over trees ≡ Node (tree_over (take split trees)) (tree_over (drop split trees))
over-halves [] split more is = absurd (omega arith)
over-halves (tree ∷ []) split more is = absurd (omega arith)
over-halves (tree ∷ next ∷ trees) split more is =
    let all : List Tree = tree ∷ next ∷ trees in
    let power = largest_power_below (length all) in
    let within = split_within (length all) (omega arith) in
    ap₂ Node
    (over_within-half (length (next ∷ trees)) (take power all) (simp length-take (omega arith)))
    (over_within-half (length (next ∷ trees)) (drop power all) (simp length-drop (omega arith)))
    ∙ ap (λ split. Node (tree_over (take split all)) (tree_over (drop split all))) (sym is)

-- ---- the split is the power of two that is below and whose double isn't

pub split_power : (n : ℕ) → 2 ≤ n → (j : ℕ) × (largest_power_below n ≡ 2 ^ j) × (2 ^ j < n) × (n ≤ 2 * 2 ^ j)
split_power n more =
    let big = below_power n in
    let enough : n ≤ 1 * 2 ^ suc n = rw pow-suc (omega arith) in
    doubled_power n 1 n 0 refl (omega arith) enough

not_above : (n i j : ℕ) → 2 ^ j < n → n ≤ 2 * 2 ^ i → i < j → zero ≡ suc zero
not_above n i j low high l = let h : 2 ^ suc i ≤ 2 ^ j = pow_mono l in let e : 2 ^ suc i ≡ 2 ^ i * 2 = rw pow-suc refl in absurd (omega arith)

pub split_is : (n i : ℕ) → 2 ≤ n → 2 ^ i < n → n ≤ 2 * 2 ^ i → largest_power_below n ≡ 2 ^ i
split_is n i more low high =
    let w = split_power n more in
    elim (cases_lt i w.0) [
      | inl l ↦ let h = not_above n i w.0 w.2 high l in absurd (omega arith)
      | inr le ↦ elim (cases_lt w.0 i) [
        | inl l ↦ let h = not_above n w.0 i low w.3 l in absurd (omega arith)
        | inr ge ↦ w.1 ∙ ap (λ k. 2 ^ k) (let e : w.0 ≡ i = omega arith in e)
      ]
    ]

-- ---- one level up

abbrev pub double : ℕ → ℕ
double zero = zero
double (suc n) = suc (suc (double n))

pub double-is : (n : ℕ) → double n ≡ 2 * n
double-is zero = refl
double-is (suc n) = let h = double-is n in omega arith

take_none : (n : ℕ) (none : List Tree) → none ≡ [] → take n none ≡ []
take_none zero none is = refl
take_none (suc n) none is = ap (take (suc n)) is

drop_none : (n : ℕ) (none : List Tree) → none ≡ [] → drop n none ≡ []
drop_none zero none is = is
drop_none (suc n) none is = ap (drop (suc n)) is

take-pair_up : (h : ℕ) (trees : List Tree) → take h (pair_up trees) ≡ pair_up (take (double h) trees)
take-pair_up zero trees = refl
take-pair_up (suc h) [] = refl
take-pair_up (suc h) (tree ∷ []) = ap (λ ts. tree ∷ ts) (take_none h [] refl)
take-pair_up (suc h) (left ∷ right ∷ trees) = ap (λ ts. Node left right ∷ ts) (take-pair_up h trees)

drop-pair_up : (h : ℕ) (trees : List Tree) → drop h (pair_up trees) ≡ pair_up (drop (double h) trees)
drop-pair_up zero trees = refl
drop-pair_up (suc h) [] = refl
drop-pair_up (suc h) (tree ∷ []) = drop_none h [] refl
drop-pair_up (suc h) (left ∷ right ∷ trees) = drop-pair_up h trees

pub length-pair_up : (trees : List Tree) → (length trees ≤ 2 * length (pair_up trees)) × (2 * length (pair_up trees) ≤ length trees + 1)
length-pair_up [] = (omega arith, omega arith)
length-pair_up (tree ∷ []) = (omega arith, omega arith)
length-pair_up (left ∷ right ∷ trees) = let h = length-pair_up trees in (omega arith, omega arith)

-- ---- pairing leaves the tree

step : (trees : List Tree) (j : ℕ) → 3 ≤ length trees → largest_power_below (length trees) ≡ 2 ^ j → 2 ^ j < length trees → length trees ≤ 2 * 2 ^ j
    → ((ts : List Tree) → length ts < length trees → 0 < length ts → tree_over (pair_up ts) ≡ tree_over ts) → tree_over (pair_up trees) ≡ tree_over trees
step trees zero more is low high shorter = absurd (omega arith)
step trees (suc i) more is low high shorter =
    let h : ℕ = 2 ^ i in
    let some : 0 < h = pow_pos i in
    let twice : 2 ^ suc i ≡ 2 * h = let e : 2 ^ suc i ≡ 2 ^ i * 2 = rw pow-suc refl in omega arith in
    let doubled_is : double h ≡ 2 * h = double-is h in
    let above : List Tree = pair_up trees in
    let counted = length-pair_up trees in
    let split : largest_power_below (length above) ≡ h = split_is (length above) i (omega arith) (omega arith) (omega arith) in
    let left : tree_over (pair_up (take (double h) trees)) ≡ tree_over (take (double h) trees) = shorter (take (double h) trees) (simp length-take (omega arith)) (simp length-take (omega arith)) in
    let right : tree_over (pair_up (drop (double h) trees)) ≡ tree_over (drop (double h) trees) = shorter (drop (double h) trees) (simp length-drop (omega arith)) (simp length-drop (omega arith)) in
    over-halves above h (omega arith) (sym split)
    ∙ ap₂ (λ l r. Node (tree_over l) (tree_over r)) (take-pair_up h trees) (drop-pair_up h trees)
    ∙ ap₂ Node left right
    ∙ sym (over-halves trees (double h) (omega arith) (let e : double h ≡ largest_power_below (length trees) = omega arith in e))

raised : (fuel : ℕ) (trees : List Tree) → length trees ≤ fuel → 0 < length trees → tree_over (pair_up trees) ≡ tree_over trees
raised zero trees few some = absurd (omega arith)
raised (suc fuel) [] few some = absurd (omega arith)
raised (suc fuel) (tree ∷ []) few some = refl
raised (suc fuel) (left ∷ right ∷ []) few some = refl
raised (suc fuel) (first ∷ second ∷ third ∷ trees) few some =
    let all : List Tree = first ∷ second ∷ third ∷ trees in
    let w = split_power (length all) (omega arith) in
    step all w.0 (omega arith) w.1 w.2 w.3 (λ ts l s. raised fuel ts (omega arith) s)

-- the tree over what is one level up is the same
pub over-pair_up : (trees : List Tree) → 0 < length trees → tree_over (pair_up trees) ≡ tree_over trees
over-pair_up trees some = raised (length trees) trees (omega arith) some
