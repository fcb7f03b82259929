-- The leaves of the tree over pairs are the pairs.
use Rattle.std.proofs.Common.{◌≡◌, ℕ, zero, suc, ◌+◌, ◌*◌, ◌<◌, ◌≤◌, true, false, nat_lt, [], ◌∷◌, ◌++◌, length, take, drop, get_or, refl, sym, ap, ap₂, ◌∙◌, arith, ltb-true, lt-ltb, le-ltb, length-take, length-drop, take-append-drop}
use Rattle.ibc_ids.specs.Texts.{Text}
use Rattle.ibc_merkle.specs.Hash.{hash, leaf_text, leaf_mark, inner_text}
use Rattle.ibc_merkle.specs.Tree.{Pairs, Node, tree, tree_within, doubled_below, largest_power_below, root, tree_root, leaves}

doubled_within : (times k n : ℕ) → 0 < k → k < n → (0 < doubled_below times k n) × (doubled_below times k n < n)
doubled_within zero k n some below = (some, below)
doubled_within (suc times) k n some below =
    elim (nat_lt (2 * k) n) as (λ p. nat_lt (2 * k) n ≡ p → (0 < elim p as (λ _. ℕ) [ true ↦ doubled_below times (2 * k) n | false ↦ k ]) × ((elim p as (λ _. ℕ) [ true ↦ doubled_below times (2 * k) n | false ↦ k ]) < n)) [
      | true ↦ λ p. doubled_within times (2 * k) n (omega arith) (ltb-true (2 * k) n p)
      | false ↦ λ p. (some, below)
    ] refl

pub split_within : (n : ℕ) → 2 ≤ n → (0 < largest_power_below n) × (largest_power_below n < n)
split_within n more = doubled_within n 1 n (omega arith) (omega arith)

leaves-tree_within : (depth : ℕ) (pairs : Pairs) → 0 < length pairs → length pairs ≤ depth → leaves (tree_within depth pairs) ≡ pairs
leaves-tree_within depth [] some deep = absurd (omega arith)
leaves-tree_within depth (pair ∷ []) some deep = refl
leaves-tree_within zero (pair ∷ next ∷ pairs) some deep = absurd (omega arith)
leaves-tree_within (suc depth) (pair ∷ next ∷ pairs) some deep =
    let all : Pairs = pair ∷ next ∷ pairs in
    let n = length all in
    let split = largest_power_below n in
    let within = split_within n (omega arith) in
    let left = leaves-tree_within depth (take split all) (simp length-take (omega arith)) (simp length-take (omega arith)) in
    let right = leaves-tree_within depth (drop split all) (simp length-drop (omega arith)) (simp length-drop (omega arith)) in
    ap₂ ◌++◌ left right ∙ take-append-drop split all

pub leaves-tree : (pairs : Pairs) → 0 < length pairs → leaves (tree pairs) ≡ pairs
leaves-tree pairs some = leaves-tree_within (length pairs) pairs some (omega arith)

-- ---- the tree by its halves

-- enough doublings are enough
doubled-enough : (s t k n : ℕ) → 0 < k → n ≤ s + k → n ≤ t + k → doubled_below s k n ≡ doubled_below t k n
doubled-enough zero zero k n some p q = refl
doubled-enough zero (suc t) k n some p q = ap (λ b. elim b as (λ _. ℕ) [ true ↦ doubled_below t (2 * k) n | false ↦ k ]) (sym (le-ltb (2 * k) n (omega arith)))
doubled-enough (suc s) zero k n some p q = ap (λ b. elim b as (λ _. ℕ) [ true ↦ doubled_below s (2 * k) n | false ↦ k ]) (le-ltb (2 * k) n (omega arith))
doubled-enough (suc s) (suc t) k n some p q =
    ap (λ m. elim (nat_lt (2 * k) n) as (λ _. ℕ) [ true ↦ m | false ↦ k ]) (doubled-enough s t (2 * k) n (omega arith) (omega arith) (omega arith))

pub doubled-once : (n k double : ℕ) → 0 < k → double ≡ 2 * k → double < n → doubled_below n k n ≡ doubled_below n double n
doubled-once zero k double some twice below = absurd (omega arith)
doubled-once (suc m) k double some twice below =
    let below : 2 * k < suc m = omega arith in
    ap (λ b. elim b as (λ _. ℕ) [ true ↦ doubled_below m (2 * k) (suc m) | false ↦ k ]) (lt-ltb (2 * k) (suc m) below)
    ∙ doubled-enough m (suc m) (2 * k) (suc m) (omega arith) (omega arith) (omega arith)
    ∙ ap (λ k. doubled_below (suc m) k (suc m)) (sym twice)

pub doubled-last : (n k : ℕ) → n ≤ 2 * k → doubled_below n k n ≡ k
doubled-last zero k above = refl
doubled-last (suc m) k above = ap (λ b. elim b as (λ _. ℕ) [ true ↦ doubled_below m (2 * k) (suc m) | false ↦ k ]) (le-ltb (2 * k) (suc m) above)

-- depth enough is enough
tree_within-enough : (d e : ℕ) (pairs : Pairs) → length pairs ≤ d → length pairs ≤ e → tree_within d pairs ≡ tree_within e pairs
tree_within-enough d e [] p q = refl
tree_within-enough d e (pair ∷ []) p q = refl
tree_within-enough zero e (pair ∷ next ∷ pairs) p q = absurd (omega arith)
tree_within-enough (suc d) zero (pair ∷ next ∷ pairs) p q = absurd (omega arith)
tree_within-enough (suc d) (suc e) (pair ∷ next ∷ pairs) p q =
    let all : Pairs = pair ∷ next ∷ pairs in
    let split = largest_power_below (length all) in
    let within = split_within (length all) (omega arith) in
    ap₂ Node
    (tree_within-enough d e (take split all) (simp length-take (omega arith)) (simp length-take (omega arith)))
    (tree_within-enough d e (drop split all) (simp length-drop (omega arith)) (simp length-drop (omega arith)))

tree_within-half : (depth : ℕ) (pairs : Pairs) → length pairs ≤ depth → tree_within depth pairs ≡ tree pairs
tree_within-half depth pairs enough = tree_within-enough depth (length pairs) pairs enough (omega arith)

-- of more than one pair the tree has the trees of both halves
pub tree-halves : (pairs : Pairs) → 1 < length pairs
    → tree pairs ≡ Node (tree (take (largest_power_below (length pairs)) pairs)) (tree (drop (largest_power_below (length pairs)) pairs))
tree-halves [] more = absurd (omega arith)
tree-halves (pair ∷ []) more = absurd (omega arith)
tree-halves (pair ∷ next ∷ pairs) more =
    let all : Pairs = pair ∷ next ∷ pairs in
    let split = largest_power_below (length all) in
    let within = split_within (length all) (omega arith) in
    ap₂ Node
    (tree_within-half (length (next ∷ pairs)) (take split all) (simp length-take (omega arith)))
    (tree_within-half (length (next ∷ pairs)) (drop split all) (simp length-drop (omega arith)))

pub tree_root-halves : (pairs : Pairs) (split : ℕ) → 1 < length pairs → split ≡ largest_power_below (length pairs)
    → tree_root pairs ≡ hash (inner_text (tree_root (take split pairs)) (tree_root (drop split pairs)))
tree_root-halves pairs split more is =
    ap root (tree-halves pairs more) ∙ ap (λ split. hash (inner_text (tree_root (take split pairs)) (tree_root (drop split pairs)))) (sym is)

pub tree_root-leaf : (pairs : Pairs) (pair : Text × Text) → length pairs ≡ 1 → pair ≡ get_or pairs 0 pair → tree_root pairs ≡ hash (leaf_text leaf_mark pair.0 pair.1)
tree_root-leaf [] pair one is = absurd (omega arith)
tree_root-leaf (first ∷ []) pair one is = ap (λ (p : Text × Text). hash (leaf_text leaf_mark p.0 p.1)) (sym is)
tree_root-leaf (first ∷ second ∷ pairs) pair one is = absurd (omega arith)
