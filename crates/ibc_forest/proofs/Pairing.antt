-- Rows of nodes as nodes come.
use Rattle.std.proofs.Common.{◌≡◌, ℕ, zero, suc, ◌+◌, ◌-◌, ◌*◌, ◌/◌, ◌%◌, ◌<◌, ◌≤◌, List, [], ◌∷◌, ◌++◌, length, get_or, take, drop, refl, sym, ap, ap₂, ◌∙◌, subst, arith, length-append, append_assoc, append-nil}
use Rattle.std.proofs.lemmas.List.{length-map, length-drop, map-append, drop-map, drop_more, drop_all}
use Rattle.std.proofs.lemmas.List.Elements.{All-head, All-tail, All-append, All-drop, All-weaker}
use Rattle.ibc_merkle.specs.Tree.{Tree, Node}
use Rattle.ibc_forest.specs.Levels.{pair_up, tree_over, tree_at, trees_at}
use Rattle.ibc_forest.specs.Nodes.{Grows}
use Rattle.ibc_forest.specs.NodeLevels.{AreFirstAbove, Stand}
use Rattle.ibc_forest.proofs.Arenas.{tree_at-append}
use Rattle.ibc_forest.proofs.Levels.{over-pair_up, length-pair_up}

-- ---- trees stay

pub grows_not : (trees : List Tree) → Grows trees trees
grows_not trees = ([], sym (append-nil trees))

pub grows_on : (a b c : List Tree) → Grows a b → Grows b c → Grows a c
grows_on a b c g h = (g.0 ++ h.0, h.1 ∙ ap (λ xs. xs ++ h.0) g.1 ∙ append_assoc a g.0 h.0)

pub grows_longer : (a b : List Tree) → Grows a b → length a ≤ length b
grows_longer a b g = let counted = ap length g.1 ∙ length-append a g.0 in omega arith

pub tree_at-grows : (a b : List Tree) (i : ℕ) → Grows a b → i < length a → tree_at b i ≡ tree_at a i
tree_at-grows a b i g l = ap (λ trees. tree_at trees i) g.1 ∙ tree_at-append a g.0 i l

pub stand-grows : (a b : List Tree) (row : List ℕ) → Grows a b → Stand a row → Stand b row
stand-grows a b row g all = All-weaker (λ n. n < length a) (λ n. n < length b) (λ n l. let longer = grows_longer a b g in omega arith) row all

pub trees_at-grows : (a b : List Tree) (row : List ℕ) → Grows a b → Stand a row → trees_at b row ≡ trees_at a row
trees_at-grows a b [] g all = refl
trees_at-grows a b (n ∷ row) g all =
    ap₂ ◌∷◌ (tree_at-grows a b n g (All-head (λ n. n < length a) n row all)) (trees_at-grows a b row g (All-tail (λ n. n < length a) n row all))

-- ---- pairs so far

-- what is paired so far, and what is left to pair
pub record Paired (trees : List Tree) (before : List Tree) (row above : List ℕ) (i : ℕ) : Type 0 where
  pub stand : Stand trees above
  pub level : trees_at trees above ++ pair_up (trees_at before (drop (2 * i) row)) ≡ pair_up (trees_at before row)
  pub counted : length above ≡ i

abbrev pub double : ℕ → ℕ
double zero = zero
double (suc n) = suc (suc (double n))

pub double_is : (n : ℕ) → double n ≡ 2 * n
double_is zero = refl
double_is (suc n) = let rest = double_is n in omega arith

pair_up_split : (n : ℕ) (trees : List Tree) → pair_up (take (double n) trees) ++ pair_up (drop (double n) trees) ≡ pair_up trees
pair_up_split zero trees = refl
pair_up_split (suc n) [] = refl
pair_up_split (suc n) (tree ∷ []) = refl
pair_up_split (suc n) (left ∷ right ∷ trees) = ap (λ rest. Node left right ∷ rest) (pair_up_split n trees)

take_pair_up : (n : ℕ) (trees : List Tree) → double n ≤ length trees → take n (pair_up trees) ≡ pair_up (take (double n) trees)
take_pair_up zero trees l = refl
take_pair_up (suc n) [] l = absurd (omega arith)
take_pair_up (suc n) (tree ∷ []) l = absurd (omega arith)
take_pair_up (suc n) (left ∷ right ∷ trees) l = ap (λ rest. Node left right ∷ rest) (take_pair_up n trees (omega arith))

-- the first nodes above a row, of which there are so many
pub take-pair_up : (n : ℕ) (trees : List Tree) → 2 * n ≤ length trees → take n (pair_up trees) ≡ pair_up (take (2 * n) trees)
take-pair_up n trees l = let is = double_is n in take_pair_up n trees (omega arith) ∙ ap (λ m. pair_up (take m trees)) is

-- the first nodes above a row are known
pub paired_known : (trees : List Tree) (row known above : List ℕ) → Stand trees known → trees_at trees known ≡ pair_up (take (2 * length known) (trees_at trees row)) → above ≡ known
    → Paired trees trees row above (length known)
paired_known trees row known above stand is same =
    let n : ℕ = length known in
    subst (λ above. Paired trees trees row above n) (sym same) (record {
      stand = stand;
      level =
          ap₂ (λ xs ys. xs ++ pair_up ys) is (sym (drop-map (tree_at trees) (2 * n) row))
          ∙ subst (λ m. pair_up (take m (trees_at trees row)) ++ pair_up (drop m (trees_at trees row)) ≡ pair_up (trees_at trees row)) (double_is n) (pair_up_split n (trees_at trees row));
      counted = refl;
    })

-- ---- the first nodes above a row, and what is paired so far

pub paired_first : (trees : List Tree) (row above : List ℕ) (i : ℕ) → i ≡ length above → AreFirstAbove trees row above → Paired trees trees row above i
paired_first trees row above i is first = subst (Paired trees trees row above) (sym is) (paired_known trees row above above first.0 first.2 refl)

-- ---- an odd last node goes up as it is

pair_up_short : (trees : List Tree) → length trees ≤ 1 → pair_up trees ≡ trees
pair_up_short [] few = refl
pair_up_short (tree ∷ []) few = refl
pair_up_short (left ∷ right ∷ trees) few = absurd (omega arith)

pub last_even : (row : List ℕ) → length row % 2 ≡ 0 → drop (2 * (length row / 2)) row ≡ []
last_even row even = drop_all (2 * (length row / 2)) row (omega arith)

pub last_odd : (row : List ℕ) → length row % 2 ≡ 1 → drop (2 * (length row / 2)) row ≡ get_or row (length row - 1) 0 ∷ []
last_odd row odd =
    let at : 2 * (length row / 2) ≡ length row - 1 = omega arith in
    ap (λ n. drop n row) at ∙ drop_more row (length row - 1) 0 (omega arith) ∙ ap (λ (xs : List ℕ). get_or row (length row - 1) 0 ∷ xs) (drop_all (length row - 1 + 1) row (omega arith))

-- the row above is whole
pub record PairedAll (trees before : List Tree) (row above : List ℕ) : Type 0 where
  pub level : trees_at trees above ≡ pair_up (trees_at before row)
  pub stand : Stand trees above
  pub counted : length above + length row / 2 ≡ length row

pub paired_end : (before trees : List Tree) (row above all : List ℕ) (i : ℕ) → Paired trees before row above i → i ≡ length row / 2 → Grows before trees → Stand before row
    → all ≡ above ++ drop (2 * (length row / 2)) row → PairedAll trees before row all
paired_end before trees row above all i paired half grows stand is =
    let rest : List ℕ = drop (2 * (length row / 2)) row in
    let counted = length-drop (2 * (length row / 2)) row in
    let there : Stand before rest = All-drop (λ n. n < length before) (2 * (length row / 2)) row stand in
    let short : pair_up (trees_at before rest) ≡ trees_at before rest = pair_up_short (trees_at before rest) (let n = length-map rest (tree_at before) in omega arith) in
    record {
      level =
          ap (trees_at trees) is
          ∙ map-append (tree_at trees) above rest
          ∙ ap (λ ts. trees_at trees above ++ ts) (trees_at-grows before trees rest grows there ∙ sym short)
          ∙ ap (λ n. trees_at trees above ++ pair_up (trees_at before (drop (2 * n) row))) (sym half)
          ∙ paired.level;
      stand = subst (Stand trees) (sym is) (All-append (λ n. n < length trees) above rest paired.stand (stand-grows before trees rest grows there));
      counted = let a = ap length is in let b = length-append above rest in let c = paired.counted in omega arith;
    }

-- ---- the tree over a row

pub over_one : (trees : List Tree) (row : List ℕ) (number : ℕ) → length row ≡ 1 → number ≡ get_or row 0 number → tree_at trees number ≡ tree_over (trees_at trees row)
over_one trees [] number one is = absurd (omega arith)
over_one trees (only ∷ []) number one is = ap (tree_at trees) is
over_one trees (only ∷ next ∷ row) number one is = absurd (omega arith)

pub over_above : (before trees : List Tree) (row above : List ℕ) → trees_at trees above ≡ pair_up (trees_at before row) → 0 < length row → tree_over (trees_at trees above) ≡ tree_over (trees_at before row)
over_above before trees row above level some =
    ap tree_over level ∙ over-pair_up (trees_at before row) (let n : length (trees_at before row) ≡ length row = length-map row (tree_at before) in omega arith)

pub above_some : (before trees : List Tree) (row above : List ℕ) → trees_at trees above ≡ pair_up (trees_at before row) → length row ≤ 2 * length above
above_some before trees row above level =
    let a : length (trees_at trees above) ≡ length above = length-map above (tree_at trees) in
    let b : length (trees_at before row) ≡ length row = length-map row (tree_at before) in
    let counted = (length-pair_up (trees_at before row)).0 in
    let e = ap length level in
    omega arith
