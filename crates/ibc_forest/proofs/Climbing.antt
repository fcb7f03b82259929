-- Another tree at a place, and one level up.
use Rattle.std.proofs.Common.{◌≡◌, ℕ, zero, suc, ◌+◌, ◌-◌, ◌/◌, ◌%◌, ◌^◌, ◌<◌, ◌≤◌, List, [], ◌∷◌, ◌++◌, length, get_or, set, take, drop, refl, sym, ap, ap₂, ◌∙◌, subst, arith, append_assoc, pow-suc, pow_mono, inl, inr, Vec, Result, Ok, Err, IfOk}
use Rattle.std.proofs.lemmas.Bool.{cases_lt}
use Rattle.std.proofs.lemmas.List.{length-set, length-map, map-set, map_push, get_or-map, take_more_set, drop-set-lt, drop_more}
use Rattle.std.proofs.lemmas.List.Elements.{All-set}
use Rattle.std.specs.declared.alloc.Global.{Global}
use Rattle.ibc_merkle.specs.Tree.{Tree, Leaf, Node}
use Rattle.ibc_forest.specs.Levels.{pair_up, tree_at, trees_at}
use Rattle.ibc_forest.specs.Nodes.{Grows}
use Rattle.ibc_forest.specs.NodeLevels.{Stand, AreLevels, IsPyramid, with_replaced, rows_of, Climbs, IsCeilLog2, first_row}
use Rattle.ibc_forest.proofs.Levels.{double, double-is, length-pair_up}
use Rattle.ibc_forest.proofs.Pairing.{stand-grows, trees_at-grows, tree_at-grows, grows_on, grows_longer}

-- ---- one level up

set_even : (h : ℕ) (ts : List Tree) (t d : Tree) → suc (double h) < length ts → pair_up (set ts (double h) t) ≡ set (pair_up ts) h (Node t (get_or ts (suc (double h)) d))
set_even h [] t d l = absurd (omega arith)
set_even h (a ∷ []) t d l = absurd (omega arith)
set_even zero (a ∷ b ∷ ts) t d l = refl
set_even (suc h) (a ∷ b ∷ ts) t d l = ap (λ xs. Node a b ∷ xs) (set_even h ts t d (omega arith))

set_last : (h : ℕ) (ts : List Tree) (t : Tree) → suc (double h) ≡ length ts → pair_up (set ts (double h) t) ≡ set (pair_up ts) h t
set_last h [] t l = absurd (omega arith)
set_last zero (a ∷ []) t l = refl
set_last (suc h) (a ∷ []) t l = absurd (omega arith)
set_last zero (a ∷ b ∷ ts) t l = absurd (omega arith)
set_last (suc h) (a ∷ b ∷ ts) t l = ap (λ xs. Node a b ∷ xs) (set_last h ts t (omega arith))

set_odd : (h : ℕ) (ts : List Tree) (t d : Tree) → suc (double h) < length ts → pair_up (set ts (suc (double h)) t) ≡ set (pair_up ts) h (Node (get_or ts (double h) d) t)
set_odd h [] t d l = absurd (omega arith)
set_odd h (a ∷ []) t d l = absurd (omega arith)
set_odd zero (a ∷ b ∷ ts) t d l = refl
set_odd (suc h) (a ∷ b ∷ ts) t d l = ap (λ xs. Node a b ∷ xs) (set_odd h ts t d (omega arith))

-- the tree at a place of a row
pub row_tree : (trees : List Tree) (row : List ℕ) (i : ℕ) → i < length row → get_or (trees_at trees row) i (Leaf [] []) ≡ tree_at trees (get_or row i 0)
row_tree trees row i l = get_or-map (tree_at trees) row i 0 (Leaf [] []) l

pub length-trees_at : (trees : List Tree) (row : List ℕ) → length (trees_at trees row) ≡ length row
length-trees_at trees row = length-map row (tree_at trees)

-- as the code has it
pub above_even : (trees : List Tree) (row : List ℕ) (index node : ℕ) (parent : Tree) → index % 2 ≡ 0 → index + 1 < length row
    → parent ≡ Node (tree_at trees node) (tree_at trees (get_or row (index + 1) 0))
    → pair_up (set (trees_at trees row) index (tree_at trees node)) ≡ set (pair_up (trees_at trees row)) (index / 2) parent
above_even trees row index node parent even l is =
    let h : ℕ = index / 2 in
    let twice = double-is h in
    let place : index ≡ double h = omega arith in
    let counted = length-trees_at trees row in
    ap (λ i. pair_up (set (trees_at trees row) i (tree_at trees node))) place
    ∙ set_even h (trees_at trees row) (tree_at trees node) (Leaf [] []) (omega arith)
    ∙ ap (λ t. set (pair_up (trees_at trees row)) h (Node (tree_at trees node) t))
    (ap (λ i. get_or (trees_at trees row) i (Leaf [] [])) (let e : suc (double h) ≡ index + 1 = omega arith in e) ∙ row_tree trees row (index + 1) l)
    ∙ ap (λ t. set (pair_up (trees_at trees row)) h t) (sym is)

pub above_odd : (trees : List Tree) (row : List ℕ) (index node : ℕ) (parent : Tree) → index % 2 ≡ 1 → index < length row
    → parent ≡ Node (tree_at trees (get_or row (index - 1) 0)) (tree_at trees node)
    → pair_up (set (trees_at trees row) index (tree_at trees node)) ≡ set (pair_up (trees_at trees row)) (index / 2) parent
above_odd trees row index node parent odd l is =
    let h : ℕ = index / 2 in
    let twice = double-is h in
    let place : index ≡ suc (double h) = omega arith in
    let counted = length-trees_at trees row in
    ap (λ i. pair_up (set (trees_at trees row) i (tree_at trees node))) place
    ∙ set_odd h (trees_at trees row) (tree_at trees node) (Leaf [] []) (omega arith)
    ∙ ap (λ t. set (pair_up (trees_at trees row)) h (Node t (tree_at trees node)))
    (ap (λ i. get_or (trees_at trees row) i (Leaf [] [])) (let e : double h ≡ index - 1 = omega arith in e) ∙ row_tree trees row (index - 1) (omega arith))
    ∙ ap (λ t. set (pair_up (trees_at trees row)) h t) (sym is)

pub above_last : (trees : List Tree) (row : List ℕ) (index node : ℕ) → index % 2 ≡ 0 → index + 1 ≡ length row
    → pair_up (set (trees_at trees row) index (tree_at trees node)) ≡ set (pair_up (trees_at trees row)) (index / 2) (tree_at trees node)
above_last trees row index node even l =
    let h : ℕ = index / 2 in
    let twice = double-is h in
    let place : index ≡ double h = omega arith in
    let counted = length-trees_at trees row in
    ap (λ i. pair_up (set (trees_at trees row) i (tree_at trees node))) place ∙ set_last h (trees_at trees row) (tree_at trees node) (omega arith)

-- ---- levels

pub levels-grows : (a b : List Tree) (row : List ℕ) (rows : List (List ℕ)) → Grows a b → Stand a row → AreLevels a row rows → AreLevels b row rows
levels-grows a b row [] g stand levels = levels
levels-grows a b row (above ∷ rows) g stand levels = (
  levels.0,
  stand-grows a b above g levels.1,
  trees_at-grows a b above g levels.1 ∙ levels.2 ∙ ap pair_up (sym (trees_at-grows a b row g stand)),
  levels-grows a b above rows g levels.1 levels.3,
)

-- how many levels there are above n nodes
levels_power : (trees : List Tree) (row : List ℕ) (rows : List (List ℕ)) → AreLevels trees row rows → length row ≤ 2 ^ length rows
levels_power trees row [] levels = let one : length row ≡ 1 = levels in omega arith
levels_power trees row (above ∷ rows) levels =
    let h = levels_power trees above rows levels.3 in
    let a = length-trees_at trees above in
    let b = length-trees_at trees row in
    let e = ap length levels.2 in
    let counted = (length-pair_up (trees_at trees row)).0 in
    rw pow-suc (omega arith)

levels_least : (trees : List Tree) (row above : List ℕ) (rows : List (List ℕ)) → AreLevels trees row (above ∷ rows) → 2 ^ length rows < length row
levels_least trees row above [] levels = levels.0
levels_least trees row above (next ∷ rows) levels =
    let h = levels_least trees above next rows levels.3 in
    let a = length-trees_at trees above in
    let b = length-trees_at trees row in
    let e = ap length levels.2 in
    let counted = (length-pair_up (trees_at trees row)).1 in
    rw pow-suc (omega arith)

pub levels_log : (trees : List Tree) (row : List ℕ) (rows : List (List ℕ)) → AreLevels trees row rows → IsCeilLog2 (length row) (length rows)
levels_log trees row [] levels = record { enough = levels_power trees row [] levels; least = λ other l. omega arith }
levels_log trees row (above ∷ rows) levels = record {
  enough = levels_power trees row (above ∷ rows) levels;
  least = λ other l.
      elim (cases_lt other (suc (length rows))) [
        | inl less ↦
            let low = levels_least trees row above rows levels in
            let mono : 2 ^ other ≤ 2 ^ length rows = pow_mono (let le : other ≤ length rows = omega arith in le) in
            absurd (omega arith)
        | inr le ↦ le
      ];
}

-- ---- as steps of the code

pub if_ok : {T E : Type 0} (r : Result T E) (P Q : T → Type 0) → ((x : T) → P x → Q x) → IfOk r P → IfOk r Q
if_ok (Ok x) P Q f h = f x h
if_ok (Err e) P Q f h = h

pub if_both : {T E : Type 0} (r : Result T E) (P Q R : T → Type 0) → ((x : T) → P x → Q x → R x) → IfOk r P → IfOk r Q → IfOk r R
if_both (Ok x) P Q R f p q = f x p q
if_both (Err e) P Q R f p q = p

pub next_levels : (trees middle : List Tree) (rows above : List (Vec ℕ Global)) (index : ℕ) → IsPyramid trees (rows_of rows) → index < length (first_row (rows_of rows))
    → 1 < length rows → above ≡ drop 1 rows → Grows trees middle → IsPyramid middle (rows_of above) × (index / 2 < length (first_row (rows_of above)))
next_levels trees middle [] above index pyramid place more is grows = absurd (omega arith)
next_levels trees middle (row ∷ []) above index pyramid place more is grows = absurd (omega arith)
next_levels trees middle (row ∷ next ∷ rows) above index pyramid place more is grows =
    let levels = pyramid.1 in
    let a = length-trees_at trees next.items in
    let b = length-trees_at trees row.items in
    let e = ap length levels.2 in
    let counted = (length-pair_up (trees_at trees row.items)).0 in
    let half : index / 2 < length next.items = omega arith in
    subst (λ above. IsPyramid middle (rows_of above) × (index / 2 < length (first_row (rows_of above)))) (sym is)
    ((stand-grows trees middle next.items grows levels.1, levels-grows trees middle next.items (rows_of rows) grows levels.1 levels.3), half)

pub first_is : (rows front : List (Vec ℕ Global)) (row : Vec ℕ Global) (slice : List ℕ) → 1 < length rows → front ≡ take 1 rows → row ≡ get_or front 0 row → slice ≡ row.items
    → slice ≡ first_row (rows_of rows)
first_is [] front row slice more is there value = absurd (omega arith)
first_is (first ∷ rows) front row slice more is there value = value ∙ ap (λ (row : Vec ℕ Global). row.items) (there ∙ ap (λ front. get_or front 0 row) is)

pub climbs_on : (trees middle after : List Tree) (rows above : List (Vec ℕ Global)) (index node parent : ℕ) (slice before pushed final : List ℕ)
    → IsPyramid trees (rows_of rows) → index < length (first_row (rows_of rows)) → 1 < length rows → above ≡ drop 1 rows → slice ≡ first_row (rows_of rows)
    → node < length trees → Grows trees middle → Grows middle after → parent < length middle
    → pair_up (set (trees_at trees slice) index (tree_at trees node)) ≡ set (pair_up (trees_at trees slice)) (index / 2) (tree_at middle parent)
    → pushed ≡ before ++ node ∷ [] → Climbs after (rows_of above) (index / 2) parent pushed final → Climbs after (rows_of rows) index node before final
climbs_on trees middle after [] above index node parent slice before pushed final pyramid place more is same there g h within pair added climbs = absurd (omega arith)
climbs_on trees middle after (row ∷ []) above index node parent slice before pushed final pyramid place more is same there g h within pair added climbs = absurd (omega arith)
climbs_on trees middle after (row ∷ next ∷ rows) above index node parent slice before pushed final pyramid place more is same there g h within pair added climbs =
    let w = subst (λ (above : List (Vec ℕ Global)). Climbs after (rows_of above) (index / 2) parent pushed final) is climbs in
    let all = grows_on trees middle after g h in
    let longer = grows_longer trees after all in
    let levels = pyramid.1 in
    let r : List ℕ = row.items in
    let n : List ℕ = next.items in
    let eq : pair_up (set (trees_at trees r) index (tree_at trees node)) ≡ set (pair_up (trees_at trees r)) (index / 2) (tree_at middle parent) =
    subst (λ slice. pair_up (set (trees_at trees slice) index (tree_at trees node)) ≡ set (pair_up (trees_at trees slice)) (index / 2) (tree_at middle parent)) same pair
    in
    let level : trees_at after (set n (index / 2) parent) ≡ pair_up (trees_at after (set r index node)) =
    map-set (tree_at after) n (index / 2) parent
    ∙ ap₂ (λ ts t. set ts (index / 2) t) (trees_at-grows trees after n all levels.1 ∙ levels.2) (tree_at-grows middle after parent h within)
    ∙ sym eq
    ∙ ap pair_up (ap₂ (λ ts t. set ts index t) (sym (trees_at-grows trees after r all pyramid.0)) (sym (tree_at-grows trees after node all there)) ∙ sym (map-set (tree_at after) r index node))
    in
    let counted = w.counted in
    let set_counted = length-set r index node in
    record {
      above = parent ∷ w.above;
      added = w.added ∙ ap (λ xs. xs ++ parent ∷ w.above) added ∙ append_assoc before (node ∷ []) (parent ∷ w.above);
      counted = omega arith;
      levels = (
        All-set (λ n. n < length after) r index node (omega arith) (stand-grows trees after r all pyramid.0),
        ((let l = levels.0 in omega arith), w.levels.0, level, w.levels.1),
      );
    }

pub put_more : (rows after : List (Vec ℕ Global)) (level place : ℕ) (path : List ℕ) (row new : Vec ℕ Global) → level < length rows → level < length path
    → row ≡ get_or rows level row → after ≡ set rows level new → new.items ≡ set row.items place (get_or path level 0)
    → rows_of (take (level + 1) after) ++ with_replaced (rows_of (drop (level + 1) after)) (place / 2) (drop (level + 1) path)
    ≡ rows_of (take level rows) ++ with_replaced (rows_of (drop level rows)) place (drop level path)
put_more rows after level place path row new l m is written its =
    let items = λ (row : Vec ℕ Global). row.items in
    let node = get_or path level 0 in
    let rest = with_replaced (rows_of (drop (level + 1) rows)) (place / 2) (drop (level + 1) path) in
    let taken : take (level + 1) after ≡ take level rows ++ new ∷ [] = ap (take (level + 1)) written ∙ take_more_set rows level new l in
    let dropped : drop (level + 1) after ≡ drop (level + 1) rows = ap (drop (level + 1)) written ∙ drop-set-lt (level + 1) rows level new (omega arith) in
    let opened : drop level rows ≡ row ∷ drop (level + 1) rows = drop_more rows level row l ∙ ap (λ first. first ∷ drop (level + 1) rows) (sym is) in
    let path_opened : drop level path ≡ node ∷ drop (level + 1) path = drop_more path level 0 m in
    ap₂ (λ a b. rows_of a ++ with_replaced (rows_of b) (place / 2) (drop (level + 1) path)) taken dropped
    ∙ ap (λ xs. xs ++ rest) (map_push items (take level rows) new)
    ∙ append_assoc (rows_of (take level rows)) (new.items ∷ []) rest
    ∙ ap (λ first. rows_of (take level rows) ++ first ∷ rest) its
    ∙ sym (ap₂ (λ a b. rows_of (take level rows) ++ with_replaced (rows_of a) place b) opened path_opened)
