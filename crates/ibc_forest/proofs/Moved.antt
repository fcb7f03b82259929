-- What was moved stays moved, and rows and heights that were moved are what they were.
use Rattle.std.proofs.Common.{◌≡◌, ℕ, ◌+◌, ◌<◌, List, [], ◌∷◌, ◌++◌, length, get_or, set, map, take, refl, sym, ap, ap₂, ◌∙◌, subst, arith, inl, inr, Option, Some, None, get_or-set_same, get_or-set_other, Vec}
use Rattle.std.proofs.lemmas.Bool.{cases_eq}
use Rattle.std.proofs.lemmas.List.{length-set, length_push, get_or_push, length-map, get_or-map, map_push, take_more}
use Rattle.std.proofs.lemmas.List.Elements.{All-head, All-tail, All-push, All-weaker, All-cons}
use Rattle.std.specs.declared.alloc.Global.{Global}
use Rattle.std.specs.FinMap.{is_sorted}
use Rattle.ibc_ids.specs.Texts.{text_cmp}
use Rattle.ibc_merkle.specs.Tree.{Pairs, Tree, Leaf, tree, leaves}
use Rattle.ibc_forest.specs.Levels.{pair_up, tree_at, trees_at, leaf_of}
use Rattle.ibc_forest.specs.NodeMoves.{IsMoved, AreMoved, AllStand}
use Rattle.ibc_forest.specs.Nodes.{Grows}
use Rattle.ibc_forest.specs.Heights.{pairs_of}
use Rattle.ibc_forest.specs.NodeLevels.{Stand, AreLevels, rows_of, first_row}
use Rattle.ibc_forest.specs.Leaves.{pair_of, row_pairs}
use Rattle.ibc_forest.specs.Forest.{IsLast, IsSortedHeight, AreSortedHeights, kept_pairs}
use Rattle.ibc_forest.specs.declared.forest.Height.{Height}
use Rattle.ibc_forest.proofs.Climbing.{length-trees_at}
use Rattle.ibc_forest.proofs.Pairing.{tree_at-grows, grows_longer, stand-grows, trees_at-grows}
use Rattle.ibc_forest.proofs.Turning.{kept_pairs-grows}

-- ---- one node more

one-grows : (old a b : List Tree) (number : ℕ) (moved : Option ℕ) → Grows a b → IsMoved old a number moved → IsMoved old b number moved
one-grows old a b number None g is = tt
one-grows old a b number (Some node) g is =
    let longer = grows_longer a b g in
    let there = is.0 in
    (omega arith, tree_at-grows a b node g is.0 ∙ is.1)

pub moved-grows : (old a b : List Tree) (moved : List (Option ℕ)) → Grows a b → AreMoved old a moved → AreMoved old b moved
moved-grows old a b moved g all i d l = one-grows old a b i (get_or moved i d) g (all i d l)

pub moved-set : (old new : List Tree) (moved : List (Option ℕ)) (number node : ℕ) → number < length moved → IsMoved old new number (Some node) → AreMoved old new moved
    → AreMoved old new (set moved number (Some node))
moved-set old new moved number node there is all k d l =
    let counted = length-set moved number (Some node) in
    elim (cases_eq k number) [
      | inl same ↦
          subst (λ k. IsMoved old new k (get_or (set moved number (Some node)) k d)) (sym same)
          (subst (IsMoved old new number) (sym (get_or-set_same moved number (Some node) d there)) is)
      | inr other ↦ subst (IsMoved old new k) (sym (get_or-set_other moved number k (Some node) d other)) (all k d (omega arith))
    ]

-- a node that was added is moved
pub added : (old middle after : List Tree) (tree : Tree) (number node : ℕ) → after ≡ middle ++ tree ∷ [] → node ≡ length middle → tree ≡ tree_at old number
    → (node < length after) × (tree_at after node ≡ tree_at old number)
added old middle after tree number node is at same =
    let counted = ap length is ∙ length_push middle tree in (
      omega arith,
      ap (λ trees. tree_at trees node) is ∙ get_or_push middle tree (Leaf [] []) node (sym at) ∙ same,
    )

-- ---- rows

abbrev tail : List (List Tree) → List (List Tree)
tail [] = []
tail (row ∷ rows) = rows

abbrev head : List (List Tree) → List Tree
head [] = []
head (row ∷ rows) = row

levels_moved : (old new : List Tree) (row row2 : List ℕ) (rows rows2 : List (List ℕ)) → trees_at new row2 ≡ trees_at old row → map (trees_at new) rows2 ≡ map (trees_at old) rows
    → AllStand new rows2 → AreLevels old row rows → AreLevels new row2 rows2
levels_moved old new row row2 [] [] same all stand levels =
    let a = length-trees_at new row2 in
    let b = length-trees_at old row in
    let c = ap length same in
    let one : length row ≡ 1 = levels in
    omega arith
levels_moved old new row row2 [] (above2 ∷ rows2) same all stand levels = let e = ap length all in absurd (omega arith)
levels_moved old new row row2 (above ∷ rows) [] same all stand levels = let e = ap length all in absurd (omega arith)
levels_moved old new row row2 (above ∷ rows) (above2 ∷ rows2) same all stand levels =
    let a = length-trees_at new row2 in
    let b = length-trees_at old row in
    let c = ap length same in
    let more = levels.0 in
    let above_same : trees_at new above2 ≡ trees_at old above = ap head all in (
      omega arith,
      All-head (Stand new) above2 rows2 stand,
      above_same ∙ levels.2 ∙ ap pair_up (sym same),
      levels_moved old new above above2 rows rows2 above_same (ap tail all) (All-tail (Stand new) above2 rows2 stand) levels.3,
    )

-- the levels of a tree are so after a move
pub last_moved : (old new : List Tree) (rows rows2 : List (List ℕ)) → map (trees_at new) rows2 ≡ map (trees_at old) rows → AllStand new rows2 → IsLast old rows
    → IsLast new rows2 × (row_pairs new (first_row rows2) ≡ row_pairs old (first_row rows))
last_moved old new [] [] all stand last = (tt, refl)
last_moved old new [] (row2 ∷ rows2) all stand last = let e = ap length all in absurd (omega arith)
last_moved old new (row ∷ rows) [] all stand last = let e = ap length all in absurd (omega arith)
last_moved old new (row ∷ rows) (row2 ∷ rows2) all stand last =
    let same : trees_at new row2 ≡ trees_at old row = ap head all in
    let pairs : row_pairs new row2 ≡ row_pairs old row = ap (map pair_of) same in (
      (
        (All-head (Stand new) row2 rows2 stand, levels_moved old new row row2 rows rows2 same (ap tail all) (All-tail (Stand new) row2 rows2 stand) last.0.1),
        same ∙ last.1 ∙ ap (map leaf_of) (sym pairs),
      ),
      pairs,
    )

levels_stand : (trees : List Tree) (row : List ℕ) (rows : List (List ℕ)) → AreLevels trees row rows → AllStand trees rows
levels_stand trees row [] levels = λ k d l. absurd (omega arith)
levels_stand trees row (above ∷ rows) levels = All-cons (Stand trees) above rows levels.1 (levels_stand trees above rows levels.3)

pub last_all_stand : (trees : List Tree) (rows : List (List ℕ)) → IsLast trees rows → AllStand trees rows
last_all_stand trees [] last = λ k d l. absurd (omega arith)
last_all_stand trees (row ∷ rows) last = All-cons (Stand trees) row rows last.0.0 (levels_stand trees row rows last.0.1)

pub all_stand-grows : (a b : List Tree) (rows : List (List ℕ)) → Grows a b → AllStand a rows → AllStand b rows
all_stand-grows a b rows g all = All-weaker (Stand a) (Stand b) (λ row stand. stand-grows a b row g stand) rows all

-- ---- one row more

pub map_rows-grows : (a b : List Tree) (rows : List (List ℕ)) → Grows a b → AllStand a rows → map (trees_at b) rows ≡ map (trees_at a) rows
map_rows-grows a b [] g all = refl
map_rows-grows a b (row ∷ rows) g all =
    ap₂ ◌∷◌ (trees_at-grows a b row g (All-head (Stand a) row rows all)) (map_rows-grows a b rows g (All-tail (Stand a) row rows all))

pub row_stands : (trees : List Tree) (rows : List (Vec ℕ Global)) (i : ℕ) (row : Vec ℕ Global) (slice : List ℕ) → i < length rows → row ≡ get_or rows i row → slice ≡ row.items
    → AllStand trees (rows_of rows) → Stand trees slice
row_stands trees rows i row slice l is value all =
    let its = λ (row : Vec ℕ Global). row.items in
    let counted : length (rows_of rows) ≡ length rows = length-map rows its in
    let there : Stand trees (get_or (rows_of rows) i row.items) = all i row.items (omega arith) in
    subst (Stand trees) (get_or-map its rows i row row.items l ∙ ap its (sym is) ∙ sym value) there

pub rows_more : (old before after : List Tree) (rows next pushed : List (Vec ℕ Global)) (i : ℕ) (row copy : Vec ℕ Global) (slice : List ℕ) → i < length rows → row ≡ get_or rows i row
    → slice ≡ row.items → trees_at after copy.items ≡ trees_at old slice → Grows before after → AllStand before (rows_of next)
    → map (trees_at before) (rows_of next) ≡ map (trees_at old) (rows_of (take i rows)) → pushed ≡ next ++ copy ∷ []
    → map (trees_at after) (rows_of pushed) ≡ map (trees_at old) (rows_of (take (i + 1) rows))
rows_more old before after rows next pushed i row copy slice l is value moved g stand so_far items =
    let its = λ (row : Vec ℕ Global). row.items in
    let opened : take (i + 1) rows ≡ take i rows ++ row ∷ [] = take_more rows i row l ∙ ap (λ (r : Vec ℕ Global). take i rows ++ r ∷ []) (sym is) in
    ap (λ (rows : List (Vec ℕ Global)). map (trees_at after) (rows_of rows)) items
    ∙ ap (map (trees_at after)) (map_push its next copy)
    ∙ map_push (trees_at after) (rows_of next) copy.items
    ∙ ap₂ (λ xs ts. xs ++ ts ∷ []) (map_rows-grows before after (rows_of next) g stand ∙ so_far) (moved ∙ ap (trees_at old) value)
    ∙ sym (map_push (trees_at old) (rows_of (take i rows)) row.items)
    ∙ sym (ap (map (trees_at old)) (map_push its (take i rows) row))
    ∙ sym (ap (λ (rows : List (Vec ℕ Global)). map (trees_at old) (rows_of rows)) opened)

pub rows_stand_more : (before after : List Tree) (next pushed : List (Vec ℕ Global)) (copy : Vec ℕ Global) → Grows before after → AllStand before (rows_of next) → Stand after copy.items
    → pushed ≡ next ++ copy ∷ [] → AllStand after (rows_of pushed)
rows_stand_more before after next pushed copy g stand there items =
    let its = λ (row : Vec ℕ Global). row.items in
    subst (AllStand after) (sym (ap rows_of items ∙ map_push its next copy))
    (All-push (Stand after) (rows_of next) copy.items (all_stand-grows before after (rows_of next) g stand) there)

-- the rows that were moved, after more nodes came
pub last_moved_on : (old nodes middle after : List Tree) (rows slice next : List (Vec ℕ Global)) → nodes ≡ old → slice ≡ rows
    → map (trees_at middle) (rows_of next) ≡ map (trees_at nodes) (rows_of slice) → AllStand middle (rows_of next) → Grows middle after → IsLast old (rows_of rows)
    → IsLast after (rows_of next) × (row_pairs after (first_row (rows_of next)) ≡ row_pairs old (first_row (rows_of rows)))
last_moved_on old nodes middle after rows slice next is value same stand g last =
    let both : map (trees_at middle) (rows_of next) ≡ map (trees_at old) (rows_of rows) =
    same ∙ ap₂ (λ (trees : List Tree) (slice : List (Vec ℕ Global)). map (trees_at trees) (rows_of slice)) is value
    in
    last_moved old after (rows_of rows) (rows_of next) (map_rows-grows middle after (rows_of next) g stand ∙ both) (all_stand-grows middle after (rows_of next) g stand) last

-- ---- one height more

pub height_is_moved : (old after : List Tree) (height copy : Height) → tree_at after copy.root ≡ tree_at old height.root → copy.root < length after → copy.count ≡ height.count
    → IsSortedHeight old height → IsSortedHeight after copy
height_is_moved old after height copy same there count kept =
    let pairs : pairs_of after copy.root ≡ pairs_of old height.root = ap leaves same in
    record {
      over = record {
        there = there;
        some = subst (λ n. 0 < n) (sym count) kept.over.some;
        counted = ap length pairs ∙ kept.over.counted ∙ sym count;
        is = same ∙ kept.over.is ∙ ap tree (sym pairs);
      };
      sorted = ap (is_sorted text_cmp) pairs ∙ kept.sorted;
    }

abbrev beside : Pairs → ℕ → Pairs × ℕ
beside pairs time = (pairs, time)

abbrev held : List Tree → Height → Pairs × ℕ
held trees height = (pairs_of trees height.root, height.time)

pub kept_more : (old before after : List Tree) (kept next pushed : List Height) (i : ℕ) (height copy : Height) → i < length kept → height ≡ get_or kept i height
    → tree_at after copy.root ≡ tree_at old height.root → copy.time ≡ height.time → Grows before after → AreSortedHeights before next → kept_pairs before next ≡ kept_pairs old (take i kept)
    → pushed ≡ next ++ copy ∷ [] → kept_pairs after pushed ≡ kept_pairs old (take (i + 1) kept)
kept_more old before after kept next pushed i height copy l is same time g are so_far items =
    let opened : take (i + 1) kept ≡ take i kept ++ height ∷ [] = take_more kept i height l ∙ ap (λ (h : Height). take i kept ++ h ∷ []) (sym is) in
    ap (kept_pairs after) items
    ∙ map_push (held after) next copy
    ∙ ap₂ (λ (xs : List (Pairs × ℕ)) (x : Pairs × ℕ). xs ++ x ∷ []) (kept_pairs-grows before after next g are ∙ so_far) (ap₂ beside (ap leaves same) time)
    ∙ sym (map_push (held old) (take i kept) height)
    ∙ sym (ap (kept_pairs old) opened)
