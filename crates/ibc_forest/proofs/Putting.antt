-- Other leaves at places of a tree.
use Rattle.std.proofs.Common.{◌≡◌, ◌≢◌, ℕ, ◌+◌, ◌*◌, ◌<◌, ◌≤◌, Bool, true, false, List, [], ◌∷◌, ◌++◌, length, get_or, set, drop, take, refl, sym, ap, ap₂, ◌∙◌, subst, arith, Vec, append_assoc, append-nil, length-append, length-drop, length-take-le, take_all}
use Rattle.std.proofs.lemmas.Bool.{ne_eqb}
use Rattle.std.proofs.lemmas.List.{drop_more, drop_all, take_more, map_push, get_or_at, set_at}
use Rattle.std.specs.declared.alloc.Global.{Global}
use Rattle.ibc_merkle.specs.Tree.{Tree}
use Rattle.ibc_forest.specs.Leaves.{differ_count, differing_count}
use Rattle.ibc_forest.specs.NodeLevels.{IsPyramid, with_replaced, rows_of, first_row, HasLevelsOver}
use Rattle.ibc_forest.proofs.LeafRows.{unlike_not}

pub first_replaced : (trees : List Tree) (rows : List (List ℕ)) (index node : ℕ) (above : List ℕ) → IsPyramid trees rows
    → first_row (with_replaced rows index (node ∷ above)) ≡ set (first_row rows) index node
first_replaced trees [] index node above pyramid = absurd (omega arith)
first_replaced trees (row ∷ rows) index node above pyramid = refl

pub unlike_so : (number other : ℕ) → number ≢ other → differ_count number other ≡ 1
unfolding differ_count
unlike_so number other different = ap (λ (b : Bool). elim b [ true ↦ 0 | false ↦ 1 ]) (ne_eqb number other different)

pub no_times : (number other levels : ℕ) → number ≡ other → differ_count number other * levels ≡ 0
no_times number other levels same = ap (λ n. n * levels) (unlike_not number other same) ∙ (let e : 0 * levels ≡ 0 = omega arith in e)

pub one_time : (number other levels : ℕ) → number ≢ other → differ_count number other * levels ≡ levels
one_time number other levels different = ap (λ n. n * levels) (unlike_so number other different) ∙ (let e : 1 * levels ≡ levels = omega arith in e)

-- ---- one place more

pub differing_more : (row old : List ℕ) (i : ℕ) → i < length row → length row ≡ length old
    → differing_count (drop i row) (drop i old) ≡ differ_count (get_or row i 0) (get_or old i 0) + differing_count (drop (i + 1) row) (drop (i + 1) old)
differing_more row old i l same = ap₂ differing_count (drop_more row i 0 l) (drop_more old i 0 (omega arith))

pub differing_more_times : (row old : List ℕ) (i levels : ℕ) → i < length row → length row ≡ length old
    → differing_count (drop i row) (drop i old) * levels ≡ differ_count (get_or row i 0) (get_or old i 0) * levels + differing_count (drop (i + 1) row) (drop (i + 1) old) * levels
differing_more_times row old i levels l same =
    ap (λ n. n * levels) (differing_more row old i l same)
    ∙ (let share : (a b : ℕ) → (a + b) * levels ≡ a * levels + b * levels = λ a b. omega arith in share (differ_count (get_or row i 0) (get_or old i 0)) (differing_count (drop (i + 1) row) (drop (i + 1) old)))

pub put_one : (row old now : List ℕ) (i : ℕ) → i < length row → length row ≡ length old → now ≡ take i row ++ drop i old
    → (length now ≡ length old) × (get_or now i 0 ≡ get_or old i 0) × (set now i (get_or row i 0) ≡ take (i + 1) row ++ drop (i + 1) old)
put_one row old now i l same is =
    let counted : length (take i row) ≡ i = length-take-le i row (omega arith) in
    let opened : now ≡ take i row ++ get_or old i 0 ∷ drop (i + 1) old = is ∙ ap (λ xs. take i row ++ xs) (drop_more old i 0 (omega arith)) in
    let lengths = ap length is in
    let both = length-append (take i row) (drop i old) in
    let rest = length-drop i old in (
      omega arith,
      ap (λ xs. get_or xs i 0) opened ∙ get_or_at (take i row) (get_or old i 0) (drop (i + 1) old) 0 i counted,
      ap (λ xs. set xs i (get_or row i 0)) opened
          ∙ set_at (take i row) (get_or old i 0) (drop (i + 1) old) (get_or row i 0) i counted
          ∙ sym (append_assoc (take i row) (get_or row i 0 ∷ []) (drop (i + 1) old))
          ∙ ap (λ xs. xs ++ drop (i + 1) old) (sym (take_more row i 0 l)),
    )

pub put_all : (row old now : List ℕ) (i : ℕ) → length row ≤ i → length row ≡ length old → now ≡ take i row ++ drop i old → now ≡ row
put_all row old now i past same is =
    is ∙ ap₂ (λ xs ys. xs ++ ys) (take_all i row past) (drop_all i old (omega arith)) ∙ append-nil row

-- ---- rows

pub raised_none : (trees : List Tree) (none rows : List (Vec ℕ Global)) (row : List ℕ) → none ≡ [] → HasLevelsOver trees none row rows → IsPyramid trees (rows_of rows) × (first_row (rows_of rows) ≡ row)
raised_none trees none rows row is raised =
    let all : rows_of rows ≡ row ∷ rows_of raised.above = raised.added ∙ ap (λ none. rows_of none ++ row ∷ rows_of raised.above) is in
    (subst (IsPyramid trees) (sym all) raised.levels, ap first_row all)

pub copied_row : (rows copy after : List (Vec ℕ Global)) (i : ℕ) (row its : Vec ℕ Global) → i < length rows → rows_of copy ≡ rows_of (take i rows) → row ≡ get_or rows i row
    → its.items ≡ row.items → after ≡ copy ++ its ∷ [] → rows_of after ≡ rows_of (take (i + 1) rows)
copied_row rows copy after i row its l so_far is same pushed =
    let items = λ (row : Vec ℕ Global). row.items in
    ap rows_of pushed
    ∙ map_push items copy its
    ∙ ap₂ (λ (xs : List (List ℕ)) (x : List ℕ). xs ++ x ∷ []) so_far same
    ∙ sym (map_push items (take i rows) row)
    ∙ ap (λ (row : Vec ℕ Global). rows_of (take i rows ++ row ∷ [])) is
    ∙ sym (ap rows_of (take_more rows i row l))
