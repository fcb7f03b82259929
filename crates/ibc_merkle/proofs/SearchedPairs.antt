-- A key among sorted pairs, by the place that a binary search finds.
use Rattle.std.proofs.Common.{◌≡◌, ℕ, zero, suc, ◌+◌, ◌<◌, ◌≤◌, true, List, [], ◌∷◌, ◌++◌, length, get_or, set, take, drop, refl, sym, ap, ◌∙◌, subst, arith, add-one, take-append-drop, cond, is_eq, Less, Equal, Greater, is_lt, Some, None}
use Rattle.std.specs.Ordering.{ordering_index}
use Rattle.std.specs.List.{insert, remove}
use Rattle.std.specs.List.Sorted.{IsNonDecreasingBy, IsSortedBy, IsPartitionPoint}
use Rattle.std.specs.FinMap.{is_sorted}
use Rattle.std.proofs.lemmas.List.Sorted.{searchable_from_sorted}
use Rattle.ibc_ids.specs.Texts.{Text, text_cmp}
use Rattle.ibc_ids.specs.Maps.{at, with, without}
use Rattle.ibc_ids.proofs.Texts.{text_cmp_total, text_tied, text_ties}
use Rattle.ibc_merkle.specs.Tree.{Pairs}
use Rattle.ibc_merkle.proofs.Sorted.{AreRising, AllBelow, AllAbove, rising_from_sorted, before_is_below, greater_from, less_from, at-behind, at-none}
use Rattle.ibc_merkle.proofs.Edits.{with-here, without-here, with-gap, without-gap, again_is_sorted, between_is_sorted, middle_is_sorted}

-- ---- sorted pairs can be searched

above_at : (key : Text) (es : Pairs) (j : ℕ) (d : Text × Text) → AllAbove key es → j < length es → text_cmp key (get_or es j d).0 ≡ Less
above_at key [] j d h l = absurd (omega arith)
above_at key (e ∷ es) zero d h l = h.0
above_at key (e ∷ es) (suc j) d h l = above_at key es j d h.1 (omega arith)

rises : (es : Pairs) (k : ℕ) (d : Text × Text) → AreRising es → k + 1 < length es → text_cmp (get_or es k d).0 (get_or es (suc k) d).0 ≡ Less
rises [] k d h l = absurd (omega arith)
rises (e ∷ es) zero d h l = above_at e.0 es zero d h.0 (omega arith)
rises (e ∷ es) (suc k) d h l = rises es k d h.1 (omega arith)

sorted_by : (es : Pairs) → AreRising es → IsSortedBy (λ (a b : Text × Text). is_lt (text_cmp a.0 b.0)) es
sorted_by es h =
    λ k d _ l. rw add-one (ap is_lt (greater_from (get_or es k d).0 (get_or es (suc k) d).0 (rises es k d h l)))

pub searchable : (es : Pairs) (key : Text) → is_sorted text_cmp es ≡ true → IsNonDecreasingBy (λ (e : Text × Text). ordering_index (text_cmp e.0 key)) es
searchable es key sorted = searchable_from_sorted text_cmp_total (λ (e : Text × Text). e.0) es key (sorted_by es (rising_from_sorted es sorted))

-- ---- a list at an index

pub parts_at : {A : Type 0} (es : List A) (i : ℕ) (x : A) → i < length es → x ≡ get_or es i x → es ≡ take i es ++ x ∷ drop (suc i) es
parts_at [] i x l is = absurd (omega arith)
parts_at (e ∷ es) zero x l is = ap (λ y. y ∷ es) (sym is)
parts_at (e ∷ es) (suc i) x l is = ap (λ ys. e ∷ ys) (parts_at es i x (omega arith) is)

set_parts : {A : Type 0} (es : List A) (i : ℕ) (y : A) → i < length es → set es i y ≡ take i es ++ y ∷ drop (suc i) es
set_parts [] i y l = absurd (omega arith)
set_parts (e ∷ es) zero y l = refl
set_parts (e ∷ es) (suc i) y l = ap (λ ys. e ∷ ys) (set_parts es i y (omega arith))

-- ---- where the key is

record IsFound (es : Pairs) (key : Text) (i : ℕ) (x : Text × Text) : Type 0 where
  pub parts : es ≡ take i es ++ x ∷ drop (suc i) es
  pub below : AllBelow key (take i es)
  pub here : text_cmp key x.0 ≡ Equal

found : (es : Pairs) (key : Text) (i : ℕ) (x : Text × Text) → is_sorted text_cmp es ≡ true → i < length es → x ≡ get_or es i x → text_cmp (get_or es i x).0 key ≡ Equal → IsFound es key i x
found es key i x sorted l is equal =
    let parts = parts_at es i x l is in
    let same : x.0 ≡ key = ap (λ (y : Text × Text). y.0) is ∙ text_tied (get_or es i x).0 key equal in
    record {
      parts = parts;
      below = subst (λ k. AllBelow k (take i es)) same (before_is_below (take i es) x (drop (suc i) es) (subst AreRising parts (rising_from_sorted es sorted)));
      here = subst (λ k. text_cmp k x.0 ≡ Equal) same (text_ties x.0);
    }

pub found-at : (es : Pairs) (key : Text) (i : ℕ) (x : Text × Text) → is_sorted text_cmp es ≡ true → i < length es → x ≡ get_or es i x → text_cmp (get_or es i x).0 key ≡ Equal
    → Some x.1 ≡ at text_cmp key es
found-at es key i x sorted l is equal =
    let w = found es key i x sorted l is equal in
    let high = drop (suc i) es in
    sym (ap (at text_cmp key) w.parts ∙ at-behind key (take i es) (x ∷ high) w.below ∙ ap (λ o. cond (is_eq o) (Some x.1) (at text_cmp key high)) w.here)

pub found-with : (es : Pairs) (key : Text) (i : ℕ) (x : Text × Text) (value : Text) → is_sorted text_cmp es ≡ true → i < length es → x ≡ get_or es i x → text_cmp (get_or es i x).0 key ≡ Equal
    → set es i (x.0, value) ≡ with text_cmp key value es
found-with es key i x value sorted l is equal =
    let w = found es key i x sorted l is equal in
    set_parts es i (x.0, value) l ∙ sym (ap (with text_cmp key value) w.parts ∙ with-here (take i es) x (drop (suc i) es) key value w.below w.here)

pub set_is_sorted : (es : Pairs) (i : ℕ) (x : Text × Text) (value : Text) → is_sorted text_cmp es ≡ true → i < length es → x ≡ get_or es i x → is_sorted text_cmp (set es i (x.0, value)) ≡ true
set_is_sorted es i x value sorted l is =
    ap (is_sorted text_cmp) (set_parts es i (x.0, value) l) ∙ again_is_sorted (take i es) x (drop (suc i) es) value (sym (ap (is_sorted text_cmp) (parts_at es i x l is)) ∙ sorted)

pub found-without : (es : Pairs) (key : Text) (i : ℕ) (x : Text × Text) → is_sorted text_cmp es ≡ true → i < length es → x ≡ get_or es i x → text_cmp (get_or es i x).0 key ≡ Equal
    → remove es i ≡ without text_cmp key es
found-without es key i x sorted l is equal =
    let w = found es key i x sorted l is equal in
    sym (ap (without text_cmp key) w.parts ∙ without-here (take i es) x (drop (suc i) es) key w.below w.here)

pub remove_is_sorted : (es : Pairs) (i : ℕ) (x : Text × Text) → is_sorted text_cmp es ≡ true → i < length es → x ≡ get_or es i x → is_sorted text_cmp (remove es i) ≡ true
remove_is_sorted es i x sorted l is =
    middle_is_sorted (take i es) x (drop (suc i) es) (sym (ap (is_sorted text_cmp) (parts_at es i x l is)) ∙ sorted)

-- ---- where the key isn't

-- what a search that misses says of the pairs before and behind the place
abbrev pub IsGap : Pairs → Text → ℕ → Type 0
IsGap es key i = IsPartitionPoint (λ (e : Text × Text). text_cmp e.0 key ≡ Less) (λ (e : Text × Text). text_cmp e.0 key ≡ Greater) es i

gap_below : (es : Pairs) (key : Text) (i : ℕ) → ((k : ℕ) (d : Text × Text) → k < i → text_cmp (get_or es k d).0 key ≡ Less) → i ≤ length es → AllBelow key (take i es)
gap_below es key zero h l = tt
gap_below [] key (suc i) h l = absurd (omega arith)
gap_below (e ∷ es) key (suc i) h l = (h 0 e (omega arith), gap_below es key i (λ k d below. h (suc k) d (omega arith)) (omega arith))

all_above : (es : Pairs) (key : Text) → ((k : ℕ) (d : Text × Text) → k < length es → text_cmp (get_or es k d).0 key ≡ Greater) → AllAbove key es
all_above [] key h = tt
all_above (e ∷ es) key h = (less_from e.0 key (h 0 e (omega arith)), all_above es key (λ k d below. h (suc k) d (omega arith)))

gap_above : (es : Pairs) (key : Text) (i : ℕ) → ((k : ℕ) (d : Text × Text) → i ≤ k → k < length es → text_cmp (get_or es k d).0 key ≡ Greater) → AllAbove key (drop i es)
gap_above es key zero h = all_above es key (λ k d below. h k d (omega arith) below)
gap_above [] key (suc i) h = tt
gap_above (e ∷ es) key (suc i) h = gap_above es key i (λ k d le below. h (suc k) d (omega arith) (omega arith))

pub gap_is_below : (es : Pairs) (key : Text) (i : ℕ) → i ≤ length es → IsGap es key i → AllBelow key (take i es)
gap_is_below es key i l gap = gap_below es key i (λ k d below. gap.0 k d (omega arith) below) l

pub gap_is_above : (es : Pairs) (key : Text) (i : ℕ) → IsGap es key i → AllAbove key (drop i es)
gap_is_above es key i gap = gap_above es key i (λ k d le below. gap.1 k d le below)

pub gap-at : (es : Pairs) (key : Text) (i : ℕ) → i ≤ length es → IsGap es key i → None ≡ at text_cmp key es
gap-at es key i l gap =
    sym (ap (at text_cmp key) (sym (take-append-drop i es)) ∙ at-behind key (take i es) (drop i es) (gap_is_below es key i l gap) ∙ at-none key (drop i es) (gap_is_above es key i gap))

pub gap-with : (es : Pairs) (key value : Text) (i : ℕ) → i ≤ length es → IsGap es key i → insert es i (key, value) ≡ with text_cmp key value es
gap-with es key value i l gap =
    sym (ap (with text_cmp key value) (sym (take-append-drop i es)) ∙ with-gap (take i es) (drop i es) key value (gap_is_below es key i l gap) (gap_is_above es key i gap))

pub insert_is_sorted : (es : Pairs) (key value : Text) (i : ℕ) → is_sorted text_cmp es ≡ true → i ≤ length es → IsGap es key i → is_sorted text_cmp (insert es i (key, value)) ≡ true
insert_is_sorted es key value i sorted l gap =
    between_is_sorted (take i es) (drop i es) key value (ap (is_sorted text_cmp) (take-append-drop i es) ∙ sorted) (gap_is_below es key i l gap) (gap_is_above es key i gap)

pub gap-without : (es : Pairs) (key : Text) (i : ℕ) → i ≤ length es → IsGap es key i → es ≡ without text_cmp key es
gap-without es key i l gap =
    sym (ap (without text_cmp key) (sym (take-append-drop i es)) ∙ without-gap (take i es) (drop i es) key (gap_is_below es key i l gap) (gap_is_above es key i gap) ∙ take-append-drop i es)
