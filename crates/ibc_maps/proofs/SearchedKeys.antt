-- A key among sorted pairs, by the place that a binary search finds.
use Rattle.std.proofs.Common.{◌≡◌, ℕ, zero, suc, ◌+◌, ◌<◌, ◌≤◌, true, List, [], ◌∷◌, ◌++◌, length, get_or, set, take, drop, refl, sym, ap, ◌∙◌, subst, arith, add-one, take-append-drop, cond, is_eq, Ordering, Less, Equal, Greater, is_lt, Some, None}
use Rattle.std.specs.Ordering.{ordering_index}
use Rattle.std.specs.Cmp.{IsTotalOrder, tied_back}
use Rattle.std.specs.List.{insert, remove}
use Rattle.std.specs.List.Sorted.{IsNonDecreasingBy, IsSortedBy, IsPartitionPoint}
use Rattle.std.specs.FinMap.{is_sorted}
use Rattle.std.proofs.lemmas.List.Sorted.{searchable_from_sorted}
use Rattle.ibc_ids.specs.Maps.{Map, at, with, without}
use Rattle.ibc_maps.specs.Sides.{AllBelow, AllAbove}
use Rattle.ibc_maps.proofs.Sorted.{AreRising, rising_from_sorted, before_is_below, greater_from, less_from, below_tied, at-behind, at-none}
use Rattle.ibc_maps.proofs.Edits.{with-here, without-here, with-gap, without-gap, again_is_sorted, between_is_sorted, middle_is_sorted}

-- ---- a list at an index

pub parts_at : {A : Type 0} (es : List A) (i : ℕ) (x : A) → i < length es → x ≡ get_or es i x → es ≡ take i es ++ x ∷ drop (suc i) es
parts_at [] i x l is = absurd (omega arith)
parts_at (e ∷ es) zero x l is = ap (λ y. y ∷ es) (sym is)
parts_at (e ∷ es) (suc i) x l is = ap (λ ys. e ∷ ys) (parts_at es i x (omega arith) is)

pub set_parts : {A : Type 0} (es : List A) (i : ℕ) (y : A) → i < length es → set es i y ≡ take i es ++ y ∷ drop (suc i) es
set_parts [] i y l = absurd (omega arith)
set_parts (e ∷ es) zero y l = refl
set_parts (e ∷ es) (suc i) y l = ap (λ ys. e ∷ ys) (set_parts es i y (omega arith))

module _ {K V : Type 0} {order : K → K → Ordering} (total : IsTotalOrder order) where
  -- ---- sorted pairs can be searched

  above_at : (key : K) (es : Map K V) (j : ℕ) (d : K × V) → AllAbove order key es → j < length es → order key (get_or es j d).0 ≡ Less
  above_at key [] j d h l = absurd (omega arith)
  above_at key (e ∷ es) zero d h l = h.0
  above_at key (e ∷ es) (suc j) d h l = above_at key es j d h.1 (omega arith)

  rises : (es : Map K V) (k : ℕ) (d : K × V) → AreRising order es → k + 1 < length es → order (get_or es k d).0 (get_or es (suc k) d).0 ≡ Less
  rises [] k d h l = absurd (omega arith)
  rises (e ∷ es) zero d h l = above_at e.0 es zero d h.0 (omega arith)
  rises (e ∷ es) (suc k) d h l = rises es k d h.1 (omega arith)

  sorted_by : (es : Map K V) → AreRising order es → IsSortedBy (λ (a b : K × V). is_lt (order a.0 b.0)) es
  sorted_by es h =
      λ k d _ l. rw add-one (ap is_lt (greater_from total (get_or es k d).0 (get_or es (suc k) d).0 (rises es k d h l)))

  pub searchable : (es : Map K V) (key : K) → is_sorted order es ≡ true → IsNonDecreasingBy (λ (e : K × V). ordering_index (order e.0 key)) es
  searchable es key sorted = searchable_from_sorted total (λ (e : K × V). e.0) es key (sorted_by es (rising_from_sorted order es sorted))

  -- ---- where the key is

  record IsFound (es : Map K V) (key : K) (i : ℕ) (x : K × V) : Type 0 where
    pub parts : es ≡ take i es ++ x ∷ drop (suc i) es
    pub below : AllBelow order key (take i es)
    pub here : order key x.0 ≡ Equal

  found : (es : Map K V) (key : K) (i : ℕ) (x : K × V) → is_sorted order es ≡ true → i < length es → x ≡ get_or es i x → order (get_or es i x).0 key ≡ Equal → IsFound es key i x
  found es key i x sorted l is equal =
      let parts = parts_at es i x l is in
      let here = tied_back total x.0 key (ap (λ (y : K × V). order y.0 key) is ∙ equal) in
      record {
        parts = parts;
        below = below_tied total key x.0 (take i es) here (before_is_below order (take i es) x (drop (suc i) es) (subst (AreRising order) parts (rising_from_sorted order es sorted)));
        here = here;
      }

  pub found-at : (es : Map K V) (key : K) (i : ℕ) (x : K × V) → is_sorted order es ≡ true → i < length es → x ≡ get_or es i x → order (get_or es i x).0 key ≡ Equal
      → Some x.1 ≡ at order key es
  found-at es key i x sorted l is equal =
      let w = found es key i x sorted l is equal in
      let high = drop (suc i) es in
      sym (ap (at order key) w.parts ∙ at-behind total key (take i es) (x ∷ high) w.below ∙ ap (λ o. cond (is_eq o) (Some x.1) (at order key high)) w.here)

  pub found-with : (es : Map K V) (key : K) (i : ℕ) (x : K × V) (value : V) → is_sorted order es ≡ true → i < length es → x ≡ get_or es i x → order (get_or es i x).0 key ≡ Equal
      → set es i (x.0, value) ≡ with order key value es
  found-with es key i x value sorted l is equal =
      let w = found es key i x sorted l is equal in
      set_parts es i (x.0, value) l ∙ sym (ap (with order key value) w.parts ∙ with-here total (take i es) x (drop (suc i) es) key value w.below w.here)

  pub set_is_sorted : (es : Map K V) (i : ℕ) (x : K × V) (value : V) → is_sorted order es ≡ true → i < length es → x ≡ get_or es i x → is_sorted order (set es i (x.0, value)) ≡ true
  set_is_sorted es i x value sorted l is =
      ap (is_sorted order) (set_parts es i (x.0, value) l) ∙ again_is_sorted order (take i es) x (drop (suc i) es) value (sym (ap (is_sorted order) (parts_at es i x l is)) ∙ sorted)

  pub found-without : (es : Map K V) (key : K) (i : ℕ) (x : K × V) → is_sorted order es ≡ true → i < length es → x ≡ get_or es i x → order (get_or es i x).0 key ≡ Equal
      → remove es i ≡ without order key es
  found-without es key i x sorted l is equal =
      let w = found es key i x sorted l is equal in
      sym (ap (without order key) w.parts ∙ without-here total (take i es) x (drop (suc i) es) key w.below w.here)

  pub remove_is_sorted : (es : Map K V) (i : ℕ) (x : K × V) → is_sorted order es ≡ true → i < length es → x ≡ get_or es i x → is_sorted order (remove es i) ≡ true
  remove_is_sorted es i x sorted l is =
      middle_is_sorted order (take i es) x (drop (suc i) es) (sym (ap (is_sorted order) (parts_at es i x l is)) ∙ sorted)

  -- ---- where the key isn't

  -- what a search that misses says of the pairs before and behind the place
  abbrev pub IsGap : Map K V → K → ℕ → Type 0
  IsGap es key i = IsPartitionPoint (λ (e : K × V). order e.0 key ≡ Less) (λ (e : K × V). order e.0 key ≡ Greater) es i

  gap_below : (es : Map K V) (key : K) (i : ℕ) → ((k : ℕ) (d : K × V) → k < i → order (get_or es k d).0 key ≡ Less) → i ≤ length es → AllBelow order key (take i es)
  gap_below es key zero h l = tt
  gap_below [] key (suc i) h l = absurd (omega arith)
  gap_below (e ∷ es) key (suc i) h l = (h 0 e (omega arith), gap_below es key i (λ k d below. h (suc k) d (omega arith)) (omega arith))

  all_above : (es : Map K V) (key : K) → ((k : ℕ) (d : K × V) → k < length es → order (get_or es k d).0 key ≡ Greater) → AllAbove order key es
  all_above [] key h = tt
  all_above (e ∷ es) key h = (less_from total e.0 key (h 0 e (omega arith)), all_above es key (λ k d below. h (suc k) d (omega arith)))

  gap_above : (es : Map K V) (key : K) (i : ℕ) → ((k : ℕ) (d : K × V) → i ≤ k → k < length es → order (get_or es k d).0 key ≡ Greater) → AllAbove order key (drop i es)
  gap_above es key zero h = all_above es key (λ k d below. h k d (omega arith) below)
  gap_above [] key (suc i) h = tt
  gap_above (e ∷ es) key (suc i) h = gap_above es key i (λ k d le below. h (suc k) d (omega arith) (omega arith))

  gap_is_below : (es : Map K V) (key : K) (i : ℕ) → i ≤ length es → IsGap es key i → AllBelow order key (take i es)
  gap_is_below es key i l gap = gap_below es key i (λ k d below. gap.0 k d (omega arith) below) l

  gap_is_above : (es : Map K V) (key : K) (i : ℕ) → IsGap es key i → AllAbove order key (drop i es)
  gap_is_above es key i gap = gap_above es key i (λ k d le below. gap.1 k d le below)

  pub gap-at : (es : Map K V) (key : K) (i : ℕ) → i ≤ length es → IsGap es key i → None ≡ at order key es
  gap-at es key i l gap =
      sym (ap (at order key) (sym (take-append-drop i es)) ∙ at-behind total key (take i es) (drop i es) (gap_is_below es key i l gap) ∙ at-none total key (drop i es) (gap_is_above es key i gap))

  pub gap-with : (es : Map K V) (key : K) (value : V) (i : ℕ) → i ≤ length es → IsGap es key i → insert es i (key, value) ≡ with order key value es
  gap-with es key value i l gap =
      sym (ap (with order key value) (sym (take-append-drop i es)) ∙ with-gap total (take i es) (drop i es) key value (gap_is_below es key i l gap) (gap_is_above es key i gap))

  pub insert_is_sorted : (es : Map K V) (key : K) (value : V) (i : ℕ) → is_sorted order es ≡ true → i ≤ length es → IsGap es key i → is_sorted order (insert es i (key, value)) ≡ true
  insert_is_sorted es key value i sorted l gap =
      between_is_sorted order (take i es) (drop i es) key value (ap (is_sorted order) (take-append-drop i es) ∙ sorted) (gap_is_below es key i l gap) (gap_is_above es key i gap)

  pub gap-without : (es : Map K V) (key : K) (i : ℕ) → i ≤ length es → IsGap es key i → es ≡ without order key es
  gap-without es key i l gap =
      sym (ap (without order key) (sym (take-append-drop i es)) ∙ without-gap total (take i es) (drop i es) key (gap_is_below es key i l gap) (gap_is_above es key i gap) ∙ take-append-drop i es)
