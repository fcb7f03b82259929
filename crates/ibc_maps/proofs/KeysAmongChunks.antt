-- A key among chunks: the chunk in which it stands or would stand, and a change there.
use Rattle.std.proofs.Common.{◌≡◌, ℕ, zero, suc, ◌+◌, ◌<◌, true, false, List, [], ◌∷◌, ◌++◌, length, get_or, set, take, drop, refl, sym, ap, ◌∙◌, subst, arith, Ordering, Less, Equal, Greater, Some, cond, is_eq}
use Rattle.std.specs.Arc.{arc_value}
use Rattle.std.specs.Cmp.{IsTotalOrder}
use Rattle.std.specs.Ordering.{is_gt, match_ordering, ordering_reverse}
use Rattle.std.specs.FinMap.{is_sorted}
use Rattle.std.specs.List.{AllByRecursion}
use Rattle.ibc_ids.specs.Maps.{Map, at, with, without}
use Rattle.ibc_maps.specs.Sides.{AllBelow, AllAbove}
use Rattle.ibc_maps.proofs.Sorted.{AreRising, rising_from_sorted, before_is_below, less_from, below_tied, at-behind, at-none}
use Rattle.ibc_maps.proofs.Edits.{with-step, without-step, without-above, sorted_from_rising}
use Rattle.ibc_maps.specs.Chunks.{ChunkPairs, joined_chunks, begins_above, HasPairs, IsRow}
use Rattle.ibc_maps.proofs.Orders.{above-less, below-less, rising-right, rising-with, rising-without}
use Rattle.ibc_maps.proofs.PairsInChunks.{one_more, joined-parts, joined-set, same_when_set, has_pairs_at, whole-set}

drop_at : {A : Type 0} (xs : List A) (i : ℕ) (x : A) → i < length xs → x ≡ get_or xs i x → drop i xs ≡ x ∷ drop (suc i) xs
drop_at [] i x l is = absurd (omega arith)
drop_at (y ∷ ys) zero x l is = ap (λ z. z ∷ ys) (sym is)
drop_at (y ∷ ys) (suc i) x l is = drop_at ys i x (omega arith) is

module _ {K V : Type 0} {order : K → K → Ordering} (total : IsTotalOrder order) where
  -- ---- the search

  above_first : (key : K) (low pairs high : Map K V) → AreRising order (low ++ (pairs ++ high)) → begins_above order key pairs ≡ true → AllAbove order key (pairs ++ high)
  above_first key low [] high rising is = absurd (cc is)
  above_first key low (e ∷ es) high rising is =
      let less = less_from total e.0 key (greater (order e.0 key) is) in
      (less, above-less total key e.0 (es ++ high) less (rising-right total low (e ∷ es ++ high) rising).0)
    where
      greater : (o : Ordering) → is_gt o ≡ true → o ≡ Greater
      greater Less h = absurd (cc h)
      greater Equal h = absurd (cc h)
      greater Greater h = refl

  below_first : (key : K) (low pairs high : Map K V) → AreRising order (low ++ (pairs ++ high)) → 0 < length pairs → begins_above order key pairs ≡ false → AllBelow order key low
  below_first key low [] high rising some is = absurd (omega arith)
  below_first key low (e ∷ es) high rising some is = go (order e.0 key) refl is
    where
      before : AllBelow order e.0 low
      before = before_is_below order low e (es ++ high) rising

      go : (o : Ordering) → order e.0 key ≡ o → is_gt o ≡ false → AllBelow order key low
      go Less was h = below-less total key e.0 low was before
      go Equal was h = below_tied total key e.0 low (total.antisymm key e.0 ∙ ap ordering_reverse was) before
      go Greater was h = absurd (cc h)

  rising_parts : (chunks : List (ChunkPairs K V)) (i : ℕ) (chunk : ChunkPairs K V) → IsRow order chunks → i < length chunks → chunk ≡ get_or chunks i chunk
      → AreRising order (joined_chunks (take i chunks) ++ ((arc_value chunk).pairs ++ joined_chunks (drop (suc i) chunks)))
  rising_parts chunks i chunk row l is = subst (AreRising order) (joined-parts chunks i chunk l is) (rising_from_sorted order (joined_chunks chunks) row.sorted)

  -- a chunk that begins above a key, and all behind it
  pub above_from : (chunks : List (ChunkPairs K V)) (key : K) (i : ℕ) (chunk : ChunkPairs K V) → IsRow order chunks → i < length chunks → chunk ≡ get_or chunks i chunk
      → begins_above order key (arc_value chunk).pairs ≡ true → AllAbove order key (joined_chunks (drop i chunks))
  above_from chunks key i chunk row l is begins =
      subst (λ cs. AllAbove order key (joined_chunks cs)) (sym (drop_at chunks i chunk l is))
      (above_first key (joined_chunks (take i chunks)) (arc_value chunk).pairs (joined_chunks (drop (suc i) chunks)) (rising_parts chunks i chunk row l is) begins)

  -- the chunks before one that doesn't begin above a key
  pub below_from : (chunks : List (ChunkPairs K V)) (key : K) (i : ℕ) (chunk : ChunkPairs K V) → IsRow order chunks → i < length chunks → chunk ≡ get_or chunks i chunk
      → begins_above order key (arc_value chunk).pairs ≡ false → AllBelow order key (joined_chunks (take i chunks))
  below_from chunks key i chunk row l is begins =
      below_first key (joined_chunks (take i chunks)) (arc_value chunk).pairs (joined_chunks (drop (suc i) chunks)) (rising_parts chunks i chunk row l is) (has_pairs_at chunks i chunk row.whole l is) begins

  -- ---- between lower and higher pairs

  at-before : (key : K) (pairs high : Map K V) → AllAbove order key high → at order key (pairs ++ high) ≡ at order key pairs
  at-before key [] high above = at-none total key high above
  at-before key (e ∷ es) high above = ap (λ x. cond (is_eq (order key e.0)) (Some e.1) x) (at-before key es high above)

  with-first : (key : K) (value : V) (high : Map K V) → AllAbove order key high → with order key value high ≡ (key, value) ∷ high
  with-first key value [] above = refl
  with-first key value (x ∷ high) above = ap (λ o. match_ordering o ((key, value) ∷ x ∷ high) ((x.0, value) ∷ high) (x ∷ with order key value high)) above.0

  with-before : (key : K) (value : V) (pairs high : Map K V) → AllAbove order key high → with order key value (pairs ++ high) ≡ with order key value pairs ++ high
  with-before key value [] high above = with-first key value high above
  with-before key value (e ∷ es) high above =
      elim (order key e.0) as (λ o. match_ordering o ((key, value) ∷ e ∷ es ++ high) ((e.0, value) ∷ es ++ high) (e ∷ with order key value (es ++ high))
      ≡ match_ordering o ((key, value) ∷ e ∷ es) ((e.0, value) ∷ es) (e ∷ with order key value es) ++ high) [
        | Less ↦ refl
        | Equal ↦ refl
        | Greater ↦ ap (λ rest. e ∷ rest) (with-before key value es high above)
      ]

  with-behind : (key : K) (value : V) (low pairs : Map K V) → AllBelow order key low → with order key value (low ++ pairs) ≡ low ++ with order key value pairs
  with-behind key value [] pairs below = refl
  with-behind key value (x ∷ low) pairs below = with-step total key value x (low ++ pairs) below.0 ∙ ap (λ es. x ∷ es) (with-behind key value low pairs below.1)

  without-before : (key : K) (pairs high : Map K V) → AllAbove order key high → without order key (pairs ++ high) ≡ without order key pairs ++ high
  without-before key [] high above = without-above total high key above
  without-before key (e ∷ es) high above =
      elim (is_eq (order key e.0)) as (λ b. cond b (es ++ high) (e ∷ without order key (es ++ high)) ≡ cond b es (e ∷ without order key es) ++ high) [
        | true ↦ refl
        | false ↦ ap (λ rest. e ∷ rest) (without-before key es high above)
      ]

  without-behind : (key : K) (low pairs : Map K V) → AllBelow order key low → without order key (low ++ pairs) ≡ low ++ without order key pairs
  without-behind key [] pairs below = refl
  without-behind key (x ∷ low) pairs below = without-step total key x (low ++ pairs) below.0 ∙ ap (λ es. x ∷ es) (without-behind key low pairs below.1)

  -- ---- in the chunk of a key

  -- the chunk in which a key stands or would stand
  pub record IsPlace (chunks : List (ChunkPairs K V)) (key : K) (i : ℕ) (chunk : ChunkPairs K V) : Type 0 where
    pub within : i < length chunks
    pub is : chunk ≡ get_or chunks i chunk
    pub below : AllBelow order key (joined_chunks (take i chunks))
    pub above : AllAbove order key (joined_chunks (drop (suc i) chunks))

  -- .. by what a search answers
  pub place_at : (chunks slice : List (ChunkPairs K V)) (key : K) (i : ℕ) (chunk : ChunkPairs K V) → slice ≡ chunks → i < length slice → AllBelow order key (joined_chunks (take i slice))
      → AllAbove order key (joined_chunks (drop (i + 1) slice)) → chunk ≡ get_or chunks i chunk → IsPlace chunks key i chunk
  place_at chunks slice key i chunk same within below above is = record {
    within = subst (λ (cs : List (ChunkPairs K V)). i < length cs) same within;
    is = is;
    below = subst (λ cs. AllBelow order key (joined_chunks (take i cs))) same below;
    above = subst (λ cs. AllAbove order key (joined_chunks (drop (suc i) cs))) same (subst (λ n. AllAbove order key (joined_chunks (drop n slice))) (one_more i) above);
  }

  module _ (chunks : List (ChunkPairs K V)) (key : K) (i : ℕ) (chunk : ChunkPairs K V) (p : IsPlace chunks key i chunk) where
    parts : joined_chunks chunks ≡ joined_chunks (take i chunks) ++ ((arc_value chunk).pairs ++ joined_chunks (drop (suc i) chunks))
    parts = joined-parts chunks i chunk p.within p.is

    pub at-place : at order key (arc_value chunk).pairs ≡ at order key (joined_chunks chunks)
    at-place =
        sym (ap (at order key) parts
        ∙ at-behind total key (joined_chunks (take i chunks)) ((arc_value chunk).pairs ++ joined_chunks (drop (suc i) chunks)) p.below
        ∙ at-before key (arc_value chunk).pairs (joined_chunks (drop (suc i) chunks)) p.above)

    pub with-place : (value : V) (after : ChunkPairs K V) → (arc_value after).pairs ≡ with order key value (arc_value chunk).pairs
        → joined_chunks (set chunks i after) ≡ with order key value (joined_chunks chunks)
    with-place value after is =
        joined-set chunks i after p.within
        ∙ ap (λ ps. joined_chunks (take i chunks) ++ (ps ++ joined_chunks (drop (suc i) chunks))) is
        ∙ sym (ap (with order key value) parts
        ∙ with-behind key value (joined_chunks (take i chunks)) ((arc_value chunk).pairs ++ joined_chunks (drop (suc i) chunks)) p.below
        ∙ ap (λ es. joined_chunks (take i chunks) ++ es) (with-before key value (arc_value chunk).pairs (joined_chunks (drop (suc i) chunks)) p.above))

    pub without-place : (after : ChunkPairs K V) → (arc_value after).pairs ≡ without order key (arc_value chunk).pairs
        → joined_chunks (set chunks i after) ≡ without order key (joined_chunks chunks)
    without-place after is =
        joined-set chunks i after p.within
        ∙ ap (λ ps. joined_chunks (take i chunks) ++ (ps ++ joined_chunks (drop (suc i) chunks))) is
        ∙ sym (ap (without order key) parts
        ∙ without-behind key (joined_chunks (take i chunks)) ((arc_value chunk).pairs ++ joined_chunks (drop (suc i) chunks)) p.below
        ∙ ap (λ es. joined_chunks (take i chunks) ++ es) (without-before key (arc_value chunk).pairs (joined_chunks (drop (suc i) chunks)) p.above))

  -- ---- the row stays a row

  pub sorted-with : (key : K) (value : V) (m : Map K V) → is_sorted order m ≡ true → is_sorted order (with order key value m) ≡ true
  sorted-with key value m h = sorted_from_rising order _ (rising-with total key value m (rising_from_sorted order m h))

  pub sorted-without : (key : K) (m : Map K V) → is_sorted order m ≡ true → is_sorted order (without order key m) ≡ true
  sorted-without key m h = sorted_from_rising order _ (rising-without total key m (rising_from_sorted order m h))

  pub some-with : (key : K) (value : V) (m : Map K V) → 0 < length (with order key value m)
  some-with key value [] = omega arith
  some-with key value (e ∷ es) =
      elim (order key e.0) as (λ o. 0 < length (match_ordering o ((key, value) ∷ e ∷ es) ((e.0, value) ∷ es) (e ∷ with order key value es))) [
        | Less ↦ omega arith
        | Equal ↦ omega arith
        | Greater ↦ omega arith
      ]

  pub row_when : (chunks : List (ChunkPairs K V)) (i : ℕ) (after : ChunkPairs K V) (m : Map K V) → AllByRecursion HasPairs chunks → joined_chunks (set chunks i after) ≡ m → is_sorted order m ≡ true
      → 0 < length (arc_value after).pairs → IsRow order (set chunks i after)
  row_when chunks i after m whole is sorted some = record { sorted = ap (is_sorted order) is ∙ sorted; whole = whole-set chunks i after whole some }

  -- a chunk with the same pairs in place of one
  pub row_same : (chunks : List (ChunkPairs K V)) (i : ℕ) (chunk after : ChunkPairs K V) → IsRow order chunks → i < length chunks → chunk ≡ get_or chunks i chunk
      → (arc_value after).pairs ≡ (arc_value chunk).pairs → IsRow order (set chunks i after)
  row_same chunks i chunk after row l is same =
      row_when chunks i after (joined_chunks chunks) row.whole (same_when_set chunks i chunk after l is same) row.sorted
      (subst (λ (ps : Map K V). 0 < length ps) (sym same) (has_pairs_at chunks i chunk row.whole l is))

  -- the chunk of a key with a value, and without the key
  pub row_with : (chunks : List (ChunkPairs K V)) (key : K) (i : ℕ) (chunk after : ChunkPairs K V) (value : V) → IsRow order chunks → IsPlace chunks key i chunk
      → (arc_value after).pairs ≡ with order key value (arc_value chunk).pairs → IsRow order (set chunks i after)
  row_with chunks key i chunk after value row p is =
      row_when chunks i after (with order key value (joined_chunks chunks)) row.whole (with-place chunks key i chunk p value after is) (sorted-with key value (joined_chunks chunks) row.sorted)
      (subst (λ (ps : Map K V). 0 < length ps) (sym is) (some-with key value (arc_value chunk).pairs))
