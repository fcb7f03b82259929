-- Pairs that stand in front of a place of the last ones, and four leaves at a time.
use Rattle.std.proofs.Common.{◌≡◌, ℕ, zero, suc, ◌+◌, ◌-◌, ◌^◌, ◌<◌, ◌≤◌, true, false, is_lt, Less, List, [], ◌∷◌, ◌++◌, length, get_or, take, drop, map, refl, sym, ap, ap₂, ◌∙◌, subst, arith, inl, inr, length-append}
use Rattle.std.specs.Prelude.{min}
use Rattle.std.proofs.Math.Seq.{take-add}
use Rattle.std.proofs.lemmas.Bool.{cases_Bool, cases_lt, and_parts, false≢true}
use Rattle.std.proofs.lemmas.List.{map-append, get_or_default}
use Rattle.std.proofs.lemmas.List.Elements.{All-append, All-cons, All-nil}
use Rattle.ibc_ids.specs.Texts.{Text, same_text, text_cmp}
use Rattle.ibc_ids.proofs.Texts.{text_same, text_cmp_total, lt_is_less, less_apart}
use Rattle.ibc_merkle.specs.Hash.{hash}
use Rattle.ibc_merkle.specs.Tree.{Pairs, Tree, root}
use Rattle.ibc_merkle.proofs.Sorted.{AreRising, greater_from}
use Rattle.ibc_lanes.specs.Inner.{four_more}
use Rattle.ibc_lanes.specs.Leaves.{hash_of_leaf}
use Rattle.ibc_forest.specs.Counts.{CountsAtLeast}
use Rattle.ibc_forest.specs.Gaps.{HasFirst, IsFoundFrom}
use Rattle.ibc_forest.specs.Leaves.{same_pair, from_key, behind_key, is_in_front, is_new, count_new, differing_count}
use Rattle.ibc_forest.specs.Levels.{leaf_of, tree_at, trees_at}
use Rattle.ibc_forest.specs.NodeLevels.{Stand}
use Rattle.ibc_forest.specs.Nodes.{Grows}
use Rattle.ibc_forest.proofs.Finding.{above_at, stepped}
use Rattle.ibc_forest.proofs.FirstLeaves.{first-grows}
use Rattle.ibc_forest.proofs.LeafRows.{stops, leaves_none, is_new-so, unlike_most}
use Rattle.ibc_forest.proofs.Pairing.{grows_on, grows_longer, tree_at-grows}

-- ---- a pair in front of others

-- it would be looked for at the first of them, and isn't there
pub record InFront (pair : Text × Text) (rest : Pairs) : Type 0 where
  pub found : from_key pair.0 rest ≡ rest
  pub behind : behind_key pair.0 rest ≡ rest
  pub new : is_new pair rest ≡ 1

other_text : (x y : Text) → text_cmp y x ≡ Less → same_text x y ≡ false
other_text x y l =
    elim (cases_Bool (same_text x y)) [
      | inl same ↦ absurd (less_apart y x l (sym (text_same x y same)))
      | inr other ↦ other
    ]

other_pair : (x y : Text × Text) → same_text x.0 y.0 ≡ false → same_pair x y ≡ false
other_pair x y other =
    elim (cases_Bool (same_pair x y)) [
      | inl same ↦ absurd (false≢true (sym other ∙ (and_parts (same_text x.0 y.0) (same_text x.1 y.1) same).0))
      | inr not ↦ not
    ]

in_front : (pair : Text × Text) (rest : Pairs) → is_in_front pair.0 rest ≡ true → InFront pair rest
in_front pair [] is = record { found = refl; behind = refl; new = refl }
in_front pair (first ∷ rest) is =
    let all : Pairs = first ∷ rest in
    let less : text_cmp pair.0 first.0 ≡ Less = lt_is_less _ is in
    let other = other_text first.0 pair.0 less in
    record {
      found = stops pair.0 all rest first refl (ap is_lt (greater_from pair.0 first.0 less));
      behind = leaves_none pair.0 all rest first refl other;
      new = is_new-so pair all (other_pair first pair other);
    }

-- so do the keys below
further : (low high : Text) (rest : Pairs) → text_cmp low high ≡ Less → is_in_front high rest ≡ true → is_in_front low rest ≡ true
further low high [] l is = refl
further low high (first ∷ rest) l is = ap is_lt (text_cmp_total.trans low high first.0 l (lt_is_less _ is))

rising_at : (pairs : Pairs) (a b : ℕ) (d : Text × Text) → AreRising pairs → a < b → b < length pairs → text_cmp (get_or pairs a d).0 (get_or pairs b d).0 ≡ Less
rising_at [] a b d rising l within = absurd (omega arith)
rising_at (pair ∷ pairs) a zero d rising l within = absurd (omega arith)
rising_at (pair ∷ pairs) zero (suc b) d rising l within = above_at pair.0 pairs b d rising.0 (omega arith)
rising_at (pair ∷ pairs) (suc a) (suc b) d rising l within = rising_at pairs a b d rising.1 (omega arith) (omega arith)

-- ---- pairs in a row that stand in front

pub record Run (last entries : Pairs) (i at k : ℕ) : Type 0 where
  pub count : count_new last (drop i entries) ≡ k + count_new last (drop (i + k) entries)
  pub next : IsFoundFrom last at (drop (i + k) entries)

run : (k : ℕ) (last entries : Pairs) (i at : ℕ) → AreRising last → AreRising entries → at ≤ length last → i + k ≤ length entries → IsFoundFrom last at (drop i entries)
    → ((j : ℕ) → j < k → is_in_front (get_or entries (i + j) ([], [])).0 (drop at last) ≡ true) → Run last entries i at k
run zero last entries i at last_rises rises there within found front =
    let none : i + 0 ≡ i = omega arith in
    record {
      count = let same = ap (λ n. count_new last (drop n entries)) (sym none) in omega arith;
      next = subst (λ n. IsFoundFrom last at (drop n entries)) (sym none) found;
    }
run (suc k) last entries i at last_rises rises there within found front =
    let before = run k last entries i at last_rises rises there (omega arith) found (λ j l. front j (omega arith)) in
    let entry = get_or entries (i + k) ([], []) in
    let rest : Pairs = drop at last in
    let is : entry ≡ get_or entries (i + k) entry = get_or_default entries (i + k) ([], []) entry (omega arith) in
    let its = in_front entry rest (front k (omega arith)) in
    let step =
    stepped last entries (i + k) at at at entry last_rises rises (omega arith) is there before.next (sym its.found) (sym its.behind)
    in
    let all : (i + k) + 1 ≡ i + suc k = omega arith in
    let here = ap (λ n. count_new last (drop n entries)) all in
    let one = its.new in
    let so_far = before.count in
    let more = step.count in
    record {
      count = omega arith;
      next = subst (λ n. IsFoundFrom last at (drop n entries)) all step.next;
    }

-- four of them, where the last stands in front
pub four_in_front : (last entries : Pairs) (i at : ℕ) → AreRising last → AreRising entries → at ≤ length last → i + 4 ≤ length entries → IsFoundFrom last at (drop i entries)
    → is_in_front (get_or entries (i + 3) ([], [])).0 (drop at last) ≡ true → Run last entries i at 4
four_in_front last entries i at last_rises rises there within found front =
    run 4 last entries i at last_rises rises there within found (λ j l.
    elim (cases_lt j 3) [
      | inl less ↦ further (get_or entries (i + j) ([], [])).0 (get_or entries (i + 3) ([], [])).0 (drop at last) (rising_at entries (i + j) (i + 3) ([], []) rises (omega arith) (omega arith)) front
      | inr last_one ↦ let is : 3 ≡ j = omega arith in subst (λ j. is_in_front (get_or entries (i + j) ([], [])).0 (drop at last) ≡ true) is front
    ])

-- ---- four nodes

of_four : (pairs : Pairs) (p q r s : Text × Text) → length pairs ≡ 4 → p ≡ get_or pairs 0 p → q ≡ get_or pairs 1 q → r ≡ get_or pairs 2 r → s ≡ get_or pairs 3 s
    → pairs ≡ p ∷ q ∷ r ∷ s ∷ []
of_four [] p q r s n a b c d = absurd (omega arith)
of_four (t ∷ []) p q r s n a b c d = absurd (omega arith)
of_four (t ∷ u ∷ []) p q r s n a b c d = absurd (omega arith)
of_four (t ∷ u ∷ v ∷ []) p q r s n a b c d = absurd (omega arith)
of_four (t ∷ u ∷ v ∷ w ∷ []) p q r s n a b c d = ap₂ ◌∷◌ (sym a) (ap₂ ◌∷◌ (sym b) (ap₂ ◌∷◌ (sym c) (ap (λ (z : Text × Text). z ∷ []) (sym d))))
of_four (t ∷ u ∷ v ∷ w ∷ x ∷ pairs) p q r s n a b c d = absurd (omega arith)

pub four_leaves : (a b c d : List Tree) (first second third fourth : ℕ) (pairs : Pairs) (p q r s : Text × Text) → length pairs ≡ 4 → Grows a b → Grows b c → Grows c d
    → first < length a → second < length b → third < length c → fourth < length d
    → p ≡ get_or pairs 0 p → q ≡ get_or pairs 1 q → r ≡ get_or pairs 2 r → s ≡ get_or pairs 3 s
    → tree_at a first ≡ leaf_of p → tree_at b second ≡ leaf_of q → tree_at c third ≡ leaf_of r → tree_at d fourth ≡ leaf_of s
    → (trees_at d (first ∷ second ∷ third ∷ fourth ∷ []) ≡ map leaf_of pairs) × Stand d (first ∷ second ∷ third ∷ fourth ∷ [])
four_leaves a b c d first second third fourth pairs p q r s n ab bc cd k l m o is_p is_q is_r is_s f g h i =
    let bd = grows_on b c d bc cd in
    let ad = grows_on a b d ab bd in
    let from_a = grows_longer a d ad in
    let from_b = grows_longer b d bd in
    let from_c = grows_longer c d cd in
    let there : ℕ → Type 0 = λ number. number < length d in (
      ap₂ ◌∷◌ (tree_at-grows a d first ad k ∙ f)
          (ap₂ ◌∷◌ (tree_at-grows b d second bd l ∙ g) (ap₂ ◌∷◌ (tree_at-grows c d third cd m ∙ h) (ap (λ tree. tree ∷ []) i)))
          ∙ ap (map leaf_of) (sym (of_four pairs p q r s n is_p is_q is_r is_s)),
      All-cons there first (second ∷ third ∷ fourth ∷ []) (omega arith)
          (All-cons there second (third ∷ fourth ∷ []) (omega arith) (All-cons there third (fourth ∷ []) (omega arith) (All-cons there fourth [] o (All-nil there)))),
    )

leaf_digest : (key value read : Text) (pair : Text × Text) → key ≡ pair.0 → value ≡ pair.1 → read ≡ hash value → hash_of_leaf key read ≡ root (leaf_of pair)
leaf_digest key value read pair is_key is_value is_read = ap₂ hash_of_leaf is_key (is_read ∙ ap hash is_value)

-- the digests of four leaves, of their keys and their values' hashes
pub four_digests : (pairs : Pairs) (p q r s : Text × Text) (k l m n v w x y : Text) (values digests : List Text) → length pairs ≡ 4
    → p ≡ get_or pairs 0 p → q ≡ get_or pairs 1 q → r ≡ get_or pairs 2 r → s ≡ get_or pairs 3 s
    → k ≡ p.0 → l ≡ q.0 → m ≡ r.0 → n ≡ s.0 → v ≡ p.1 → w ≡ q.1 → x ≡ r.1 → y ≡ s.1
    → values ≡ hash v ∷ hash w ∷ hash x ∷ hash y ∷ []
    → digests ≡ hash_of_leaf k (get_or values 0 []) ∷ hash_of_leaf l (get_or values 1 []) ∷ hash_of_leaf m (get_or values 2 []) ∷ hash_of_leaf n (get_or values 3 []) ∷ []
    → digests ≡ map root (map leaf_of pairs)
four_digests pairs p q r s k l m n v w x y values digests four is_p is_q is_r is_s is_k is_l is_m is_n is_v is_w is_x is_y hashed is =
    is
    ∙ ap₂ ◌∷◌ (leaf_digest k v _ p is_k is_v (ap (λ (vs : List Text). get_or vs 0 []) hashed))
    (ap₂ ◌∷◌ (leaf_digest l w _ q is_l is_w (ap (λ (vs : List Text). get_or vs 1 []) hashed))
    (ap₂ ◌∷◌ (leaf_digest m x _ r is_m is_x (ap (λ (vs : List Text). get_or vs 2 []) hashed)) (ap (λ (digest : Text). digest ∷ []) (leaf_digest n y _ s is_n is_y (ap (λ (vs : List Text). get_or vs 3 []) hashed)))))
    ∙ ap (λ (ps : Pairs). map root (map leaf_of ps)) (sym (of_four pairs p q r s four is_p is_q is_r is_s))

-- ---- more leaves in a row of first ones

pub first_added : (before after : List Tree) (pairs : Pairs) (row leaves : List ℕ) (k : ℕ) → HasFirst before pairs row → Grows before after → length row + k ≤ length pairs
    → trees_at after leaves ≡ map leaf_of (take k (drop (length row) pairs)) → Stand after leaves → length leaves ≡ k → HasFirst after pairs (row ++ leaves)
first_added before after pairs row leaves k first g within made stand n =
    let so_far = first-grows before after pairs row g first in
    let counted : length (row ++ leaves) ≡ length row + k = length-append row leaves ∙ ap (λ n. length row + n) n in
    record {
      leaves =
          map-append (tree_at after) row leaves
          ∙ ap₂ ◌++◌ so_far.leaves made
          ∙ sym (map-append leaf_of (take (length row) pairs) (take k (drop (length row) pairs)))
          ∙ ap (map leaf_of) (sym (take-add (length row) k pairs) ∙ ap (λ n. take n pairs) (sym counted));
      stand = All-append (λ n. n < length after) row leaves so_far.stand stand;
      within = omega arith;
    }

differing_most : (row other : List ℕ) → differing_count row other ≤ length row
differing_most [] other = omega arith
differing_most (number ∷ row) [] = let rest = differing_most row [] in omega arith
differing_most (number ∷ row) (old ∷ other) =
    let rest = differing_most row other in
    let one = unlike_most number old in
    omega arith

-- each other one may differ
pub differing_added : (row leaves other : List ℕ) → differing_count (row ++ leaves) other ≤ differing_count row other + length leaves
differing_added [] leaves other = let most = differing_most leaves other in omega arith
differing_added (number ∷ row) leaves [] = let rest = differing_added row leaves [] in omega arith
differing_added (number ∷ row) leaves (old ∷ other) = let rest = differing_added row leaves other in omega arith

-- ---- counts

four_is : (n : ℕ) → four_more n ≡ min (n + 4) (2 ^ 64 - 1)
four_is n = omega arith

pub eight_most : (from to : ℕ) → to ≡ four_more (four_more from) → to ≤ from + 8
eight_most from to is = let a = four_is from in let b = four_is (four_more from) in omega arith

pub eight_least : (from to rest all : ℕ) → to ≡ four_more (four_more from) → all ≡ 8 + rest → CountsAtLeast all from (to + rest)
eight_least from to rest all is parts = let a = four_is from in let b = four_is (four_more from) in omega arith
