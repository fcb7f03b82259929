-- One leaf more in a row of first ones, and four.
use Rattle.std.proofs.Common.{◌≡◌, ℕ, zero, suc, ◌+◌, ◌*◌, ◌<◌, ◌≤◌, List, [], ◌∷◌, ◌++◌, Ok, Result, length, get_or, take, drop, map, refl, sym, ap, ◌∙◌, subst, arith, length-take, length-drop}
use Rattle.std.specs.FinMap.{is_sorted}
use Rattle.std.specs.Prelude.{IsTrue}
use Rattle.std.specs.declared.alloc.AllocError.{AllocError}
use Rattle.std.proofs.lemmas.List.{length_push, length-map, length-take-le, take_all, take-append-le, length-append}
use Rattle.ibc_ids.specs.Texts.{Text, text_cmp}
use Rattle.ibc_merkle.specs.Tree.{Pairs, Tree}
use Rattle.ibc_merkle.proofs.Sorted.{rising_from_sorted}
use Rattle.ibc_lanes.specs.Inner.{four_more}
use Rattle.ibc_forest.specs.AddedLeaves.{AreAdded}
use Rattle.ibc_forest.specs.Codes.{ArenaModel}
use Rattle.ibc_forest.specs.Counts.{CountsAtLeast}
use Rattle.ibc_forest.specs.Gaps.{HasFirst, IsFoundFrom}
use Rattle.ibc_forest.specs.Leaves.{row_pairs, AreLeaves, from_key, behind_key, is_in_front, is_new, count_new, differing_count}
use Rattle.ibc_forest.specs.Levels.{leaf_of, tree_at, trees_at}
use Rattle.ibc_forest.specs.NodeLevels.{Stand}
use Rattle.ibc_forest.specs.Nodes.{Grows}
use Rattle.ibc_forest.proofs.Counting.{least_turn, least_kept}
use Rattle.ibc_forest.proofs.Finding.{stepped}
use Rattle.ibc_forest.proofs.FirstLeaves.{first_more}
use Rattle.ibc_forest.proofs.FourLeaves.{four_in_front, first_added, differing_added, eight_most, eight_least}
use Rattle.ibc_forest.proofs.LeafRows.{length-row_pairs, pairs-grows, differing-push}
use Rattle.ibc_forest.proofs.Pairing.{grows_on, grows_not}

ok_is : (r : Result ℕ AllocError) (x y : ℕ) → r ≡ Ok x → r ≡ Ok y → x ≡ y
ok_is r x y a b = cc

front_stays : (row more new : List ℕ) → new ≡ row ++ more → take (length row) new ≡ row
front_stays row more new is = ap (take (length row)) is ∙ take-append-le (length row) row more (omega arith) ∙ take_all (length row) row (omega arith)

count_least : (from to one before rest : ℕ) → before ≡ one + rest → CountsAtLeast (2 * one) from to → CountsAtLeast (2 * before) from (to + 2 * rest)
count_least from to one before rest parts least = omega arith

pub added_one : (before after : List Tree) (old row new : List ℕ) (entries : Pairs) (place found behind leaf : ℕ) (entry : Text × Text) (result : Result ℕ AllocError) (from to : ℕ)
    → AreLeaves before old → IsTrue (is_sorted text_cmp entries) → IsTrue (is_sorted text_cmp (row_pairs before old)) → HasFirst before entries row
    → IsFoundFrom (row_pairs before old) place (drop (length row) entries) → length row < length entries → entry ≡ get_or entries (length row) entry
    → found ≤ length old → drop found (row_pairs before old) ≡ from_key entry.0 (drop place (row_pairs before old))
    → behind ≤ length old → drop behind (row_pairs after old) ≡ behind_key entry.0 (drop found (row_pairs after old))
    → Grows before after → tree_at after leaf ≡ leaf_of entry → leaf < length after
    → to ≤ from + 2 * is_new entry (drop found (row_pairs before old)) → CountsAtLeast (2 * is_new entry (drop found (row_pairs before old))) from to
    → (is_new entry (drop found (row_pairs before old)) ≡ 0 → result ≡ Ok (get_or old found 0)) → result ≡ Ok leaf → new ≡ row ++ leaf ∷ []
    → AreAdded (row_pairs before old) entries old row new after behind from to
added_one before after old row new entries place found behind leaf entry result from to leaves sorted last_sorted first at l is there rest behind_in past grows its within steps least kept was items =
    let last : Pairs = row_pairs before old in
    let held : row_pairs after old ≡ last = pairs-grows before after old grows leaves.0 in
    let counted_last = length-row_pairs before old in
    let step =
    stepped last entries (length row) place found behind entry (rising_from_sorted last last_sorted) (rising_from_sorted entries sorted) l is (omega arith) at rest
    (subst (λ (ps : Pairs). drop behind ps ≡ behind_key entry.0 (drop found ps)) held past)
    in
    let longer : length new ≡ length row + 1 = ap length items ∙ length_push row leaf in
    let more = step.count in
    let rest_is = ap (λ n. count_new last (drop n entries)) longer in
    record {
      first = subst (HasFirst after entries) (sym items) (first_more before after entries row leaf entry first grows l is its within);
      front = front_stays row (leaf ∷ []) new items;
      place = behind_in;
      found = subst (λ n. IsFoundFrom last behind (drop n entries)) (sym longer) step.next;
      steps = omega arith;
      least =
          count_least from to (is_new entry (drop found last)) (count_new last (drop (length row) entries)) (count_new last (drop (length new) entries)) (omega arith) least;
      same = λ same.
          let w = step.same same in
          let there = w.0 in
          let here : is_new entry (drop found last) ≡ 0 → leaf ≡ get_or old (length row) 0 =
          λ none. ok_is result leaf (get_or old found 0) was (kept none) ∙ ap (λ n. get_or old n 0) w.1
          in
          let pushed = differing-push row old leaf (is_new entry (drop found last)) (omega arith) here in
          let pushed_row : differing_count new old ≡ differing_count (row ++ leaf ∷ []) old = ap (λ row. differing_count row old) items in
          omega arith;
    }

pub added_four : (before after : List Tree) (old row new leaves : List ℕ) (entries : Pairs) (place from to : ℕ)
    → AreLeaves before old → IsTrue (is_sorted text_cmp entries) → IsTrue (is_sorted text_cmp (row_pairs before old)) → HasFirst before entries row
    → place ≤ length old → IsFoundFrom (row_pairs before old) place (drop (length row) entries) → length row + 4 ≤ length entries
    → IsTrue (is_in_front (get_or entries (length row + 3) ([], [])).0 (drop place (row_pairs before old)))
    → Grows before after → trees_at after leaves ≡ map leaf_of (take 4 (drop (length row) entries)) → Stand after leaves
    → to ≡ four_more (four_more from) → new ≡ row ++ leaves
    → AreAdded (row_pairs before old) entries old row new after place from to
added_four before after old row new leaves entries place from to are sorted last_sorted first there at l front grows made stand steps items =
    let last : Pairs = row_pairs before old in
    let counted_last = length-row_pairs before old in
    let behind = length-drop (length row) entries in
    let four : Pairs = take 4 (drop (length row) entries) in
    let taken : length four ≡ 4 = length-take-le 4 (drop (length row) entries) (omega arith) in
    let n : length leaves ≡ 4 = sym (length-map leaves (tree_at after)) ∙ ap length made ∙ length-map four leaf_of ∙ taken in
    let longer : length new ≡ length row + 4 = ap length items ∙ length-append row leaves ∙ ap (λ n. length row + n) n in
    let its = four_in_front last entries (length row) place (rising_from_sorted last last_sorted) (rising_from_sorted entries sorted) (omega arith) l at front in
    let more = its.count in
    let rest_is = ap (λ n. count_new last (drop n entries)) longer in
    let most = eight_most from to steps in
    record {
      first = subst (HasFirst after entries) (sym items) (first_added before after entries row leaves 4 first grows l made stand n);
      front = front_stays row leaves new items;
      place = there;
      found = subst (λ n. IsFoundFrom last place (drop n entries)) (sym longer) its.next;
      steps = omega arith;
      least = eight_least from to (2 * count_new last (drop (length new) entries)) (2 * count_new last (drop (length row) entries)) steps (omega arith);
      same = λ same.
          let added = differing_added row leaves old in
          let added_row : differing_count new old ≡ differing_count (row ++ leaves) old = ap (λ row. differing_count row old) items in
          omega arith;
    }

-- ---- leaves more and more

take_less : (n m : ℕ) (row : List ℕ) → n ≤ m → take n (take m row) ≡ take n row
take_less zero m row l = refl
take_less (suc n) zero row l = absurd (omega arith)
take_less (suc n) (suc m) [] l = refl
take_less (suc n) (suc m) (number ∷ row) l = ap (λ row. number ∷ row) (take_less n m row (omega arith))

front_within : (start row : List ℕ) → take (length start) row ≡ start → length start ≤ length row
front_within start row front = let a = length-take (length start) row in let b = ap length front in omega arith

front_on : (start row new : List ℕ) → take (length start) row ≡ start → take (length row) new ≡ row → take (length start) new ≡ start
front_on start row new before front =
    sym (take_less (length start) (length row) new (front_within start row before)) ∙ ap (take (length start)) front ∙ before

pub record Going (last entries : Pairs) (before : List Tree) (old start : List ℕ) (from end least_long : ℕ) (arena : ArenaModel) (row : List ℕ) (at : ℕ) : Type 0 where
  pub added : AreAdded last entries old start row arena.trees at from arena.steps
  pub longer : least_long ≤ length row
  pub within : length row ≤ end
  pub grows : Grows before arena.trees

pub going_on : (last entries : Pairs) (before : List Tree) (old start row new : List ℕ) (from end i : ℕ) (arena after : ArenaModel) (at next : ℕ)
    → AreLeaves before old → last ≡ row_pairs before old
    → Going last entries before old start from end i arena row at → i ≡ length row → length row < length new → length new ≤ end → Grows arena.trees after.trees
    → AreAdded (row_pairs arena.trees old) entries old row new after.trees next arena.steps after.steps
    → Going last entries before old start from end (i + 1) after new next
going_on last entries before old start row new from end i arena after at next leaves last_is going full more most grows added =
    let held : row_pairs arena.trees old ≡ last = pairs-grows before arena.trees old going.grows leaves.0 ∙ sym last_is in
    let here = subst (λ (ps : Pairs). AreAdded ps entries old row new after.trees next arena.steps after.steps) held added in
    let so_far = going.added in
    let steps = so_far.steps in
    let more_steps = here.steps in
    record {
      added = record {
        first = here.first;
        front = front_on start row new so_far.front here.front;
        place = here.place;
        found = here.found;
        steps = omega arith;
        least =
            least_turn (2 * count_new last (drop (length start) entries)) (2 * count_new last (drop (length row) entries)) (2 * count_new last (drop (length row) entries)) (2 * count_new last (drop (length new) entries))
            from arena.steps after.steps refl here.least so_far.least;
        same = λ same. let a = so_far.same same in let b = here.same same in omega arith;
      };
      longer = omega arith;
      within = most;
      grows = grows_on before arena.trees after.trees going.grows grows;
    }

pub going_first : (last entries : Pairs) (before : List Tree) (old row : List ℕ) (end i : ℕ) (arena : ArenaModel) (at : ℕ) → HasFirst arena.trees entries row → at ≤ length old
    → IsFoundFrom last at (drop (length row) entries) → before ≡ arena.trees → i ≡ length row → length row ≤ end → Going last entries before old row arena.steps end i arena row at
going_first last entries before old row end i arena at first place found same is within = record {
  added = record {
    first = first;
    front = take_all (length row) row (omega arith);
    place = place;
    found = found;
    steps = omega arith;
    least = least_kept (2 * count_new last (drop (length row) entries)) (2 * count_new last (drop (length row) entries)) arena.steps refl;
    same = λ same. omega arith;
  };
  longer = omega arith;
  within = within;
  grows = subst (λ trees. Grows trees arena.trees) (sym same) (grows_not arena.trees);
}
