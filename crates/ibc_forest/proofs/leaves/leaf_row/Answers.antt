-- What stays in front of a gap, what comes in it, and what stays behind all gaps.
use Rattle.std.proofs.Common.{◌≡◌, ℕ, ◌+◌, ◌*◌, ◌≤◌, ◌++◌, List, Ok, Result, length, get_or, take, drop, sym, ap, ◌∙◌, arith, subst}
use Rattle.std.specs.FinMap.{is_sorted}
use Rattle.std.specs.declared.alloc.AllocError.{AllocError}
use Rattle.ibc_ids.specs.Texts.{text_cmp}
use Rattle.ibc_merkle.specs.Tree.{Pairs}
use Rattle.ibc_merkle.proofs.Sorted.{rising_from_sorted}
use Rattle.ibc_forest.specs.Leaves.{row_pairs, count_new, keys, differing_count}
use Rattle.ibc_forest.specs.Counts.{CountsAtLeast}
use Rattle.ibc_forest.specs.Gaps.{DifferIn, HasFirst, IsFoundFrom}
use Rattle.ibc_forest.specs.declared.gap.Gap.{Gap}
use Rattle.ibc_forest.proofs.Counting.{least_turn, least_kept, least_end}
use Rattle.ibc_forest.proofs.FirstLeaves.{first_none}
use Rattle.ibc_forest.proofs.Finding.{first_found}
use Rattle.ibc_forest.proofs.OverGaps.{Opened, opened, found_past, differing_past, Whole, whole, splice_next, splice_end}
use Rattle.ibc_forest.proofs.Pairing.{grows_on, grows_not}
use Rattle.ibc_forest.proofs.LeafRows.{pairs-grows, leaves-grows}
use Rattle.ibc_forest.proofs.leaves.leaf_row.Goals as goal

pub add_leaves-requires-clause-leaves : goal.add_leaves-requires-clause-leaves
add_leaves-requires-clause-leaves c = leaves-grows c.args.arena.now.trees c.loop-i.arena.trees c.args.old.now c.loop-i.invariant.grows c.requires.leaves

pub add_leaves-requires-clause-last : goal.add_leaves-requires-clause-last
add_leaves-requires-clause-last c = ap (is_sorted text_cmp) (pairs-grows c.args.arena.now.trees c.loop-i.arena.trees c.args.old.now c.loop-i.invariant.grows c.requires.leaves.0) ∙ c.requires.last

abbrev none : Gap
none = record { kept = 0; gone = 0; come = 0 }

here : (c : goal.After-row-in-loop-i-3-1) → Opened c.loop-i.arena.trees (row_pairs c.args.arena.now.trees c.args.old.now) c.args.entries.now c.args.old.now c.loop-i.row.items c.args.gaps.now c.loop-i.i c.loop-i.from
    (get_or c.args.gaps.now c.loop-i.i none)
here c =
    let before = c.args.arena.now.trees in
    let trees = c.loop-i.arena.trees in
    let old = c.args.old.now in
    let last : Pairs = row_pairs before old in
    let entries : Pairs = c.args.entries.now in
    opened trees last entries old c.loop-i.row.items c.args.gaps.now c.loop-i.i c.loop-i.from none
    (leaves-grows before trees old c.loop-i.invariant.grows c.requires.leaves) (pairs-grows before trees old c.loop-i.invariant.grows c.requires.leaves.0)
    (rising_from_sorted last c.requires.last) (rising_from_sorted entries c.requires.sorted) c.loop-i.invariant.first c.loop-i.invariant.from c.loop-i-test.true c.loop-i.invariant.gaps

pub add_leaves-requires-clause-first : goal.add_leaves-requires-clause-first
add_leaves-requires-clause-first c = subst (HasFirst c.loop-i.arena.trees c.args.entries.now) (sym c.in_ok-behind.ensures.row) (here c).first

ok_is : (r : Result ℕ AllocError) (x y : ℕ) → r ≡ Ok x → r ≡ Ok y → x ≡ y
ok_is r x y a b = cc

pub add_leaves-requires-clause-found : goal.add_leaves-requires-clause-found
add_leaves-requires-clause-found c =
    let before = c.args.arena.now.trees in
    let trees = c.loop-i.arena.trees in
    let old = c.args.old.now in
    let last : Pairs = row_pairs before old in
    let entries : Pairs = c.args.entries.now in
    let gap = get_or c.args.gaps.now c.loop-i.i none in
    let held : row_pairs trees old ≡ last = pairs-grows before trees old c.loop-i.invariant.grows c.requires.leaves.0 in
    let counted : length c.add_kept.new.row.items ≡ length c.loop-i.row.items + gap.kept = ap length c.in_ok-behind.ensures.row ∙ (here c).counted in
    subst (λ (pairs : Pairs). IsFoundFrom pairs c.in_ok-behind.behind (drop (length c.add_kept.new.row.items) entries)) (sym held)
    (subst (λ n. IsFoundFrom last c.in_ok-behind.behind (drop n entries)) (sym counted)
    (found_past last entries c.loop-i.from (length c.loop-i.row.items) gap.kept c.loop-i.place c.in_ok-behind.behind (here c).past c.loop-i.invariant.found
    (λ is. ok_is c.add_kept.result c.in_ok-behind.behind c.loop-i.place c.in_ok-behind.was (c.add_kept.ensures.none is)) c.in_ok-behind.ensures.some))

pub loop-i-preserved : goal.loop-i-preserved
loop-i-preserved c =
    let before = c.args.arena.now.trees in
    let trees = c.loop-i.arena.trees in
    let after = c.add_leaves.new.arena.trees in
    let old = c.args.old.now in
    let last : Pairs = row_pairs before old in
    let entries : Pairs = c.args.entries.now in
    let row = c.loop-i.row.items in
    let kept = c.add_kept.new.row.items in
    let next = c.add_leaves.new.row.items in
    let from = c.loop-i.from in
    let gap = get_or c.args.gaps.now c.loop-i.i none in
    let held : row_pairs trees old ≡ last = pairs-grows before trees old c.loop-i.invariant.grows c.requires.leaves.0 in
    let its =
    opened trees last entries old row c.args.gaps.now c.loop-i.i from none
    (leaves-grows before trees old c.loop-i.invariant.grows c.requires.leaves) held
    (rising_from_sorted last c.requires.last) (rising_from_sorted entries c.requires.sorted) c.loop-i.invariant.first c.loop-i.invariant.from c.loop-i-test.true c.loop-i.invariant.gaps
    in
    let within = its.there in
    let counted : length kept ≡ length row + gap.kept = ap length c.in_ok-behind.ensures.row ∙ its.counted in
    let end : length next ≡ length row + (gap.kept + gap.come) = let a = c.in_ok-place.ensures.end in let b = c.len.ensures in let e = c.add_kept.new.row.ok.0 in omega arith in
    let end_is : c.len.result + gap.come ≡ length next = sym c.in_ok-place.ensures.end in
    let found : IsFoundFrom last c.in_ok-place.place (drop (length next) entries) =
    subst (λ (pairs : Pairs). IsFoundFrom pairs c.in_ok-place.place (drop (length next) entries)) held
    (subst (λ n. IsFoundFrom (row_pairs trees old) c.in_ok-place.place (drop n entries)) end_is c.in_ok-place.ensures.found)
    in
    let steps : c.add_leaves.new.arena.steps + 2 * count_new last (drop (length next) entries) ≤ c.loop-i.arena.steps + 2 * count_new last (drop (length row + gap.kept) entries) =
    subst (λ (pairs : Pairs). c.add_leaves.new.arena.steps + 2 * count_new pairs (drop (length next) entries) ≤ c.loop-i.arena.steps + 2 * count_new pairs (drop (length row + gap.kept) entries)) held
    (subst (λ n. c.add_leaves.new.arena.steps + 2 * count_new (row_pairs trees old) (drop (length next) entries) ≤ c.loop-i.arena.steps + 2 * count_new (row_pairs trees old) (drop n entries)) counted
    (subst (λ n. c.add_leaves.new.arena.steps + 2 * count_new (row_pairs trees old) (drop n entries) ≤ c.loop-i.arena.steps + 2 * count_new (row_pairs trees old) (drop (length kept) entries)) end_is
    c.in_ok-place.ensures.steps))
    in
    let least : CountsAtLeast (2 * count_new last (drop (length row + gap.kept) entries)) c.loop-i.arena.steps (c.add_leaves.new.arena.steps + 2 * count_new last (drop (length next) entries)) =
    subst (λ (pairs : Pairs). CountsAtLeast (2 * count_new pairs (drop (length row + gap.kept) entries)) c.loop-i.arena.steps (c.add_leaves.new.arena.steps + 2 * count_new pairs (drop (length next) entries))) held
    (subst (λ n. CountsAtLeast (2 * count_new (row_pairs trees old) (drop n entries)) c.loop-i.arena.steps (c.add_leaves.new.arena.steps + 2 * count_new (row_pairs trees old) (drop (length next) entries))) counted
    (subst (λ n. CountsAtLeast (2 * count_new (row_pairs trees old) (drop (length kept) entries)) c.loop-i.arena.steps (c.add_leaves.new.arena.steps + 2 * count_new (row_pairs trees old) (drop n entries))) end_is
    c.in_ok-place.ensures.least))
    in
    let stayed : count_new last (drop (length row + gap.kept) entries) ≡ count_new last (drop (length row) entries) = its.past.count in
    let so_far = c.loop-i.invariant.steps in
    record {
      first = c.in_ok-place.ensures.first;
      grows = grows_on before trees after c.loop-i.invariant.grows c.add_leaves.ensures.grows;
      from = within;
      place = c.in_ok-place.ensures.place;
      found = found;
      gaps = subst (λ n. DifferIn (drop (c.loop-i.i + 1) c.args.gaps.now) (drop (from + (gap.kept + gap.gone)) last) (drop n entries)) (sym end) its.next;
      splice =
          splice_next c.args.gaps.now c.loop-i.i from none old row next c.loop-i-test.true within end
          (ap (λ n. take n next) (sym counted) ∙ c.in_ok-place.ensures.front ∙ c.in_ok-behind.ensures.row) c.loop-i.invariant.splice;
      steps = omega arith;
      least =
          least_turn (2 * count_new last entries) (2 * count_new last (drop (length row + gap.kept) entries)) (2 * count_new last (drop (length row) entries)) (2 * count_new last (drop (length next) entries))
          c.args.arena.now.steps c.loop-i.arena.steps c.add_leaves.new.arena.steps (omega arith) least c.loop-i.invariant.least;
      same = λ same.
          let now = c.loop-i.invariant.same same in
          let more : differing_count next old + count_new last (drop (length next) entries) ≤ differing_count kept old + count_new last (drop (length row + gap.kept) entries) =
          subst (λ (pairs : Pairs). keys entries ≡ keys pairs → differing_count next old + count_new pairs (drop (length next) entries) ≤ differing_count kept old + count_new pairs (drop (length row + gap.kept) entries)) held
          (subst (λ n. keys entries ≡ keys (row_pairs trees old) → differing_count next old + count_new (row_pairs trees old) (drop (length next) entries) ≤ differing_count kept old + count_new (row_pairs trees old) (drop n entries)) counted
          (subst (λ n. keys entries ≡ keys (row_pairs trees old) → differing_count next old + count_new (row_pairs trees old) (drop n entries) ≤ differing_count kept old + count_new (row_pairs trees old) (drop (length kept) entries)) end_is
          c.in_ok-place.ensures.same))
          same
          in
          let most = differing_past last entries old row from gap.kept its.past same (omega arith) in
          let is_kept : differing_count kept old ≡ differing_count (row ++ take gap.kept (drop from old)) old = ap (λ row. differing_count row old) c.in_ok-behind.ensures.row in
          omega arith;
    }

all : (c : goal.In_ok-extend_from_slice) → Whole c.loop-i.arena.trees (row_pairs c.args.arena.now.trees c.args.old.now) c.args.entries.now c.args.old.now c.loop-i.row.items c.extend_from_slice.new.self.items
all c =
    let before = c.args.arena.now.trees in
    let trees = c.loop-i.arena.trees in
    let old = c.args.old.now in
    whole trees (row_pairs before old) c.args.entries.now old c.loop-i.row.items c.extend_from_slice.new.self.items c.args.gaps.now c.loop-i.i c.loop-i.from
    (leaves-grows before trees old c.loop-i.invariant.grows c.requires.leaves) (pairs-grows before trees old c.loop-i.invariant.grows c.requires.leaves.0)
    c.loop-i.invariant.first c.loop-i.invariant.from c.loop-i-test.false c.loop-i.invariant.gaps c.in_ok-extend_from_slice.ensures.items

pub returns-clause-leaves : goal.returns-clause-leaves
returns-clause-leaves c = (all c).leaves

pub returns-clause-stand : goal.returns-clause-stand
returns-clause-stand c = (all c).stand

pub returns-clause-least : goal.returns-clause-least
returns-clause-least c = let none = (all c).none in least_end _ _ c.args.arena.now.steps c.loop-i.arena.steps (omega arith) c.loop-i.invariant.least

pub returns-clause-same : goal.returns-clause-same
returns-clause-same c = λ same. let most = (all c).same same in let few = c.loop-i.invariant.same same in omega arith

pub returns-clause-gaps : goal.returns-clause-gaps
returns-clause-gaps c =
    splice_end c.args.gaps.now c.loop-i.i c.loop-i.from c.args.old.now c.loop-i.row.items c.extend_from_slice.new.self.items c.loop-i-test.false c.in_ok-extend_from_slice.ensures.items c.loop-i.invariant.splice

pub loop-i-init : goal.loop-i-init
loop-i-init c =
    let before = c.args.arena.now.trees in
    let old = c.args.old.now in
    let entries : Pairs = c.args.entries.now in
    let last : Pairs = row_pairs before old in
    let row = c.in_ok-row.row.items in
    let items = c.in_ok-row.ensures.items in
    let counts : count_new last (drop (length row) entries) ≡ count_new last entries = ap (λ (xs : List ℕ). count_new last (drop (length xs) entries)) items in
    record {
      first = first_none before entries row items;
      grows = grows_not before;
      from = omega arith;
      place = omega arith;
      found = first_found last (drop (length row) entries);
      gaps = subst (λ (xs : List ℕ). DifferIn c.args.gaps.now last (drop (length xs) entries)) (sym items) c.requires.gaps;
      splice = λ others differ. subst (λ (xs : List ℕ). DifferIn c.args.gaps.now old (xs ++ others)) (sym items) differ;
      steps = omega arith;
      least = least_kept (2 * count_new last entries) (2 * count_new last (drop (length row) entries)) c.args.arena.now.steps (omega arith);
      same = λ same. let none = ap (λ (xs : List ℕ). differing_count xs old) items in omega arith;
    }
