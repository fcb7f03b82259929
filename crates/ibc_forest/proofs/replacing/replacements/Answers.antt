-- What stays in front of a gap, and what comes in it.
use Rattle.std.proofs.Common.{◌≡◌, ℕ, ◌+◌, ◌*◌, ◌≤◌, length, get_or, drop, sym, ap, ◌∙◌, arith, subst}
use Rattle.std.specs.FinMap.{is_sorted}
use Rattle.ibc_ids.specs.Texts.{text_cmp}
use Rattle.ibc_merkle.specs.Tree.{Pairs}
use Rattle.ibc_merkle.proofs.Sorted.{rising_from_sorted}
use Rattle.ibc_forest.specs.Leaves.{row_pairs, count_new, keys}
use Rattle.ibc_forest.specs.Counts.{CountsAtLeast}
use Rattle.ibc_forest.specs.Gaps.{DifferIn, IsFoundFrom}
use Rattle.ibc_forest.specs.declared.gap.Gap.{Gap}
use Rattle.ibc_forest.proofs.Counting.{least_turn, least_end}
use Rattle.ibc_forest.proofs.OtherLeaves.{opened_here, whole_here, come_next}
use Rattle.ibc_forest.proofs.OverGaps.{found_past}
use Rattle.ibc_forest.proofs.Pairing.{grows_on}
use Rattle.ibc_forest.proofs.LeafRows.{pairs-grows, leaves-grows}
use Rattle.ibc_forest.proofs.replacing.replacements.Goals as goal

abbrev none : Gap
none = record { kept = 0; gone = 0; come = 0 }

pub add_others-requires-clause-leaves : goal.add_others-requires-clause-leaves
add_others-requires-clause-leaves c = leaves-grows c.args.arena.now.trees c.loop-i.arena.trees c.args.old.now c.loop-i.invariant.grows c.requires.leaves

pub add_others-requires-clause-last : goal.add_others-requires-clause-last
add_others-requires-clause-last c = ap (is_sorted text_cmp) (pairs-grows c.args.arena.now.trees c.loop-i.arena.trees c.args.old.now c.loop-i.invariant.grows c.requires.leaves.0) ∙ c.requires.last

pub add_others-requires-clause-replaced : goal.add_others-requires-clause-replaced
add_others-requires-clause-replaced c =
    let before = c.args.arena.now.trees in
    let trees = c.loop-i.arena.trees in
    let old = c.args.old.now in
    let entries : Pairs = c.args.entries.now in
    let last : Pairs = row_pairs before old in
    let gaps = c.args.gaps.now in
    let i = c.loop-i.i in
    let from = c.loop-i.from in
    (
    opened_here trees last entries old c.loop-i.others.items gaps i from none
    (leaves-grows before trees old c.loop-i.invariant.grows c.requires.leaves) (pairs-grows before trees old c.loop-i.invariant.grows c.requires.leaves.0)
    (rising_from_sorted last c.requires.last) (rising_from_sorted entries c.requires.sorted) c.loop-i.invariant.replaced c.loop-i.invariant.from c.loop-i-test.true c.loop-i.invariant.gaps
    (c.requires.replaced i none c.loop-i-test.true)
    ).replaced

pub add_others-requires-clause-found : goal.add_others-requires-clause-found
add_others-requires-clause-found c =
    let before = c.args.arena.now.trees in
    let trees = c.loop-i.arena.trees in
    let old = c.args.old.now in
    let entries : Pairs = c.args.entries.now in
    let last : Pairs = row_pairs before old in
    let gaps = c.args.gaps.now in
    let i = c.loop-i.i in
    let from = c.loop-i.from in
    let gap = get_or gaps i none in
    let behind = c.place_past-behind.result in
    let its = opened_here trees last entries old c.loop-i.others.items gaps i from none
    (leaves-grows before trees old c.loop-i.invariant.grows c.requires.leaves) (pairs-grows before trees old c.loop-i.invariant.grows c.requires.leaves.0)
    (rising_from_sorted last c.requires.last) (rising_from_sorted entries c.requires.sorted) c.loop-i.invariant.replaced c.loop-i.invariant.from c.loop-i-test.true c.loop-i.invariant.gaps
    (c.requires.replaced i none c.loop-i-test.true)
    in
    let held : row_pairs trees old ≡ last = pairs-grows before trees old c.loop-i.invariant.grows c.requires.leaves.0 in
    subst (λ (pairs : Pairs). IsFoundFrom pairs behind (drop (from + gap.kept) entries)) (sym held)
    (found_past last entries from from gap.kept c.loop-i.place behind its.past c.loop-i.invariant.found c.place_past-behind.ensures.none c.place_past-behind.ensures.some)

pub add_others-requires-clause-end : goal.add_others-requires-clause-end
add_others-requires-clause-end c =
    let before = c.args.arena.now.trees in
    let trees = c.loop-i.arena.trees in
    let old = c.args.old.now in
    let entries : Pairs = c.args.entries.now in
    let last : Pairs = row_pairs before old in
    let gaps = c.args.gaps.now in
    let i = c.loop-i.i in
    let from = c.loop-i.from in
    let its = opened_here trees last entries old c.loop-i.others.items gaps i from none
    (leaves-grows before trees old c.loop-i.invariant.grows c.requires.leaves) (pairs-grows before trees old c.loop-i.invariant.grows c.requires.leaves.0)
    (rising_from_sorted last c.requires.last) (rising_from_sorted entries c.requires.sorted) c.loop-i.invariant.replaced c.loop-i.invariant.from c.loop-i-test.true c.loop-i.invariant.gaps
    (c.requires.replaced i none c.loop-i-test.true)
    in
    let within = its.within in
    omega arith

pub returns-in_err-place-clause-grows : goal.returns-in_err-place-clause-grows
returns-in_err-place-clause-grows c = grows_on c.args.arena.now.trees c.loop-i.arena.trees c.add_others.new.arena.trees c.loop-i.invariant.grows c.add_others.ensures.grows

pub loop-i-preserved : goal.loop-i-preserved
loop-i-preserved c =
    let before = c.args.arena.now.trees in
    let trees = c.loop-i.arena.trees in
    let after = c.add_others.new.arena.trees in
    let old = c.args.old.now in
    let entries : Pairs = c.args.entries.now in
    let last : Pairs = row_pairs before old in
    let gaps = c.args.gaps.now in
    let i = c.loop-i.i in
    let from = c.loop-i.from in
    let gap = get_or gaps i none in
    let start : ℕ = from + gap.kept in
    let end : ℕ = start + gap.come in
    let its = opened_here trees last entries old c.loop-i.others.items gaps i from none
    (leaves-grows before trees old c.loop-i.invariant.grows c.requires.leaves) (pairs-grows before trees old c.loop-i.invariant.grows c.requires.leaves.0)
    (rising_from_sorted last c.requires.last) (rising_from_sorted entries c.requires.sorted) c.loop-i.invariant.replaced c.loop-i.invariant.from c.loop-i-test.true c.loop-i.invariant.gaps
    (c.requires.replaced i none c.loop-i-test.true)
    in
    let held : row_pairs trees old ≡ last = pairs-grows before trees old c.loop-i.invariant.grows c.requires.leaves.0 in
    let there = its.there in
    let joined : from + (gap.kept + gap.come) ≡ end = omega arith in
    let steps : c.add_others.new.arena.steps + 2 * count_new last (drop end entries) ≤ c.loop-i.arena.steps + 2 * count_new last (drop start entries) =
    subst (λ (pairs : Pairs). c.add_others.new.arena.steps + 2 * count_new pairs (drop end entries) ≤ c.loop-i.arena.steps + 2 * count_new pairs (drop start entries)) held c.in_ok-place.ensures.steps
    in
    let least : CountsAtLeast (2 * count_new last (drop start entries)) c.loop-i.arena.steps (c.add_others.new.arena.steps + 2 * count_new last (drop end entries)) =
    subst (λ (pairs : Pairs). CountsAtLeast (2 * count_new pairs (drop start entries)) c.loop-i.arena.steps (c.add_others.new.arena.steps + 2 * count_new pairs (drop end entries))) held c.in_ok-place.ensures.least
    in
    let stayed : count_new last (drop start entries) ≡ count_new last (drop from entries) = its.past.count in
    let so_far = c.loop-i.invariant.steps in
    let few = c.in_ok-place.ensures.few in
    let come = come_next gaps i none c.loop-i-test.true in
    let few_so_far = c.loop-i.invariant.few in
    record {
      replaced = c.in_ok-place.ensures.replaced;
      grows = grows_on before trees after c.loop-i.invariant.grows c.add_others.ensures.grows;
      from = omega arith;
      place = c.in_ok-place.ensures.place;
      found = subst (λ (pairs : Pairs). IsFoundFrom pairs c.in_ok-place.place (drop end entries)) held c.in_ok-place.ensures.found;
      gaps = subst (λ n. DifferIn (drop (i + 1) gaps) (drop n last) (drop n entries)) joined its.next;
      steps = omega arith;
      least =
          least_turn (2 * count_new last entries) (2 * count_new last (drop start entries)) (2 * count_new last (drop from entries)) (2 * count_new last (drop end entries))
          c.args.arena.now.steps c.loop-i.arena.steps c.add_others.new.arena.steps (omega arith) least c.loop-i.invariant.least;
      few = omega arith;
      same = λ same.
          let now = c.loop-i.invariant.same same in
          let more : length c.add_others.new.others.items + count_new last (drop end entries) ≤ length c.loop-i.others.items + count_new last (drop start entries) =
          subst (λ (pairs : Pairs). keys entries ≡ keys pairs → length c.add_others.new.others.items + count_new pairs (drop end entries) ≤ length c.loop-i.others.items + count_new pairs (drop start entries)) held
          c.in_ok-place.ensures.same same
          in
          omega arith;
    }

pub returns-clause-leaves : goal.returns-clause-leaves
returns-clause-leaves c =
    let before = c.args.arena.now.trees in
    let trees = c.loop-i.arena.trees in
    let old = c.args.old.now in
    let entries : Pairs = c.args.entries.now in
    let last : Pairs = row_pairs before old in
    let gaps = c.args.gaps.now in
    let i = c.loop-i.i in
    let from = c.loop-i.from in
    let w = whole_here trees last entries old c.loop-i.others.items gaps i from
    (leaves-grows before trees old c.loop-i.invariant.grows c.requires.leaves) (pairs-grows before trees old c.loop-i.invariant.grows c.requires.leaves.0)
    c.loop-i.invariant.replaced c.loop-i.invariant.from c.loop-i-test.false c.loop-i.invariant.gaps
    in
    w.0.leaves

pub returns-clause-stand : goal.returns-clause-stand
returns-clause-stand c =
    let before = c.args.arena.now.trees in
    let trees = c.loop-i.arena.trees in
    let old = c.args.old.now in
    let entries : Pairs = c.args.entries.now in
    let last : Pairs = row_pairs before old in
    let gaps = c.args.gaps.now in
    let i = c.loop-i.i in
    let from = c.loop-i.from in
    let w = whole_here trees last entries old c.loop-i.others.items gaps i from
    (leaves-grows before trees old c.loop-i.invariant.grows c.requires.leaves) (pairs-grows before trees old c.loop-i.invariant.grows c.requires.leaves.0)
    c.loop-i.invariant.replaced c.loop-i.invariant.from c.loop-i-test.false c.loop-i.invariant.gaps
    in
    w.0.stand

pub returns-clause-least : goal.returns-clause-least
returns-clause-least c =
    let before = c.args.arena.now.trees in
    let trees = c.loop-i.arena.trees in
    let old = c.args.old.now in
    let entries : Pairs = c.args.entries.now in
    let last : Pairs = row_pairs before old in
    let gaps = c.args.gaps.now in
    let i = c.loop-i.i in
    let from = c.loop-i.from in
    let w = whole_here trees last entries old c.loop-i.others.items gaps i from
    (leaves-grows before trees old c.loop-i.invariant.grows c.requires.leaves) (pairs-grows before trees old c.loop-i.invariant.grows c.requires.leaves.0)
    c.loop-i.invariant.replaced c.loop-i.invariant.from c.loop-i-test.false c.loop-i.invariant.gaps
    in
    let none_left = w.1 in
    least_end (2 * count_new last entries) (2 * count_new last (drop from entries)) c.args.arena.now.steps c.loop-i.arena.steps (omega arith) c.loop-i.invariant.least
