-- One leaf more.
use Rattle.std.proofs.Common.{◌≡◌, ℕ, ◌+◌, ◌*◌, ◌<◌, ◌≤◌, Ok, Result, length, get_or, drop, ap, ◌∙◌, arith, subst}
use Rattle.std.specs.declared.alloc.AllocError.{AllocError}
use Rattle.ibc_merkle.specs.Tree.{Pairs}
use Rattle.ibc_merkle.proofs.Sorted.{rising_from_sorted}
use Rattle.ibc_forest.specs.Leaves.{row_pairs, from_key, behind_key, is_new, count_new}
use Rattle.ibc_forest.specs.Counts.{CountsAtLeast}
use Rattle.ibc_forest.proofs.Counting.{least_on, least_kept}
use Rattle.ibc_forest.proofs.Finding.{stepped}
use Rattle.ibc_forest.proofs.LeafRows.{length-row_pairs, pairs-grows, leaves-grows, unlike_most}
use Rattle.ibc_forest.proofs.OtherLeaves.{replaced_more, place_rest, new_or_kept}
use Rattle.ibc_forest.proofs.Pairing.{grows_on, grows_not}
use Rattle.ibc_forest.proofs.replacing.add_others.Goals as goal

pub place_from-found-requires-clause-leaves : goal.place_from-found-requires-clause-leaves
place_from-found-requires-clause-leaves c = leaves-grows c.args.arena.now.trees c.loop-i.arena.trees c.args.old.now c.loop-i.invariant.grows c.requires.leaves

pub leaf_for-requires-clause-leaves : goal.leaf_for-requires-clause-leaves
leaf_for-requires-clause-leaves c = leaves-grows c.args.arena.now.trees c.loop-i.arena.trees c.args.old.now c.loop-i.invariant.grows c.requires.leaves

pub place_behind-at-requires-clause-leaves : goal.place_behind-at-requires-clause-leaves
place_behind-at-requires-clause-leaves c =
    leaves-grows c.args.arena.now.trees c.leaf_for.new.arena.trees c.args.old.now (grows_on _ c.loop-i.arena.trees _ c.loop-i.invariant.grows c.leaf_for.ensures.grows) c.requires.leaves

pub add_other-requires-clause-there : goal.add_other-requires-clause-there
add_other-requires-clause-there c = place_rest c.args.old.now c.loop-i.others.items c.loop-i.i c.loop-i.invariant.replaced.rest

ok_is : (r : Result ℕ AllocError) (x y : ℕ) → r ≡ Ok x → r ≡ Ok y → x ≡ y
ok_is r x y a b = cc

pub loop-i-preserved : goal.loop-i-preserved
loop-i-preserved c =
    let before = c.args.arena.now.trees in
    let trees = c.loop-i.arena.trees in
    let after = c.leaf_for.new.arena.trees in
    let old = c.args.old.now in
    let entries : Pairs = c.args.entries.now in
    let i = c.loop-i.i in
    let leaf = c.in_ok-leaf.leaf in
    let entry = c.index-entries-i.result in
    let found = c.place_from-found.result in
    let behind = c.place_behind-at.result in
    let last : Pairs = row_pairs before old in
    let l : i < length entries = let within = c.requires.end in let test = c.loop-i-test.true in omega arith in
    let in_row : i < length old = let within = c.requires.there in let test = c.loop-i-test.true in omega arith in
    let is : entry ≡ get_or entries i entry = c.index-entries-i.is in
    let all = grows_on before trees after c.loop-i.invariant.grows c.leaf_for.ensures.grows in
    let held : row_pairs trees old ≡ last = pairs-grows before trees old c.loop-i.invariant.grows c.requires.leaves.0 in
    let held_after : row_pairs after old ≡ last = pairs-grows before after old all c.requires.leaves.0 in
    let rest : drop found last ≡ from_key entry.0 (drop c.loop-i.at last) =
    subst (λ (ps : Pairs). drop found ps ≡ from_key entry.0 (drop c.loop-i.at ps)) held
    (c.place_from-found.ensures.rest ∙ ap (λ key. from_key key (drop c.loop-i.at (row_pairs trees old))) c.key.ensures)
    in
    let past : drop behind last ≡ behind_key entry.0 (drop found last) =
    subst (λ (ps : Pairs). drop behind ps ≡ behind_key entry.0 (drop found ps)) held_after
    (c.place_behind-at.ensures.rest ∙ ap (λ key. behind_key key (drop found (row_pairs after old))) c.key-in-loop-i.ensures)
    in
    let counted_last = length-row_pairs before old in
    let within : found ≤ length last = let w = c.place_from-found.ensures.within in omega arith in
    let step =
    stepped last entries i c.loop-i.at found behind entry (rising_from_sorted last c.requires.last) (rising_from_sorted entries c.requires.sorted) l is within c.loop-i.invariant.found rest past
    in
    let more = step.count in
    let steps : c.leaf_for.new.arena.steps ≤ c.loop-i.arena.steps + 2 * is_new entry (drop found last) =
    subst (λ (ps : Pairs). c.leaf_for.new.arena.steps ≤ c.loop-i.arena.steps + 2 * is_new entry (drop found ps)) held c.leaf_for.ensures.steps
    in
    let so_far = c.loop-i.invariant.steps in
    let least : CountsAtLeast (2 * is_new entry (drop found last)) c.loop-i.arena.steps c.leaf_for.new.arena.steps =
    subst (λ (ps : Pairs). CountsAtLeast (2 * is_new entry (drop found ps)) c.loop-i.arena.steps c.leaf_for.new.arena.steps) held c.in_ok-leaf.ensures.least
    in
    let all_steps : ℕ = 2 * count_new last (drop c.args.from entries) in
    let added = c.in_ok-add_other.ensures.count in
    let one = unlike_most leaf (get_or old i 0) in
    let few = c.loop-i.invariant.few in
    record {
      replaced =
          replaced_more trees after entries old c.loop-i.others.items c.add_other.new.others.items i leaf entry c.loop-i.invariant.replaced c.leaf_for.ensures.grows l in_row is
          c.in_ok-leaf.ensures.leaf c.in_ok-leaf.ensures.there c.in_ok-add_other.ensures.leaves c.in_ok-add_other.ensures.fit;
      grows = all;
      place = c.place_behind-at.ensures.within;
      found = step.next;
      steps = omega arith;
      least =
          least_on all_steps (2 * is_new entry (drop found last)) (2 * count_new last (drop i entries)) (2 * count_new last (drop (i + 1) entries)) c.args.arena.now.steps c.loop-i.arena.steps
          c.leaf_for.new.arena.steps (omega arith) least c.loop-i.invariant.least;
      few = omega arith;
      same = λ same.
          let now = c.loop-i.invariant.same same in
          let w = step.same same in
          let kept : is_new entry (drop found last) ≡ 0 → leaf ≡ get_or old i 0 =
          λ none.
          ok_is c.leaf_for.result leaf (get_or old found 0) c.in_ok-leaf.was
          (subst (λ (ps : Pairs). is_new entry (drop found ps) ≡ 0 → c.leaf_for.result ≡ Ok (get_or old found 0)) held c.leaf_for.ensures.kept none)
          ∙ ap (λ n. get_or old n 0) w.1
          in
          let differ = new_or_kept leaf (get_or old i 0) (is_new entry (drop found last)) kept in
          omega arith;
    }

pub loop-i-init : goal.loop-i-init
loop-i-init c =
    let all = 2 * count_new (row_pairs c.args.arena.now.trees c.args.old.now) (drop c.args.from c.args.entries.now) in
    record {
      replaced = c.requires.replaced;
      grows = grows_not c.args.arena.now.trees;
      place = c.requires.place;
      found = c.requires.found;
      steps = omega arith;
      least = least_kept all all c.args.arena.now.steps (omega arith);
      few = omega arith;
      same = λ same. omega arith;
    }
