-- One pair more.
use Rattle.std.proofs.Common.{◌≡◌, ◌≤◌, length, sym, ap, ◌∙◌, arith, subst}
use Rattle.std.proofs.lemmas.List.{take_all}
use Rattle.std.proofs.lemmas.List.Elements.{All-nil}
use Rattle.std.proofs.lemmas.Result.{on_ok_weaker}
use Rattle.ibc_forest.specs.Gathered.{PairedBut, WaitBehind}
use Rattle.ibc_forest.proofs.Counting.{least_more}
use Rattle.ibc_forest.proofs.Gathered.{gathered_all, gathered_first}
use Rattle.ibc_forest.proofs.Pairing.{grows_not, grows_on}
use Rattle.ibc_forest.proofs.rows.add_pairs.Goals as goal

pub loop-place-init : goal.loop-place-init
loop-place-init c =
    let trees = c.args.arena.now.trees in
    let row = c.args.row.now in
    let above = c.args.above.now.items in
    let none = c.new-waiting.ensures in
    let no_place = ap length none in
    record {
      gathered = subst (PairedBut trees row above) (sym none) (gathered_first trees row above c.requires.above);
      counted = omega arith;
      from = omega arith;
      room = omega arith;
      behind = subst (WaitBehind (length above)) (sym none) (All-nil (λ place. length above ≤ place));
      grows = grows_not trees;
      front = take_all (length above) above (omega arith);
      least = omega arith;
      steps = omega arith;
    }

pub loop-place-preserved : goal.loop-place-preserved
loop-place-preserved c =
    let start = length c.args.above.now.items in
    let so_far = c.loop-place.invariant in
    let one = c.in_ok-add_pair.ensures in
    let counted : length c.loop-place.above.items ≡ c.loop-place.place = so_far.counted in
    let from : start ≤ c.loop-place.place = so_far.from in
    let longer = one.counted in
    let steps = so_far.steps in
    let more = one.steps in
    record {
      gathered = one.gathered;
      counted = omega arith;
      from = omega arith;
      room = one.room;
      behind = one.behind start from so_far.behind;
      grows = grows_on c.args.arena.now.trees c.loop-place.arena.trees c.add_pair.new.arena.trees so_far.grows one.grows;
      front = one.front start (omega arith) so_far.behind ∙ so_far.front;
      least = least_more 0 c.args.arena.now.steps c.loop-place.arena.steps c.add_pair.new.arena.steps so_far.least one.least;
      steps = omega arith;
    }

pub returns-clause-above : goal.returns-clause-above
returns-clause-above c =
    on_ok_weaker c.make_waiting.result (gathered_all c.make_waiting.new.arena.trees c.args.row.now c.make_waiting.new.above.items) c.make_waiting.ensures.gathered
