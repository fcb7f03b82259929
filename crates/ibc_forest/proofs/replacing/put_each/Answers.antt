-- One leaf more.
use Rattle.std.proofs.Common.{◌≡◌, ℕ, ◌+◌, ◌-◌, ◌*◌, ◌≤◌, List, length, get_or, drop, sym, ap, ◌∙◌, subst, arith}
use Rattle.std.proofs.lemmas.List.{length-set}
use Rattle.std.proofs.lemmas.Nat.{mul-le}
use Rattle.ibc_forest.specs.NodeLevels.{rows_of, first_row}
use Rattle.ibc_forest.specs.Replacements.{AreLong, with_leaves}
use Rattle.ibc_forest.specs.declared.replacement.Replacement.{Replacement}
use Rattle.ibc_forest.proofs.Counting.{least_more}
use Rattle.ibc_forest.proofs.OtherLeaves.{with_next, with_end}
use Rattle.ibc_forest.proofs.Pairing.{grows_on, grows_longer}
use Rattle.ibc_forest.proofs.replacing.put_each.Goals as goal

abbrev none : Replacement
none = record { place = 0; leaf = 0 }

pub put_noted-requires-clause-place : goal.put_noted-requires-clause-place
put_noted-requires-clause-place c =
    let width = c.loop-i.invariant.width in
    let there = (c.requires.fit c.loop-i.i none c.loop-i-test.true).0 in
    omega arith

pub put_noted-requires-clause-leaf : goal.put_noted-requires-clause-leaf
put_noted-requires-clause-leaf c =
    let longer = grows_longer c.args.arena.now.trees c.loop-i.arena.trees c.loop-i.invariant.grows in
    let there = (c.requires.fit c.loop-i.i none c.loop-i-test.true).1 in
    omega arith

pub put_noted-requires-clause-long : goal.put_noted-requires-clause-long
put_noted-requires-clause-long c = subst (λ n. AreLong n c.loop-i.noted.items) (sym c.loop-i.auto.rows) c.loop-i.invariant.long

pub loop-i-preserved : goal.loop-i-preserved
loop-i-preserved c =
    let others = c.args.others.now in
    let i = c.loop-i.i in
    let other = get_or others i none in
    let now = first_row (rows_of c.loop-i.rows) in
    let above : ℕ = length c.args.rows.now - 1 in
    let counted : length c.loop-i.rows ≡ length c.args.rows.now = c.loop-i.auto.rows in
    let row = c.in_ok-put_noted.ensures.row in
    let so_far = c.loop-i.invariant.steps in
    let steps = c.in_ok-put_noted.ensures.steps in
    let share : (i + 1) * above ≡ i * above + above = omega arith in
    record {
      levels = c.in_ok-put_noted.ensures.levels;
      row = ap (λ (row : List ℕ). with_leaves row (drop (i + 1) others)) row ∙ sym (with_next now others i none c.loop-i-test.true) ∙ c.loop-i.invariant.row;
      width = ap length row ∙ length-set now other.place other.leaf ∙ c.loop-i.invariant.width;
      grows = grows_on c.args.arena.now.trees c.loop-i.arena.trees c.put_noted.new.arena.trees c.loop-i.invariant.grows c.put_noted.ensures.grows;
      steps = omega arith;
      least = least_more 0 c.args.arena.now.steps c.loop-i.arena.steps c.put_noted.new.arena.steps c.loop-i.invariant.least c.in_ok-put_noted.ensures.least;
      noted = c.put_noted.ensures.noted ∙ c.loop-i.invariant.noted;
      long = subst (λ n. AreLong n c.put_noted.new.noted.items) counted c.put_noted.ensures.long;
    }

pub returns-in_err-put_noted-clause-grows : goal.returns-in_err-put_noted-clause-grows
returns-in_err-put_noted-clause-grows c = grows_on c.args.arena.now.trees c.loop-i.arena.trees c.put_noted.new.arena.trees c.loop-i.invariant.grows c.put_noted.ensures.grows

pub returns-in_err-put_noted-clause-long : goal.returns-in_err-put_noted-clause-long
returns-in_err-put_noted-clause-long c = subst (λ n. AreLong n c.put_noted.new.noted.items) c.loop-i.auto.rows c.put_noted.ensures.long

pub returns-clause-row : goal.returns-clause-row
returns-clause-row c = sym (with_end (first_row (rows_of c.loop-i.rows)) c.args.others.now c.loop-i.i c.loop-i-test.false) ∙ c.loop-i.invariant.row

pub returns-clause-steps : goal.returns-clause-steps
returns-clause-steps c =
    let above : ℕ = length c.args.rows.now - 1 in
    let low : c.loop-i.i ≤ length c.args.others.now = c.loop-i.auto.i-end in
    let most = mul-le c.loop-i.i above (length c.args.others.now) above low (omega arith) in
    let steps = c.loop-i.invariant.steps in
    omega arith
