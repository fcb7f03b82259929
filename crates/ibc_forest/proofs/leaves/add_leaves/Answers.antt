-- Some leaves more, until there are enough.
use Rattle.std.proofs.Common.{ℕ, ◌+◌, List, length, drop, refl, sym, ap, ◌∙◌, arith, subst}
use Rattle.std.specs.FinMap.{is_sorted}
use Rattle.ibc_ids.specs.Texts.{text_cmp}
use Rattle.ibc_merkle.specs.Tree.{Pairs}
use Rattle.ibc_forest.specs.Leaves.{row_pairs}
use Rattle.ibc_forest.specs.Codes.{ArenaModel}
use Rattle.ibc_forest.specs.Gaps.{IsFoundFrom}
use Rattle.ibc_forest.proofs.LeafRows.{pairs-grows, leaves-grows}
use Rattle.ibc_forest.proofs.AddedLeaves.{Going, going_on, going_first}
use Rattle.ibc_forest.proofs.leaves.add_leaves.Goals.{then-len-i+in_ok-at, else-len-i}
use Rattle.ibc_forest.proofs.leaves.add_leaves.Goals as goal

pub add_some-requires-clause-leaves : goal.add_some-requires-clause-leaves
add_some-requires-clause-leaves c = leaves-grows c.args.arena.now.trees c.loop-i.arena.trees c.args.old.now c.loop-i.invariant.going.grows c.requires.leaves

pub add_some-requires-clause-last : goal.add_some-requires-clause-last
add_some-requires-clause-last c = ap (is_sorted text_cmp) (pairs-grows c.args.arena.now.trees c.loop-i.arena.trees c.args.old.now c.loop-i.invariant.going.grows c.requires.leaves.0) ∙ c.requires.last

pub add_some-requires-clause-found : goal.add_some-requires-clause-found
add_some-requires-clause-found c =
    subst (λ (pairs : Pairs). IsFoundFrom pairs c.loop-i.at (drop (length c.loop-i.row.items) c.args.entries.now))
    (sym (pairs-grows c.args.arena.now.trees c.loop-i.arena.trees c.args.old.now c.loop-i.invariant.going.grows c.requires.leaves.0)) c.loop-i.invariant.going.added.found

pub loop-i-preserved : goal.loop-i-preserved
loop-i-preserved c =
    let before = c.args.arena.now.trees in
    let old = c.args.old.now in
    let last : Pairs = row_pairs before old in
    let start = c.args.row.now.items in
    let going = c.loop-i.invariant.going in
    let i = c.loop-i.i in
    let goes = λ (arena : ArenaModel) (row : List ℕ) (at : ℕ). Going last c.args.entries.now before old start c.args.arena.now.steps c.args.end (i + 1) arena row at in
    let counted = c.len.ensures in
    let counts = c.loop-i.row.ok.0 in
    let next : goes c.if-len-i.arena c.if-len-i.row.items c.if-len-i.at =
    elim c.if-len-i.branch [
      | then-len-i+in_ok-at w ↦
          let same = w.if-len-i.true in
          let on =
          going_on last c.args.entries.now before old start c.loop-i.row.items w.add_some.new.row.items c.args.arena.now.steps c.args.end i c.loop-i.arena w.add_some.new.arena c.loop-i.at w.in_ok-at.at
          c.requires.leaves refl going (omega arith) w.in_ok-at.ensures.more w.in_ok-at.ensures.end w.add_some.ensures.grows w.in_ok-at.ensures.added
          in
          subst (λ arena. goes arena c.if-len-i.row.items c.if-len-i.at) (sym w.arena-is)
          (subst (λ row. goes w.add_some.new.arena row.items c.if-len-i.at) (sym w.row-is) (subst (goes w.add_some.new.arena w.add_some.new.row.items) (sym w.at-is) on))
      | else-len-i w ↦
          let other = w.if-len-i.false in
          let stays : goes c.loop-i.arena c.loop-i.row.items c.loop-i.at =
          record { added = going.added; longer = let longer = going.longer in omega arith; within = going.within; grows = going.grows }
          in
          subst (λ arena. goes arena c.if-len-i.row.items c.if-len-i.at) (sym w.arena-is)
          (subst (λ row. goes c.loop-i.arena row.items c.if-len-i.at) (sym w.row-is) (subst (goes c.loop-i.arena c.loop-i.row.items) (sym w.at-is) stays))
    ]
    in
    record { going = next }

pub loop-i-init : goal.loop-i-init
loop-i-init c =
    let n = c.len-i.ensures in
    let k = c.args.row.now.ok.0 in
    record {
      going =
          going_first (row_pairs c.args.arena.now.trees c.args.old.now) c.args.entries.now c.args.arena.now.trees c.args.old.now c.args.row.now.items c.args.end c.len-i.result c.args.arena.now c.args.place
          c.requires.first c.requires.place c.requires.found refl (omega arith) c.requires.from;
    }
