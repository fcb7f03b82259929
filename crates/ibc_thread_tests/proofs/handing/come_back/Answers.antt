use Rattle.std.proofs.Common.{All, ap, arith, length, subst}
use Rattle.std.proofs.lemmas.List.Elements.{All-head, All-tail}
use Rattle.std.specs.Vec.Iter.{into_iter_items}
use Rattle.ibc_race.specs.SharedWorlds.{HasItsBook}
use Rattle.ibc_thread_tests.proofs.handing.come_back.Goals as goal

pub comes_back-is_same-requires : goal.comes_back-is_same-requires
comes_back-is_same-requires g c =
    let P = HasItsBook g.W.WorldBrand.table g.W.WorldBrand.genesis g.W.WorldBrand.book in
    All-head P (c.in-Some.ledger, c.in-Some.opened) (into_iter_items c.next.new.self) (subst (All P) c.in-Some.ensures.steps.0 c.loop-ledger.invariant.left)

pub loop-ledger-preserved : goal.loop-ledger-preserved
loop-ledger-preserved g c =
    let P = HasItsBook g.W.WorldBrand.table g.W.WorldBrand.genesis g.W.WorldBrand.book in
    let at = c.loop-ledger in
    record {
      left = All-tail P (c.in-Some.ledger, c.in-Some.opened) (into_iter_items c.next.new.self) (subst (All P) c.in-Some.ensures.steps.0 at.invariant.left);
      counted =
          let long = ap length c.in-Some.ensures.steps.0 in
          let one_less = c.in-Some.ensures.steps.1 in
          let counted = at.invariant.counted in
          omega arith;
    }
