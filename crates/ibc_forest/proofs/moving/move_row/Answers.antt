-- One node more.
use Rattle.std.proofs.Common.{◌<◌, ◌∷◌, ◌++◌, [], length, get_or, take, sym, ap, ap₂, ◌∙◌, subst, arith}
use Rattle.std.proofs.lemmas.List.{map_push, take_all, take_more}
use Rattle.std.proofs.lemmas.List.Elements.{All-push}
use Rattle.ibc_forest.specs.Levels.{tree_at, trees_at}
use Rattle.ibc_forest.specs.NodeLevels.{Stand}
use Rattle.ibc_forest.proofs.Pairing.{grows_on, trees_at-grows, stand-grows}
use Rattle.ibc_forest.proofs.moving.move_row.Goals as goal

pub loop-i-preserved : goal.loop-i-preserved
loop-i-preserved c =
    let old = c.args.old.now in
    let before = c.loop-i.new.trees in
    let after = c.move_node.new.new.trees in
    let row = c.args.row.now in
    let next = c.loop-i.next.items in
    let i = c.loop-i.i in
    let copy = c.in_ok-copy.copy in
    let items = c.in_ok-push.ensures.items in
    let g = c.move_node.ensures.grows in
    record {
      same =
          ap (trees_at after) items
          ∙ map_push (tree_at after) next copy
          ∙ ap₂ (λ xs t. xs ++ t ∷ []) (trees_at-grows before after next g c.loop-i.invariant.stand ∙ c.loop-i.invariant.same) c.in_ok-copy.ensures.same
          ∙ sym (ap (trees_at old) (take_more row i 0 c.loop-i-test.true) ∙ map_push (tree_at old) (take i row) (get_or row i 0));
      stand = subst (Stand after) (sym items) (All-push (λ n. n < length after) next copy (stand-grows before after next g c.loop-i.invariant.stand) c.in_ok-copy.ensures.there);
      moved = c.in_ok-copy.ensures.moved;
      grows = grows_on c.args.new.now.trees before after c.loop-i.invariant.grows g;
      steps = c.move_node.ensures.steps ∙ c.loop-i.invariant.steps;
    }

pub returns-clause-same : goal.returns-clause-same
returns-clause-same c = c.loop-i.invariant.same ∙ ap (trees_at c.args.old.now) (take_all c.loop-i.i c.args.row.now (omega arith))

pub returns-in_err-copy-clause-grows : goal.returns-in_err-copy-clause-grows
returns-in_err-copy-clause-grows c = grows_on c.args.new.now.trees c.loop-i.new.trees c.move_node.new.new.trees c.loop-i.invariant.grows c.move_node.ensures.grows

pub returns-in_err-push-clause-grows : goal.returns-in_err-push-clause-grows
returns-in_err-push-clause-grows c = grows_on c.args.new.now.trees c.loop-i.new.trees c.move_node.new.new.trees c.loop-i.invariant.grows c.move_node.ensures.grows
