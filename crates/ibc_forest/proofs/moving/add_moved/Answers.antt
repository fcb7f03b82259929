-- The copy is noted.
use Rattle.std.proofs.Common.{◌∷◌, []}
use Rattle.ibc_forest.specs.Nodes.{tree_of_node, Grows}
use Rattle.ibc_forest.proofs.Moved.{moved-grows, moved-set, added}
use Rattle.ibc_forest.proofs.moving.add_moved.Goals as goal

pub returns-clause-moved : goal.returns-clause-moved
returns-clause-moved c =
    let old = c.args.old.now in
    let before = c.args.new.now.trees in
    let after = c.add.new.self.trees in
    let g : Grows before after = (tree_of_node before c.args.node.below ∷ [], c.in_ok-copy.ensures.ok) in
    let is = added old before after (tree_of_node before c.args.node.below) c.args.number c.in_ok-copy.copy c.in_ok-copy.ensures.ok c.in_ok-copy.ensures.number c.requires.same in
    moved-set old after c.args.moved.now c.args.number c.in_ok-copy.copy c.requires.there is (moved-grows old before after c.args.moved.now g c.requires.moved)
