-- One node more.
use Rattle.std.proofs.Common.{◌∷◌, ◌++◌, [], sym, ap, ◌∙◌, subst}
use Rattle.ibc_forest.specs.Nodes.{tree_of_node, IsRight, trees_of}
use Rattle.ibc_forest.proofs.Arenas.{trees_of-push, right_after}
use Rattle.ibc_forest.proofs.nodes.Nodes.add.Goals as goal

pub invariant_of-self-2 : goal.invariant_of-self-2
invariant_of-self-2 c =
    right_after c.self.inside.shelf c.args.node c.push.new.self c.in_ok-push.ensures.ok c.self.invariant (subst (λ trees. IsRight trees c.args.node) (sym c.self.view_is) c.requires)

pub returns-clause-ok : goal.returns-clause-ok
returns-clause-ok c =
    ap trees_of c.in_ok-push.ensures.ok ∙ trees_of-push c.self.inside.shelf c.args.node ∙ ap (λ trees. trees ++ tree_of_node trees c.args.node.below ∷ []) c.self.view_is
