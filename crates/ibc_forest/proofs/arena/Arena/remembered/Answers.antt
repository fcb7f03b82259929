-- What is remembered is the pair.
use Rattle.std.proofs.Common.{◌≡◌, ap, ◌∙◌, arith, length, subst}
use Rattle.ibc_merkle.specs.Tree.{Node}
use Rattle.ibc_forest.specs.Levels.{tree_at}
use Rattle.ibc_forest.specs.Codes.{ArenaModel}
use Rattle.ibc_forest.proofs.Arenas.{remembered}
use Rattle.ibc_forest.proofs.arena.Arena.remembered.Goals as goal

pub index-known-requires : goal.index-known-requires
index-known-requires c =
    let held = ap (λ (a : ArenaModel). length a.trees) c.self.view_is in
    let both = c.self.invariant.0 in
    omega arith

pub returns-then-known-right-clause-made : goal.returns-then-known-right-clause-made
returns-then-known-right-clause-made c =
    let nodes = c.self.inside.nodes in
    let same : nodes ≡ c.args.self.now.trees = ap (λ (a : ArenaModel). a.trees) c.self.view_is in
    let held = ap (λ (a : ArenaModel). length a.trees) c.self.view_is in
    let both = c.self.invariant.0 in
    let w = remembered nodes c.self.inside.known.items c.args.left c.index-known.result.now c.self.invariant.1 (omega arith) c.index-known.ensures c.if-known-gt0.true in
    subst (λ trees. tree_at trees c.index-known.result.now.parent ≡ Node (tree_at trees c.args.left) (tree_at trees c.args.right)) same
    (w.2 ∙ ap (λ right. Node (tree_at nodes c.args.left) (tree_at nodes right)) c.if-known-right.true)

pub returns-then-known-right-clause-there : goal.returns-then-known-right-clause-there
returns-then-known-right-clause-there c =
    let nodes = c.self.inside.nodes in
    let held = ap (λ (a : ArenaModel). length a.trees) c.self.view_is in
    let both = c.self.invariant.0 in
    let w = remembered nodes c.self.inside.known.items c.args.left c.index-known.result.now c.self.invariant.1 (omega arith) c.index-known.ensures c.if-known-gt0.true in
    omega (arith, w.1)
