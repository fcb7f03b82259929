-- The four leaves stand behind one another.
use Rattle.std.proofs.Common.{◌≡◌, [], ◌∷◌, map}
use Rattle.ibc_forest.specs.Levels.{leaf_of, trees_at}
use Rattle.ibc_forest.specs.NodeLevels.{Stand}
use Rattle.ibc_forest.proofs.FourLeaves.{four_leaves}
use Rattle.ibc_forest.proofs.arena.Arena.leaf_four.Goals as goal

made : (c : goal.In_ok-fourth) → let leaves = c.in_ok-first.first ∷ c.in_ok-second.second ∷ c.in_ok-third.third ∷ c.in_ok-fourth.fourth ∷ [] in
    (trees_at c.hashed_leaf-4.new.self.trees leaves ≡ map leaf_of c.args.entries.now) × Stand c.hashed_leaf-4.new.self.trees leaves
made c =
    four_leaves c.hashed_leaf.new.self.trees c.hashed_leaf-2.new.self.trees c.hashed_leaf-3.new.self.trees c.hashed_leaf-4.new.self.trees _ _ _ _
    c.args.entries.now c.index-entries-0.result c.index-entries-1.result c.index-entries-2.result c.index-entries-3.result c.requires
    c.hashed_leaf-2.ensures.grows c.hashed_leaf-3.ensures.grows c.hashed_leaf-4.ensures.grows
    c.in_ok-first.ensures.there c.in_ok-second.ensures.there c.in_ok-third.ensures.there c.in_ok-fourth.ensures.there
    c.index-entries-0.is c.index-entries-1.is c.index-entries-2.is c.index-entries-3.is
    c.in_ok-first.ensures.leaf c.in_ok-second.ensures.leaf c.in_ok-third.ensures.leaf c.in_ok-fourth.ensures.leaf

pub returns-clause-leaves : goal.returns-clause-leaves
returns-clause-leaves c = (made c).0

pub returns-clause-stand : goal.returns-clause-stand
returns-clause-stand c = (made c).1
