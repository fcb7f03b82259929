-- One doubling more.
use Rattle.std.proofs.Common.{sym, ◌∙◌, arith}
use Rattle.ibc_merkle.proofs.Trees.{doubled-once}
use Rattle.ibc_merkle.proofs.tree.split_of.Goals as goal

pub loop-split-preserved : goal.loop-split-preserved
loop-split-preserved c = record {
  some = omega arith;
  below = omega arith;
  doubles =
      sym (doubled-once c.args.leaves c.loop-split.split _ (omega arith) (omega arith) (omega arith)) ∙ c.loop-split.invariant.doubles;
}
