-- What is told is of the entry that was restored.
use Rattle.std.proofs.Common.{refl, sym}
use Rattle.ibc_node.proofs.node.kept_as.Goals as goal

pub returns : goal.returns
returns c = record {
  entry = c.in_ok-entry.entry;
  kept = c.in_ok-entry.ensures.entry;
  place_is = refl;
  chain_is = sym c.chain_of-chain.ensures;
  reply_is = refl;
}
