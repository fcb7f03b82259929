-- What the chains that are left say of the name, all say.
use Rattle.std.proofs.Common.{◌≡◌, drop, map}
use Rattle.serde_json.specs.View.{view}
use Rattle.ibc_lab.specs.Leaves.{is_known}
use Rattle.ibc_lab.proofs.leaf.is_known.Given as goal

abbrev pub invariant-loop-chain : goal.invariant-loop-chain
invariant-loop-chain l = is_known (map view (drop l.chain-index l.chains)) l.name ≡ is_known (map view l.chains) l.name
