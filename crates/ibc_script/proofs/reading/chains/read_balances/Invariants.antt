use Rattle.std.proofs.Common.{map, take}
use Rattle.serde_json.specs.View.{view}
use Rattle.ibc_script.specs.ScriptValues.{AreEach, IsHolding}
use Rattle.ibc_script.proofs.reading.chains.read_balances.Given as goal

abbrev pub invariant-loop-value : goal.invariant-loop-value
invariant-loop-value l = AreEach IsHolding l.balances.items (map view (take l.value-index l.values))
