use Rattle.std.proofs.Common.{map, take}
use Rattle.serde_json.specs.View.{view}
use Rattle.ibc_script.specs.ScriptValues.{AreEach, IsToken}
use Rattle.ibc_script.proofs.reading.transfers.read_tokens.Given as goal

abbrev pub invariant-loop-value : goal.invariant-loop-value
invariant-loop-value l = AreEach IsToken l.tokens.items (map view (take l.value-index l.values))
