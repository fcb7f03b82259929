use Rattle.std.proofs.Common.{◌≡◌, length, map, take, zip}
use Rattle.serde_json.specs.View.{view}
use Rattle.ibc_machine.specs.chain.Genesis.{chain_state}
use Rattle.ibc_script.specs.ScriptValues.{AreDifferent, AreEach, IsChainStart}
use Rattle.ibc_script.proofs.reading.chains.read_chains.Given as goal

abbrev pub invariant-loop-value : goal.invariant-loop-value
invariant-loop-value l = record {
  names : length l.names.items ≡ l.value-index;
  starts : length l.starts.items ≡ l.value-index;
  each : AreEach IsChainStart (zip l.names.items (map chain_state l.starts.items)) (map view (take l.value-index l.values));
  different : AreDifferent l.names.items;
}
