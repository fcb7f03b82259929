use Rattle.std.proofs.Common.{◌≡◌, All, length, map, take}
use Rattle.serde_json.specs.View.{view}
use Rattle.ibc_script.specs.Scripts.{IsAmong}
use Rattle.ibc_script.specs.ScriptValues.{AreEach, IsStepObject}
use Rattle.ibc_script.proofs.reading.steps.read_steps.Given as goal

abbrev pub invariant-loop-object : goal.invariant-loop-object
invariant-loop-object l = record {
  among : All (IsAmong (length l.names)) l.steps.items;
  counted : length l.steps.items ≡ l.object-index;
  each : AreEach (IsStepObject l.names) l.steps.items (map view (take l.object-index l.values));
}
