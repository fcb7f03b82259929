-- Whether the tokens that are left rise behind the last one is whether all do.
use Rattle.std.proofs.Common.{◌≡◌, drop, map}
use Rattle.serde_json.specs.View.{view}
use Rattle.ibc_lab.specs.Faults.{rise_after}
use Rattle.ibc_lab.proofs.tokens.rise_after.Given as goal

abbrev pub invariant-loop-token : goal.invariant-loop-token
invariant-loop-token l = rise_after (view l.last) (map view (drop l.token-index l.rest)) ≡ rise_after (view l.first) (map view l.rest)
