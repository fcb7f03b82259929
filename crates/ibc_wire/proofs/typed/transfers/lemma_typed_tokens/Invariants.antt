-- The fields of the tokens so far are what their types promise.
use Rattle.std.proofs.Common.{◌≡◌, true, take}
use Rattle.std.specs.List.{flat_map}
use Rattle.ibc_wire.specs.Fields.{are_typed}
use Rattle.ibc_wire.specs.Spelling.{token_fields}
use Rattle.ibc_wire.proofs.typed.transfers.lemma_typed_tokens.Given as goal

abbrev pub invariant-loop-token : goal.invariant-loop-token
invariant-loop-token l = are_typed (flat_map token_fields (take l.token-index l.tokens)) ≡ true
