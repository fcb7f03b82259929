use Rattle.std.proofs.Common.{◌≤◌, vec_len}
use Rattle.ibc_path_store.proofs.spare.fill.Given as goal

abbrev pub invariant-loop-made : goal.invariant-loop-made
invariant-loop-made l = l.made ≤ vec_len l.places
