use Rattle.std.proofs.Common.{◌≡◌, ◌≤◌, length, take}
use Rattle.ibc_merkle.specs.Proofs.{are_adjacent}
use Rattle.ibc_ics23_proof.proofs.PathTurns.{turns_of}
use Rattle.ibc_ics23_proof.proofs.operations.are_adjacent.Given as goal

abbrev pub invariant-loop-lefts : goal.invariant-loop-lefts
invariant-loop-lefts l = record {
  left_within : l.lefts ≤ length l.left;
  right_within : l.rights ≤ length l.right;
  parts : are_adjacent (turns_of (take l.lefts l.left)) (turns_of (take l.rights l.right)) ≡ are_adjacent (turns_of l.left) (turns_of l.right);
}

abbrev pub decreases-loop-lefts : goal.decreases-loop-lefts
decreases-loop-lefts l = l.lefts
