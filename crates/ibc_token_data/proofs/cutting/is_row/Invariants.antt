-- What is still to be seen decides, behind the last denomination.
use Rattle.std.proofs.Common.{◌≡◌, []}
use Rattle.ibc_token_data.specs.Cutting.{is_row}
use Rattle.ibc_token_data.proofs.cutting.is_row.Given as goal

abbrev pub invariant-loop-left : goal.invariant-loop-left
invariant-loop-left l = record { so_far : is_row 8 [] l.text ≡ is_row l.left l.last l.rest }

abbrev pub decreases-loop-left : goal.decreases-loop-left
decreases-loop-left l = l.left
