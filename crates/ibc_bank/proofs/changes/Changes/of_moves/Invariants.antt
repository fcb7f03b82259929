-- The moves so far were made in the changes.
use Rattle.std.proofs.Common.{◌≡◌, Ok, take}
use Rattle.ibc_bank.specs.BankModel.{AreBalanced, no_amount, state_of, state_after_changes}
use Rattle.ibc_bank.specs.Moves.{after_moves}
use Rattle.ibc_bank.proofs.changes.Changes.of_moves.Given as goal

abbrev pub invariant-loop-step : goal.invariant-loop-step
invariant-loop-step l = record {
  done : after_moves (take l.step-index l.moves) (state_of l.books) ≡ Ok (state_after_changes l.changes l.books);
  balanced : AreBalanced no_amount l.changes l.books;
}
