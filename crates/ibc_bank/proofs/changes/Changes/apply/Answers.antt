-- A move out of an escrow account is refused as its definition says.
use Rattle.std.proofs.Common.{◌≡◌, ◌⊎◌, Err, subst, sym}
use Rattle.std.specs.Result.{IfErr}
use Rattle.ibc_ids.specs.declared.refusal.Refusal.TheVariants.{NoMemory}
use Rattle.ibc_bank.specs.BankModel.{state_after_changes}
use Rattle.ibc_bank.specs.Moves.{after_move}
use Rattle.ibc_bank.proofs.changes.Changes.apply.Goals as goal

pub returns-in-Release-clause-err : goal.returns-in-Release-clause-err
returns-in-Release-clause-err c =
    subst (λ m. IfErr c.out_of_escrow.result (λ e. (e ≡ NoMemory) ⊎ (after_move m (state_after_changes c.args.self.now c.args.books.now) ≡ Err e)))
    (sym c.in-Release.is) c.out_of_escrow.ensures.err
