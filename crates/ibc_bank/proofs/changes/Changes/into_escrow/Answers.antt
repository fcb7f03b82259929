-- A move from a user to an escrow account is a way from one account to another.
use Rattle.std.proofs.Common.{◌≡◌, ◌⊎◌, Ok, Err, refl, subst}
use Rattle.std.specs.Result.{OnOk, IfErr}
use Rattle.ibc_ids.specs.declared.refusal.Refusal.TheVariants.{NoMemory}
use Rattle.ibc_bank.specs.BankModel.{state_after_changes}
use Rattle.ibc_bank.specs.declared.moves.Move.TheVariants as move
use Rattle.ibc_bank.proofs.Carried.{into_escrow_is}
use Rattle.ibc_bank.proofs.changes.Changes.into_escrow.Goals as goal

pub returns-clause-ok : goal.returns-clause-ok
returns-clause-ok c =
    let same = into_escrow_is (move.Escrow c.args.user.now c.args.channel.now c.args.denom.now c.args.amount) _ _ c.args.denom.now c.args.amount c.user.result c.escrow.result (state_after_changes c.args.self.now c.args.books.now) refl c.user.ensures c.escrow.ensures in
    subst (λ x. OnOk c.carry.result (x ≡ Ok (state_after_changes c.carry.new.self c.args.books.now))) same c.carry.ensures.ok

pub returns-clause-err : goal.returns-clause-err
returns-clause-err c =
    let same = into_escrow_is (move.Escrow c.args.user.now c.args.channel.now c.args.denom.now c.args.amount) _ _ c.args.denom.now c.args.amount c.user.result c.escrow.result (state_after_changes c.args.self.now c.args.books.now) refl c.user.ensures c.escrow.ensures in
    subst (λ x. IfErr c.carry.result (λ e. (e ≡ NoMemory) ⊎ (x ≡ Err e))) same c.carry.ensures.err
