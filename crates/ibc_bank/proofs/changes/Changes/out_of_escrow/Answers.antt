-- A move from an escrow account to a user is a way from one account to another.
use Rattle.std.proofs.Common.{◌≡◌, ◌⊎◌, Ok, Err, refl, subst}
use Rattle.std.specs.Result.{OnOk, IfErr}
use Rattle.ibc_ids.specs.declared.refusal.Refusal.TheVariants.{NoMemory}
use Rattle.ibc_bank.specs.BankModel.{state_after_changes}
use Rattle.ibc_bank.specs.declared.moves.Move.TheVariants as move
use Rattle.ibc_bank.proofs.Carried.{out_of_escrow_is}
use Rattle.ibc_bank.proofs.changes.Changes.out_of_escrow.Goals as goal

pub returns-clause-ok : goal.returns-clause-ok
returns-clause-ok c =
    let same = out_of_escrow_is (move.Release c.args.channel.now c.args.user.now c.args.denom.now c.args.amount) _ _ c.args.denom.now c.args.amount c.escrow.result c.user.result (state_after_changes c.args.self.now c.args.books.now) refl c.escrow.ensures c.user.ensures in
    subst (λ x. OnOk c.carry.result (x ≡ Ok (state_after_changes c.carry.new.self c.args.books.now))) same c.carry.ensures.ok

pub returns-clause-err : goal.returns-clause-err
returns-clause-err c =
    let same = out_of_escrow_is (move.Release c.args.channel.now c.args.user.now c.args.denom.now c.args.amount) _ _ c.args.denom.now c.args.amount c.escrow.result c.user.result (state_after_changes c.args.self.now c.args.books.now) refl c.escrow.ensures c.user.ensures in
    subst (λ x. IfErr c.carry.result (λ e. (e ≡ NoMemory) ⊎ (x ≡ Err e))) same c.carry.ensures.err
