-- What a handler gives, with what applications keep beside it: `on_core` and `on_balances`.
use Rattle.std.proofs.Common.{Ok}
use Rattle.ibc_machine.specs.declared.reply.Effect.{Effect}
use Rattle.ibc_machine.specs.chain.Records.{Core, Apps}
use Rattle.ibc_machine.specs.chain.Checks.{Checked, ◌>>=◌}
use Rattle.ibc_machine.specs.ics20.Bank.{Balances}
use Rattle.ibc_machine.specs.chain.Applications.{with_balances}
use Rattle.ibc_machine.proofs.PassedRows.{Gives, gives_ok, gives_bind}

pub gives_on_core : {A : Type 0} (P : Effect × Core × A → Type 0) (given : Checked (Effect × Core)) (app : A) → Gives (λ (w : Effect × Core). P (w.0, w.1, app)) given
    → Gives P (given >>= λ ((effect, after) : Effect × Core). Ok (effect, after, app))
gives_on_core P given app h = gives_bind _ _ λ (w : Effect × Core) is. gives_ok P _ (h.gives w is)

pub gives_on_balances : (P : Effect × Core × Apps → Type 0) (given : Checked (Effect × Core × Balances)) (apps : Apps)
    → Gives (λ (w : Effect × Core × Balances). P (w.0, w.1, with_balances apps w.2)) given
    → Gives P (given >>= λ ((effect, after, balances) : Effect × Core × Balances). Ok (effect, after, with_balances apps balances))
gives_on_balances P given apps h = gives_bind _ _ λ (w : Effect × Core × Balances) is. gives_ok P _ (h.gives w is)
