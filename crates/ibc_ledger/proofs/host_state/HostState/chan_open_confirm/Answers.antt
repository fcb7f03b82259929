use Rattle.ibc_ledger.proofs.Common.{refl, handle}
use Rattle.ibc_ledger.proofs.Answered.{core_answered}
use Rattle.ibc_ledger.proofs.host_state.HostState.chan_open_confirm.Goals as goal

pub returns : goal.returns
unfolding handle
returns c = core_answered _ _ c.requires tt _ _ refl _ c.open_confirm.result (c.open_confirm.ensures c.args.self.now.number c.args.self.now.chains) (λ _. refl) _ c.of_nothing.ensures
