use Rattle.ibc_ledger.proofs.Common.{refl, handle}
use Rattle.ibc_ledger.proofs.Answered.{core_answered}
use Rattle.ibc_ledger.proofs.host_state.HostState.conn_open_ack.Goals as goal

pub returns : goal.returns
unfolding handle
returns c = core_answered _ _ c.requires tt _ _ refl _ c.open_ack.result (c.open_ack.ensures c.args.self.now.chains) (λ _. refl) _ c.of_nothing.ensures
