use Rattle.ibc_ledger.proofs.Common.{refl}
use Rattle.ibc_ledger.proofs.Answered.{part_answered}
use Rattle.ibc_ledger.proofs.BankedApps.{transfer_part}
use Rattle.ibc_ledger.proofs.host_state.HostState.transfer.Goals as goal

pub returns : goal.returns
returns c =
    part_answered _ _ c.requires _ _ _ c.send_transfer.new.transfers (transfer_part c.args.self.now c.args.message.now c.requires) _ _ c.send_transfer.result
    (c.send_transfer.ensures.counted c.args.self.now.number c.args.self.now.chains) (λ _. refl) _ c.of_sent.ensures
