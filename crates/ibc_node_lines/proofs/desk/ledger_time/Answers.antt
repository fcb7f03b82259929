-- The view has the time of the working block.
use Rattle.std.proofs.Common.{◌≡◌, ◌∙◌, ℕ, Option, None, Some, ap, refl}
use Rattle.std.specs.List.{last_or}
use Rattle.ibc_machine.specs.chain.Records.{Block, MachineChain}
use Rattle.ibc_machine.specs.ics18.Relay.{View, view_at}
use Rattle.ibc_machine.specs.ledger.Ledgers.{state_of}
use Rattle.ibc_node_lines.proofs.desk.ledger_time.Goals as goal

its_time : (k : ℕ) (chain : MachineChain) (last : Option Block) → (view_at k chain last).working_time ≡ chain.time
its_time k chain None = refl
its_time k chain (Some last) = refl

pub returns : goal.returns
returns c =
    let chain = (state_of c.args.ledger.now.ledger).chain in
    c.working_time.ensures ∙ ap (λ (v : View). v.working_time) c.in_ok-view.ensures.ok ∙ its_time c.args.ledger.now.ledger.chain chain (last_or None chain.committed)
