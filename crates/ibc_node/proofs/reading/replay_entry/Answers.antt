-- The entry is restored, and put to the world.
use Rattle.std.proofs.Common.{◌≡◌}
use Rattle.std.proofs.lemmas.Result.{err_from_is_err_and, IfErr-weaker}
use Rattle.ibc_journal.specs.Entries.{item}
use Rattle.ibc_node.specs.declared.fault.NodeFault.{NodeFault}
use Rattle.ibc_node.specs.declared.fault.NodeFault.TheVariants.{NoMemory}
use Rattle.ibc_node.specs.Faults.{IfFault, IsOfEntry}
use Rattle.ibc_node.proofs.Opened.{replays_one}
use Rattle.ibc_node.proofs.Reasons.{memory_of_entry}
use Rattle.ibc_node.proofs.Unlawful.{stops_item}
use Rattle.ibc_node.proofs.reading.replay_entry.Goals as goal

pub returns-clause-replayed : goal.returns-clause-replayed
returns-clause-replayed c =
    replays_one c.args.world.now c.replay_alone.new.world c.in_ok-entry.entry (item c.args.kept) c.replay_alone.result c.in_ok-entry.ensures.entry c.replay_alone.ensures.replayed

pub returns-clause-differs : goal.returns-clause-differs
returns-clause-differs c =
    stops_item c.args.world.now c.replay_alone.new.world c.args.place c.in_ok-entry.entry (item c.args.kept) c.replay_alone.result c.in_ok-entry.ensures.entry c.replay_alone.ensures.differs

pub returns-in_err-entry-clause-faults : goal.returns-in_err-entry-clause-faults
returns-in_err-entry-clause-faults c =
    let p = err_from_is_err_and c.from_residual.result c.from_residual.ensures.1 in
    rw (p.1, p.2) c.in_err-entry.ensures.faults

pub returns-clause-faults : goal.returns-clause-faults
returns-clause-faults c =
    IfErr-weaker c.replay_alone.result (IfFault (λ (why : NodeFault). why ≡ NoMemory)) (IfFault (IsOfEntry c.args.place (item c.args.kept))) (memory_of_entry c.args.place (item c.args.kept))
    c.replay_alone.ensures.faults
