-- All entries are put to the world of the genesis, so it is their replay.
use Rattle.std.proofs.lemmas.Result.{err_from_is_err_and}
use Rattle.sqlite.specs.Held.{state}
use Rattle.ibc_journal.proofs.Whole.{survives_same}
use Rattle.ibc_node.proofs.Beside.{restarts}
use Rattle.ibc_node.proofs.Reasons.{genesis_unreplayed, unread_unreplayed}
use Rattle.ibc_node.proofs.Unlawful.{unlawful}
use Rattle.ibc_node.proofs.opening.replay_from.Goals as goal

pub returns-clause-restarted : goal.returns-clause-restarted
returns-clause-restarted g c items has clean =
    let w = c.in_ok-world.ensures.world in
    restarts c.args.genesis.now items w.0 c.in_ok-world.world c.in_ok-past.past.world c.in_ok-past.past.end w.1 w.2 w.3 (c.in_ok-past.ensures.replayed items has clean)
    c.lemma_what_every_world_keeps.ensures (c.in_ok-past.ensures.read items has clean)

pub returns-in_err-world-clause-crash : goal.returns-in_err-world-clause-crash
returns-in_err-world-clause-crash g c = survives_same (state g.S.Store c.args.conn.now) _

pub returns-clause-rest : goal.returns-clause-rest
returns-clause-rest g c = c.in_ok-past.ensures.rest

pub returns-in_err-past-clause-differs : goal.returns-in_err-past-clause-differs
returns-in_err-past-clause-differs g c items has clean =
    let w = c.in_ok-world.ensures.world in
    let p = err_from_is_err_and c.from_residual-in_err-past.result c.from_residual-in_err-past.ensures.1 in
    rw (p.1, p.2) (unlawful c.args.genesis.now items w.0 c.in_ok-world.world _ w.1 w.2 (c.in_err-past.ensures.differs items has clean))

pub returns-clause-marked : goal.returns-clause-marked
returns-clause-marked g c = c.in_ok-past.ensures.marked

pub returns-in_err-past-clause-left : goal.returns-in_err-past-clause-left
returns-in_err-past-clause-left g c items rest clean = let p = err_from_is_err_and c.from_residual-in_err-past.result c.from_residual-in_err-past.ensures.1 in rw (p.1, p.2) (c.in_err-past.ensures.left items rest clean)

pub returns-in_err-world-clause-faults : goal.returns-in_err-world-clause-faults
returns-in_err-world-clause-faults g c items has clean =
    let p = err_from_is_err_and c.from_residual.result c.from_residual.ensures.1 in
    rw (p.1, p.2) (genesis_unreplayed c.args.genesis.now items _ c.in_err-world.ensures.faults)

pub returns-in_err-past-clause-faults : goal.returns-in_err-past-clause-faults
returns-in_err-past-clause-faults g c items has clean =
    let p = err_from_is_err_and c.from_residual-in_err-past.result c.from_residual-in_err-past.ensures.1 in
    rw (p.1, p.2) (unread_unreplayed c.args.genesis.now items _ (c.in_err-past.ensures.faults items has clean))
