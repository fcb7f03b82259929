-- The beginning is read, and then the entries are put to the world.
use Rattle.std.proofs.Common.{inl, option_copied, sym, ◌∙◌, subst, arith}
use Rattle.std.proofs.lemmas.Result.{err_from_is_err_and}
use Rattle.sqlite.specs.State.{HasCleanDisk}
use Rattle.sqlite.specs.Held.{state}
use Rattle.ibc_journal.specs.Tables.{IsJournal}
use Rattle.ibc_journal.specs.Restarts.{IsAtRest}
use Rattle.ibc_journal.proofs.Whole.{nothing_then, keeps_once}
use Rattle.ibc_node.specs.Nodes.{IsGiven, IsRestarted}
use Rattle.ibc_node.specs.Audits.{NamesPlace, IsUnlawful}
use Rattle.ibc_node.specs.Faults.{IsUnaudited}
use Rattle.ibc_node.proofs.Beside.{stays_at_rest}
use Rattle.ibc_node.proofs.Reasons.{judged_unaudited, unreplayed_unaudited}
use Rattle.ibc_node.proofs.auditing.audit_entries.Goals as goal

pub returns-in-Ok-clause-audited : goal.returns-in-Ok-clause-audited
returns-in-Ok-clause-audited g c text items journal clean =
    let old = state g.S.Store c.args.conn.now in
    let mid = state g.S.Store c.beginning_of.new.conn in
    let calm : HasCleanDisk mid = omega (arith, c.replay_from.ensures.crash.clean, clean) in
    let read = c.as_slice.ensures.value ∙ (c.in_ok-began.ensures.began text items journal calm).1 in
    let here = subst (λ t. IsJournal mid.now t items) (sym read) (keeps_once old mid c.in_ok-began.ensures.same text items journal calm) in
    let restarted : IsRestarted text items c.in-Ok.past.world c.in-Ok.past.end = subst (λ t. IsRestarted t items c.in-Ok.past.world c.in-Ok.past.end) read (c.in-Ok.ensures.restarted items here clean) in
    record { world = c.in-Ok.past.world; end = c.in-Ok.past.end; restarted = restarted; count = restarted.beside.read.1 }

pub returns-clause-audited : goal.returns-clause-audited
returns-clause-audited g c text items journal clean =
    let old = state g.S.Store c.args.conn.now in
    let mid = state g.S.Store c.beginning_of.new.conn in
    let calm : HasCleanDisk mid = omega (arith, c.replay_from.ensures.crash.clean, clean) in
    let read = c.as_slice.ensures.value ∙ (c.in_ok-began.ensures.began text items journal calm).1 in
    let here = subst (λ t. IsJournal mid.now t items) (sym read) (keeps_once old mid c.in_ok-began.ensures.same text items journal calm) in
    subst (λ t. NamesPlace c.in-Err-Differs.why × IsUnlawful t items c.in-Err-Differs.why) read (rw c.in-Err-Differs.field-0-is at (c.in-Err-Differs.ensures.differs items here clean))

pub returns-in-Ok-clause-crash : goal.returns-in-Ok-clause-crash
returns-in-Ok-clause-crash g c =
    let old = state g.S.Store c.args.conn.now in
    let mid = state g.S.Store c.beginning_of.new.conn in
    nothing_then old mid (state g.S.Store c.replay_from.new.conn) (keeps_once old mid c.in_ok-began.ensures.same) c.beginning_of.ensures.crash c.replay_from.ensures.crash

pub returns-in-Err-Fault-clause-crash : goal.returns-in-Err-Fault-clause-crash
returns-in-Err-Fault-clause-crash g c =
    let old = state g.S.Store c.args.conn.now in
    let mid = state g.S.Store c.beginning_of.new.conn in
    nothing_then old mid (state g.S.Store c.replay_from.new.conn) (keeps_once old mid c.in_ok-began.ensures.same) c.beginning_of.ensures.crash c.replay_from.ensures.crash

pub returns-clause-crash : goal.returns-clause-crash
returns-clause-crash g c =
    let old = state g.S.Store c.args.conn.now in
    let mid = state g.S.Store c.beginning_of.new.conn in
    nothing_then old mid (state g.S.Store c.replay_from.new.conn) (keeps_once old mid c.in_ok-began.ensures.same) c.beginning_of.ensures.crash c.replay_from.ensures.crash

pub returns-in-Ok-clause-asked : goal.returns-in-Ok-clause-asked
returns-in-Ok-clause-asked g c text items journal clean =
    let mid = state g.S.Store c.beginning_of.new.conn in
    let calm : HasCleanDisk mid = omega (arith, c.replay_from.ensures.crash.clean, clean) in
    subst (IsGiven (option_copied c.args.genesis)) (c.in_ok-began.ensures.began text items journal calm).1 c.in_ok-judge.ensures.asked

pub returns-clause-asked : goal.returns-clause-asked
returns-clause-asked g c text items journal clean =
    let mid = state g.S.Store c.beginning_of.new.conn in
    let calm : HasCleanDisk mid = omega (arith, c.replay_from.ensures.crash.clean, clean) in
    subst (IsGiven (option_copied c.args.genesis)) (c.in_ok-began.ensures.began text items journal calm).1 c.in_ok-judge.ensures.asked

pub returns-in-Ok-clause-rest : goal.returns-in-Ok-clause-rest
returns-in-Ok-clause-rest g c text items rest clean =
    let old = state g.S.Store c.args.conn.now in
    let mid = state g.S.Store c.beginning_of.new.conn in
    let new = state g.S.Store c.replay_from.new.conn in
    let calm : HasCleanDisk mid = omega (arith, c.replay_from.ensures.crash.clean, clean) in
    let read = c.as_slice.ensures.value ∙ (c.in_ok-began.ensures.began text items rest.journal calm).1 in
    let here = subst (λ t. IsAtRest mid t items) (sym read) (stays_at_rest old mid text items (c.in_ok-began.ensures.same text items rest.journal calm) rest) in
    subst (λ t. IsAtRest new t items) read (c.in-Ok.ensures.rest items here clean)

pub returns-clause-rest : goal.returns-clause-rest
returns-clause-rest g c text items rest clean =
    let old = state g.S.Store c.args.conn.now in
    let mid = state g.S.Store c.beginning_of.new.conn in
    let new = state g.S.Store c.replay_from.new.conn in
    let calm : HasCleanDisk mid = omega (arith, c.replay_from.ensures.crash.clean, clean) in
    let read = c.as_slice.ensures.value ∙ (c.in_ok-began.ensures.began text items rest.journal calm).1 in
    let here = subst (λ t. IsAtRest mid t items) (sym read) (stays_at_rest old mid text items (c.in_ok-began.ensures.same text items rest.journal calm) rest) in
    subst (λ t. IsAtRest new t items) read (rw c.in-Err-Differs.field-0-is at (c.in-Err-Differs.ensures.left items here clean))

-- ---- faults

pub returns-in_err-began-clause-faults : goal.returns-in_err-began-clause-faults
returns-in_err-began-clause-faults g c text items journal clean =
    let p = err_from_is_err_and c.from_residual.result c.from_residual.ensures.1 in
    rw (p.1, p.2) (inl c.in_err-began.ensures.faults)

pub returns-in_err-judge-clause-faults : goal.returns-in_err-judge-clause-faults
returns-in_err-judge-clause-faults g c text items journal clean =
    let p = err_from_is_err_and c.from_residual-in_err-judge.result c.from_residual-in_err-judge.ensures.1 in
    rw (p.1, p.2) (judged_unaudited (option_copied c.args.genesis) c.in_ok-began.began.genesis.items text c.in_ok-began.began.format items _ (c.in_ok-began.ensures.began text items journal clean) c.in_err-judge.ensures.faults)

pub returns-in-Err-Fault-clause-faults : goal.returns-in-Err-Fault-clause-faults
returns-in-Err-Fault-clause-faults g c text items journal clean =
    let old = state g.S.Store c.args.conn.now in
    let mid = state g.S.Store c.beginning_of.new.conn in
    let calm : HasCleanDisk mid = omega (arith, c.replay_from.ensures.crash.clean, clean) in
    let read = c.as_slice.ensures.value ∙ (c.in_ok-began.ensures.began text items journal calm).1 in
    let here = subst (λ t. IsJournal mid.now t items) (sym read) (keeps_once old mid c.in_ok-began.ensures.same text items journal calm) in
    let given = option_copied c.args.genesis in
    let why = c.in-Err-Fault.fault in
    subst (λ t. IsUnaudited given t items why) read (unreplayed_unaudited given _ items why (rw c.in-Err-Fault.field-0-is at (c.in-Err-Fault.ensures.faults items here clean)))
