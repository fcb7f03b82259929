-- The beginning is read, and then the entries are put to the world.
use Rattle.std.proofs.Common.{option_copied, sym, ◌∙◌, subst, arith}
use Rattle.sqlite.specs.State.{HasCleanDisk}
use Rattle.sqlite.specs.Held.{state}
use Rattle.ibc_journal.specs.Restarts.{IsAtRest}
use Rattle.ibc_journal.proofs.Whole.{nothing_then, keeps_once}
use Rattle.ibc_node.specs.Nodes.{IsGiven, IsRestarted}
use Rattle.ibc_node.proofs.Beside.{stays_at_rest}
use Rattle.ibc_node.proofs.opening.go_on.Goals as goal

pub returns-clause-restarted : goal.returns-clause-restarted
returns-clause-restarted g c text items rest clean =
    let old = state g.S.Store c.args.conn.now in
    let mid = state g.S.Store c.beginning_of.new.conn in
    let calm : HasCleanDisk mid = omega (arith, c.replay_from.ensures.crash.clean, clean) in
    let read = c.as_slice.ensures.value ∙ (c.in_ok-began.ensures.began text items rest.journal calm).1 in
    let here = subst (λ t. IsAtRest mid t items) (sym read) (stays_at_rest old mid text items (c.in_ok-began.ensures.same text items rest.journal calm) rest) in
    subst (λ t. IsRestarted t items c.in_ok-past.past.world c.in_ok-past.past.end) read (c.in_ok-past.ensures.restarted items here.journal clean)

pub returns-clause-rest : goal.returns-clause-rest
returns-clause-rest g c text items rest clean =
    let old = state g.S.Store c.args.conn.now in
    let mid = state g.S.Store c.beginning_of.new.conn in
    let new = state g.S.Store c.replay_from.new.conn in
    let calm : HasCleanDisk mid = omega (arith, c.replay_from.ensures.crash.clean, clean) in
    let read = c.as_slice.ensures.value ∙ (c.in_ok-began.ensures.began text items rest.journal calm).1 in
    let here = subst (λ t. IsAtRest mid t items) (sym read) (stays_at_rest old mid text items (c.in_ok-began.ensures.same text items rest.journal calm) rest) in
    subst (λ t. IsAtRest new t items) read (c.in_ok-past.ensures.rest items here clean)

pub returns-clause-crash : goal.returns-clause-crash
returns-clause-crash g c =
    let old = state g.S.Store c.args.conn.now in
    let mid = state g.S.Store c.beginning_of.new.conn in
    nothing_then old mid (state g.S.Store c.replay_from.new.conn) (keeps_once old mid c.in_ok-began.ensures.same) c.beginning_of.ensures.crash c.replay_from.ensures.crash

pub returns-in_err-past-clause-crash : goal.returns-in_err-past-clause-crash
returns-in_err-past-clause-crash g c =
    let old = state g.S.Store c.args.conn.now in
    let mid = state g.S.Store c.beginning_of.new.conn in
    nothing_then old mid (state g.S.Store c.replay_from.new.conn) (keeps_once old mid c.in_ok-began.ensures.same) c.beginning_of.ensures.crash c.replay_from.ensures.crash

pub returns-clause-marked : goal.returns-clause-marked
returns-clause-marked g c text items rest clean =
    let old = state g.S.Store c.args.conn.now in
    let mid = state g.S.Store c.beginning_of.new.conn in
    let calm : HasCleanDisk mid = omega (arith, c.replay_from.ensures.crash.clean, clean) in
    let read = c.as_slice.ensures.value ∙ (c.in_ok-began.ensures.began text items rest.journal calm).1 in
    let here = subst (λ t. IsAtRest mid t items) (sym read) (stays_at_rest old mid text items (c.in_ok-began.ensures.same text items rest.journal calm) rest) in
    c.in_ok-past.ensures.marked items here.journal clean

pub returns-clause-asked : goal.returns-clause-asked
returns-clause-asked g c text items rest clean =
    let mid = state g.S.Store c.beginning_of.new.conn in
    let calm : HasCleanDisk mid = omega (arith, c.replay_from.ensures.crash.clean, clean) in
    subst (IsGiven (option_copied c.args.genesis)) (c.in_ok-began.ensures.began text items rest.journal calm).1 c.in_ok-judge.ensures.asked

pub returns-clause-genesis : goal.returns-clause-genesis
returns-clause-genesis g c text items rest clean =
    let mid = state g.S.Store c.beginning_of.new.conn in
    let calm : HasCleanDisk mid = omega (arith, c.replay_from.ensures.crash.clean, clean) in
    (c.in_ok-began.ensures.began text items rest.journal calm).1
