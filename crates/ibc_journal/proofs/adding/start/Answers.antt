use Rattle.sqlite.specs.Held.{state}
use Rattle.sqlite.proofs.StateLemmas.{survives_weaker}
use Rattle.ibc_journal.proofs.Transactions.{error_keeps, begins, begin_leaves_nothing}
use Rattle.ibc_journal.proofs.adding.start.Goals as goal

pub returns : goal.returns
returns g c =
    let old = state g.S.Store c.args.conn.now in
    let new = state g.S.Store c.execute.new.self in
    record {
      begun = λ clean. begins old new c.execute.result (c.execute.ensures.runs clean);
      none = λ clean. error_keeps old new _ _ c.execute.result (c.execute.ensures.runs clean);
      crash = survives_weaker old new _ _ (λ clean db may. begin_leaves_nothing old db may) c.execute.ensures.survives;
    }
