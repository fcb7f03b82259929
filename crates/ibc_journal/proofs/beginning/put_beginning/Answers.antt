use Rattle.sqlite.specs.Held.{state}
use Rattle.sqlite.proofs.StateLemmas.{survives_weaker}
use Rattle.ibc_journal.proofs.Transactions.{error_keeps}
use Rattle.ibc_journal.proofs.Begun.{put_beginning_put, put_beginning_leaves}
use Rattle.ibc_journal.proofs.beginning.put_beginning.Goals as goal

pub returns : goal.returns
returns g c =
    let old = state g.S.Store c.args.conn.now in
    let new = state g.S.Store c.execute.new.self in
    record {
      put = λ clean. put_beginning_put old new c.args.genesis.now c.execute.result (rw (c.params-to_sql.ensures, c.params-to_sql-2.ensures) at (c.execute.ensures.runs clean));
      none = λ clean. error_keeps old new _ _ c.execute.result (c.execute.ensures.runs clean);
      crash = survives_weaker old new _ _ (λ clean db may. put_beginning_leaves old c.args.genesis.now db may) (rw (c.params-to_sql.ensures, c.params-to_sql-2.ensures) at c.execute.ensures.survives);
    }
