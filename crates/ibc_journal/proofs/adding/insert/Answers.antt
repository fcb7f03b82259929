use Rattle.sqlite.specs.Held.{state}
use Rattle.sqlite.proofs.StateLemmas.{survives_weaker}
use Rattle.ibc_journal.specs.Entries.{item}
use Rattle.ibc_journal.proofs.Transactions.{error_keeps}
use Rattle.ibc_journal.proofs.Added.{puts_behind, leaves}
use Rattle.ibc_journal.proofs.adding.insert.Goals as goal

pub returns : goal.returns
returns g c =
    let old = state g.S.Store c.args.conn.now in
    let new = state g.S.Store c.execute.new.self in
    let it = item c.args.entry.now in
    record {
      put = puts_behind old new c.args.place it c.execute.result
          (λ clean. rw (c.params-to_sql.ensures, c.params-to_sql-2.ensures, c.params-to_sql-3.ensures, c.params-to_sql-4.ensures, c.params-to_sql-5.ensures, c.params-to_sql-6.ensures, c.params-to_sql-7.ensures) at (c.execute.ensures.runs clean));
      none = λ clean. error_keeps old new _ _ c.execute.result (c.execute.ensures.runs clean);
      crash = survives_weaker old new _ _ (λ clean db may. leaves old c.args.place it db may)
          (rw (c.params-to_sql.ensures, c.params-to_sql-2.ensures, c.params-to_sql-3.ensures, c.params-to_sql-4.ensures, c.params-to_sql-5.ensures, c.params-to_sql-6.ensures, c.params-to_sql-7.ensures) at c.execute.ensures.survives);
    }
