use Rattle.sqlite.specs.Held.{state}
use Rattle.sqlite.proofs.StateLemmas.{survives_weaker}
use Rattle.ibc_journal.proofs.Transactions.{error_keeps}
use Rattle.ibc_journal.proofs.Begun.{make_meta_made, make_meta_leaves}
use Rattle.ibc_journal.proofs.beginning.make_meta.Goals as goal

pub returns : goal.returns
returns g c =
    let old = state g.S.Store c.args.conn.now in
    let new = state g.S.Store c.execute.new.self in
    record {
      made = λ clean. make_meta_made old new c.execute.result (c.execute.ensures.runs clean);
      none = λ clean. error_keeps old new _ _ c.execute.result (c.execute.ensures.runs clean);
      crash = survives_weaker old new _ _ (λ clean db may. make_meta_leaves old db may) c.execute.ensures.survives;
    }
