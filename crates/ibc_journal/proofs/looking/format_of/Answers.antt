-- A query that shows a row leaves what it may commit, and that is any of a file that is no journal.
use Rattle.sqlite.specs.Held.{state}
use Rattle.sqlite.proofs.StateLemmas.{survives_weaker}
use Rattle.ibc_journal.proofs.looking.format_of.Goals as goal

pub returns : goal.returns
returns g c = survives_weaker (state g.S.Store c.args.conn.now) (state g.S.Store c.query_row-found.new.self) _ _ (λ clean db may. tt) c.query_row-found.ensures.survives
