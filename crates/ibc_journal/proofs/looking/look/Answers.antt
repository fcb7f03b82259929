-- A look at an empty file or at a journal reads nothing, and of other files it asks for the format.
use Rattle.std.proofs.Common.{sym, ◌∙◌}
use Rattle.std.proofs.lemmas.Bool.{false≢true}
use Rattle.sqlite.specs.Held.{state}
use Rattle.sqlite.proofs.StateLemmas.{survives_weaker}
use Rattle.ibc_journal.proofs.Whole.{survives_same}
use Rattle.ibc_journal.proofs.looking.look.Goals as goal

pub returns-then-is_empty-clause-crash : goal.returns-then-is_empty-clause-crash
returns-then-is_empty-clause-crash g c = survives_same (state g.S.Store c.args.conn.now) _

pub returns-in_err-has_our_tables-clause-crash : goal.returns-in_err-has_our_tables-clause-crash
returns-in_err-has_our_tables-clause-crash g c = survives_same (state g.S.Store c.args.conn.now) _

pub returns-then-branch-clause-crash : goal.returns-then-branch-clause-crash
returns-then-branch-clause-crash g c = survives_same (state g.S.Store c.args.conn.now) _

pub returns-clause-crash : goal.returns-clause-crash
returns-clause-crash g c =
    let old = state g.S.Store c.args.conn.now in
    survives_weaker old (state g.S.Store c.look_at_others.new.conn) _ _
    (λ clean db may. λ genesis items has. false≢true (sym c.if-branch.false ∙ c.in_ok-has_our_tables.ensures.sees (c.schema-2.ensures.value ∙ has.schema))) c.look_at_others.ensures.survives
