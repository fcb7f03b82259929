-- The query shows the entry at the place, or nothing.
use Rattle.std.proofs.Common.{◌∙◌, Ok, Err, Result, OnOk}
use Rattle.sqlite.specs.Held.{state}
use Rattle.sqlite.proofs.StateLemmas.{survives_weaker}
use Rattle.std.specs.Prelude.{slice_get}
use Rattle.ibc_journal.proofs.Found.{reads, changes_nothing, commits_nothing}
use Rattle.ibc_journal.proofs.cursor.entry_at.Goals as goal

on_any : {A B : Type 0} (r : Result A B) (P : Type 0) → P → OnOk r P
on_any (Ok a) P p = p
on_any (Err b) P p = tt

pub returns-in_err-rows-clause-crash : goal.returns-in_err-rows-clause-crash
returns-in_err-rows-clause-crash g c =
    let old = state g.S.Store c.args.conn.now in
    survives_weaker old (state g.S.Store c.query_all.new.self) _ _ (λ clean db may. commits_nothing old _ db may) c.query_all.ensures.survives

pub returns-clause-crash : goal.returns-clause-crash
returns-clause-crash g c =
    let old = state g.S.Store c.args.conn.now in
    survives_weaker old (state g.S.Store c.query_all.new.self) _ _ (λ clean db may. commits_nothing old _ db may) c.query_all.ensures.survives

pub returns-clause-found : goal.returns-clause-found
returns-clause-found g c genesis items has clean =
    let old = state g.S.Store c.args.conn.now in
    let new = state g.S.Store c.query_all.new.self in
    let shown = reads old new genesis items has c.args.place _ (rw c.params-to_sql.ensures at (c.in_ok-rows.ensures.ok clean)) in
    c.first_of-found.ensures (slice_get items c.args.place) (c.as_slice.ensures.value ∙ shown)

pub returns-clause-same : goal.returns-clause-same
returns-clause-same g c genesis items has clean =
    let old = state g.S.Store c.args.conn.now in
    let new = state g.S.Store c.query_all.new.self in
    on_any c.first_of-found.result _ (changes_nothing old new genesis items has c.args.place _ (rw c.params-to_sql.ensures at (c.in_ok-rows.ensures.ok clean)))
