-- The query shows how the journal began.
use Rattle.std.proofs.Common.{◌∙◌, Ok, Err, Result, OnOk}
use Rattle.sqlite.specs.Held.{state}
use Rattle.sqlite.proofs.StateLemmas.{survives_weaker}
use Rattle.ibc_journal.proofs.Found.{began, began_unchanged, began_nothing}
use Rattle.ibc_journal.proofs.looking.beginning_of.Goals as goal

on_any : {A B : Type 0} (r : Result A B) (P : Type 0) → P → OnOk r P
on_any (Ok a) P p = p
on_any (Err b) P p = tt

pub returns-in_err-rows-clause-crash : goal.returns-in_err-rows-clause-crash
returns-in_err-rows-clause-crash g c =
    let old = state g.S.Store c.args.conn.now in
    survives_weaker old (state g.S.Store c.query_all.new.self) _ _ (λ clean db may. began_nothing old _ db may) c.query_all.ensures.survives

pub returns-clause-crash : goal.returns-clause-crash
returns-clause-crash g c =
    let old = state g.S.Store c.args.conn.now in
    survives_weaker old (state g.S.Store c.query_all.new.self) _ _ (λ clean db may. began_nothing old _ db may) c.query_all.ensures.survives

pub returns-clause-began : goal.returns-clause-began
returns-clause-began g c genesis items has clean =
    let old = state g.S.Store c.args.conn.now in
    let new = state g.S.Store c.query_all.new.self in
    let shown = began old new genesis items has _ (c.in_ok-rows.ensures.ok clean) in
    c.only_beginning-found.ensures.began genesis (c.as_slice.ensures.value ∙ shown)

pub returns-clause-same : goal.returns-clause-same
returns-clause-same g c genesis items has clean =
    let old = state g.S.Store c.args.conn.now in
    let new = state g.S.Store c.query_all.new.self in
    on_any c.only_beginning-found.result _ (began_unchanged old new genesis items has _ (c.in_ok-rows.ensures.ok clean))

pub returns-clause-faults : goal.returns-clause-faults
returns-clause-faults g c = c.only_beginning-found.ensures.faults
