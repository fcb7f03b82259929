-- What the file looks like tells whether the world begins or goes on.
use Rattle.std.proofs.Common.{◌≡◌, ◌≤◌, Ok, Some, option_copied, inl, inr, sym, ap, ◌∙◌, subst}
use Rattle.std.proofs.lemmas.Result.{IfOk-weaker}
use Rattle.sqlite.specs.Held.{state}
use Rattle.sqlite.specs.View.{doubt}
use Rattle.ibc_journal.specs.Tables.{no_schema}
use Rattle.ibc_journal.specs.Restarts.{IsAtRest}
use Rattle.ibc_node.proofs.Opened.{no_journal_is_empty, rests_on}
use Rattle.ibc_node.proofs.opening.start_of.Goals as goal

pub returns-in_ok-ok_or-in-Empty-clause-restarted : goal.returns-in_ok-ok_or-in-Empty-clause-restarted
returns-in_ok-ok_or-in-Empty-clause-restarted g c text items rest clean = absurd (no_journal_is_empty (sym (c.in_ok-looks.ensures.empty (ap Ok c.in-Empty.is)).0 ∙ rest.journal.schema))

pub returns-in_ok-ok_or-in-Empty-clause-rest : goal.returns-in_ok-ok_or-in-Empty-clause-rest
returns-in_ok-ok_or-in-Empty-clause-rest g c text items rest clean = absurd (no_journal_is_empty (sym (c.in_ok-looks.ensures.empty (ap Ok c.in-Empty.is)).0 ∙ rest.journal.schema))

pub returns-in_ok-ok_or-in-Empty-clause-new : goal.returns-in_ok-ok_or-in-Empty-clause-new
returns-in_ok-ok_or-in-Empty-clause-new g c none clean =
    let same = (c.in_ok-looks.ensures.empty (ap Ok c.in-Empty.is)).1 in
    c.begin_with.ensures.new (subst (λ k. (state g.S.Store k).now.schema ≡ no_schema) (sym same) none) clean

pub returns-in-Journal-clause-begun : goal.returns-in-Journal-clause-begun
returns-in-Journal-clause-begun g c none = absurd (no_journal_is_empty (sym none ∙ (c.in_ok-looks.ensures.journal (ap Ok c.in-Journal.is)).0))

pub returns-in-Journal-clause-new : goal.returns-in-Journal-clause-new
returns-in-Journal-clause-new g c none clean = absurd (no_journal_is_empty (sym none ∙ (c.in_ok-looks.ensures.journal (ap Ok c.in-Journal.is)).0))

pub returns-in-Journal-clause-restarted : goal.returns-in-Journal-clause-restarted
returns-in-Journal-clause-restarted g c text items rest clean =
    let same = (c.in_ok-looks.ensures.journal (ap Ok c.in-Journal.is)).1 in
    c.go_on.ensures.restarted text items (subst (λ k. IsAtRest (state g.S.Store k) text items) (sym same) rest) clean

pub returns-in-Journal-clause-rest : goal.returns-in-Journal-clause-rest
returns-in-Journal-clause-rest g c text items rest clean =
    let same = (c.in_ok-looks.ensures.journal (ap Ok c.in-Journal.is)).1 in
    c.go_on.ensures.rest text items (subst (λ k. IsAtRest (state g.S.Store k) text items) (sym same) rest) clean

pub returns-in_ok-ok_or-in-Empty-clause-begun : goal.returns-in_ok-ok_or-in-Empty-clause-begun
returns-in_ok-ok_or-in-Empty-clause-begun g c none = c.begin_with.ensures.begun

pub returns-in_ok-ok_or-in-Empty-clause-which : goal.returns-in_ok-ok_or-in-Empty-clause-which
returns-in_ok-ok_or-in-Empty-clause-which g c = rests_on c.begin_with.result (inr (c.in_ok-looks.ensures.empty (ap Ok c.in-Empty.is)).0)

pub returns-in-Journal-clause-which : goal.returns-in-Journal-clause-which
returns-in-Journal-clause-which g c = rests_on c.go_on.result (inl (c.in_ok-looks.ensures.journal (ap Ok c.in-Journal.is)).0)

pub returns-in_ok-ok_or-in-Empty-clause-calm : goal.returns-in_ok-ok_or-in-Empty-clause-calm
returns-in_ok-ok_or-in-Empty-clause-calm g c =
    let same = (c.in_ok-looks.ensures.empty (ap Ok c.in-Empty.is)).1 in
    let after = doubt (state g.S.Store c.begin_with.new.conn).is_clean in
    rests_on c.begin_with.result (subst (λ k. doubt (state g.S.Store k).is_clean ≤ after) same c.begin_with.ensures.crash.clean)

pub returns-in-Journal-clause-calm : goal.returns-in-Journal-clause-calm
returns-in-Journal-clause-calm g c =
    let same = (c.in_ok-looks.ensures.journal (ap Ok c.in-Journal.is)).1 in
    let after = doubt (state g.S.Store c.go_on.new.conn).is_clean in
    rests_on c.go_on.result (subst (λ k. doubt (state g.S.Store k).is_clean ≤ after) same c.go_on.ensures.crash.clean)

pub returns-in_ok-ok_or-in-Empty-clause-marked : goal.returns-in_ok-ok_or-in-Empty-clause-marked
returns-in_ok-ok_or-in-Empty-clause-marked g c text items rest clean = absurd (no_journal_is_empty (sym (c.in_ok-looks.ensures.empty (ap Ok c.in-Empty.is)).0 ∙ rest.journal.schema))

pub returns-in_ok-ok_or-in-Empty-clause-unmarked : goal.returns-in_ok-ok_or-in-Empty-clause-unmarked
returns-in_ok-ok_or-in-Empty-clause-unmarked g c none = c.begin_with.ensures.unmarked

pub returns-in-Journal-clause-marked : goal.returns-in-Journal-clause-marked
returns-in-Journal-clause-marked g c text items rest clean =
    let same = (c.in_ok-looks.ensures.journal (ap Ok c.in-Journal.is)).1 in
    c.go_on.ensures.marked text items (subst (λ k. IsAtRest (state g.S.Store k) text items) (sym same) rest) clean

pub returns-in-Journal-clause-unmarked : goal.returns-in-Journal-clause-unmarked
returns-in-Journal-clause-unmarked g c none = absurd (no_journal_is_empty (sym none ∙ (c.in_ok-looks.ensures.journal (ap Ok c.in-Journal.is)).0))

pub returns-in_ok-ok_or-in-Empty-clause-asked : goal.returns-in_ok-ok_or-in-Empty-clause-asked
returns-in_ok-ok_or-in-Empty-clause-asked g c text items rest clean = absurd (no_journal_is_empty (sym (c.in_ok-looks.ensures.empty (ap Ok c.in-Empty.is)).0 ∙ rest.journal.schema))

pub returns-in-Journal-clause-asked : goal.returns-in-Journal-clause-asked
returns-in-Journal-clause-asked g c text items rest clean =
    let same = (c.in_ok-looks.ensures.journal (ap Ok c.in-Journal.is)).1 in
    c.go_on.ensures.asked text items (subst (λ k. IsAtRest (state g.S.Store k) text items) (sym same) rest) clean

pub returns-in_ok-ok_or-in-Empty-clause-given : goal.returns-in_ok-ok_or-in-Empty-clause-given
returns-in_ok-ok_or-in-Empty-clause-given g c none =
    IfOk-weaker c.begin_with.result _ (λ start. option_copied c.args.genesis ≡ Some start.genesis.items) (λ start is. ap option_copied c.in_ok-ok_or-in-Empty.ensures.ok_part ∙ ap Some (sym is))
    c.begin_with.ensures.given

pub returns-in-Journal-clause-given : goal.returns-in-Journal-clause-given
returns-in-Journal-clause-given g c none = absurd (no_journal_is_empty (sym none ∙ (c.in_ok-looks.ensures.journal (ap Ok c.in-Journal.is)).0))

pub returns-in_ok-ok_or-in-Empty-clause-genesis : goal.returns-in_ok-ok_or-in-Empty-clause-genesis
returns-in_ok-ok_or-in-Empty-clause-genesis g c text items rest clean = absurd (no_journal_is_empty (sym (c.in_ok-looks.ensures.empty (ap Ok c.in-Empty.is)).0 ∙ rest.journal.schema))

pub returns-in-Journal-clause-genesis : goal.returns-in-Journal-clause-genesis
returns-in-Journal-clause-genesis g c text items rest clean =
    let same = (c.in_ok-looks.ensures.journal (ap Ok c.in-Journal.is)).1 in
    c.go_on.ensures.genesis text items (subst (λ k. IsAtRest (state g.S.Store k) text items) (sym same) rest) clean
