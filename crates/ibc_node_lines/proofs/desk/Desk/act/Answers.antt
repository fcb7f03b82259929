-- Each event of the step keeps what there is.
use Rattle.std.proofs.Common.{◌≡◌, List, [], Result, Ok, Err, IfOk, OnOk, refl, sym, subst, Vec}
use Rattle.std.specs.declared.alloc.Global.{Global}
use Rattle.std.proofs.lemmas.Result.{on_ok_weaker}
use Rattle.std.specs.Prelude.{IsTrue, is_ok}
use Rattle.std.proofs.lemmas.Bool.{false≢true}
use Rattle.sqlite.specs.Held.{state}
use Rattle.ibc_ids.specs.Texts.{Text}
use Rattle.ibc_script_cli.specs.Runs.{asking_acts}
use Rattle.ibc_node.specs.Nodes.{TellsOn}
use Rattle.ibc_node.proofs.Staying.{keeps_same}
use Rattle.ibc_node.proofs.Told.{tells_on, tells_same}
use Rattle.ibc_node_lines.specs.Desks.{desk_chains, RunsStep}
use Rattle.ibc_node_lines.proofs.Along.{runs_keep, step_run}
use Rattle.ibc_node_lines.proofs.desk.Desk.act.Goals as goal

ran_then : {A B E F : Type 0} (P : Type 0) (told : Result A E) (ran : Result B F) → OnOk told (IsTrue (is_ok ran)) → OnOk ran P → OnOk told P
ran_then P (Ok a) (Ok b) told_ok p = p
ran_then P (Ok a) (Err f) told_ok p = absurd (false≢true told_ok)
ran_then P (Err e) ran told_ok p = tt

-- what was told is given
told_then : {A E : Type 0} (told : Result (Vec A Global) E) (P Q : List A → Type 0) (given : List A) → ((l : List A) → P l → Q l) → OnOk told (P given) → IfOk told (λ v. v.items ≡ given) → IfOk told (λ v. Q v.items)
told_then (Ok v) P Q given f p is = f v.items (subst P (sym is) p)
told_then (Err e) P Q given f p is = tt

-- what was run ends well, so what is given of it was told
ran_told : {A B E F : Type 0} (told : Result (Vec A Global) E) (ran : Result B F) (P Q : List A → Type 0) (given : List A) → OnOk told (IsTrue (is_ok ran)) → IfOk told (λ v. v.items ≡ given) → ((l : List A) → P l → Q l)
    → OnOk ran (P given) → IfOk told (λ v. Q v.items)
ran_told told ran P Q given told_ok is f p = told_then told P Q given f (ran_then (P given) told ran told_ok p) is

pub returns-clause-tells : goal.returns-clause-tells
returns-clause-tells g c =
    let shows = state g.S.Store in
    let was = c.args.self.now.node in
    let mid = c.act-ran.new.chains in
    let kept =
    runs_keep (desk_chains shows) _ (λ a b. TellsOn shows a.node a.told.items b.node b.told.items) (λ a. tells_same shows a.node a.node a.told.items (keeps_same shows a.node))
    (λ a b d. tells_on shows a.node b.node d.node a.told.items b.told.items d.told.items) (λ a b event given asked. asked.tells) (asking_acts c.args.step) c.act-ran.result _ _ c.act-ran.new.chains _ c.act-ran.ensures.ran in
    let first : OnOk c.act-ran.result (TellsOn shows was [] mid.node mid.told.items) =
    on_ok_weaker c.act-ran.result (λ tells. subst (λ l. TellsOn shows was l mid.node mid.told.items) c.clear.ensures.items tells) kept in
    ran_told c.taken.result c.act-ran.result (λ l. TellsOn shows was [] mid.node l) (λ l. TellsOn shows was [] c.taken.new.self.node l) mid.told.items
    (subst (λ b. OnOk c.taken.result (IsTrue b)) c.is_ok.ensures.value c.taken.ensures.run) c.taken.ensures.told (λ l tells. subst (λ n. TellsOn shows was [] n l) (sym c.taken.ensures.node) tells) first

pub returns-clause-ran : goal.returns-clause-ran
returns-clause-ran g c =
    let shows = state g.S.Store in
    let was = c.args.self.now.node in
    let mid = c.act-ran.new.chains in
    let place = c.args.log_place in
    let step = c.args.step in
    let run = step_run shows c.new.result.names.now place step c.act-ran.result _ mid _ _ was c.act-ran.ensures.ran refl c.clear.ensures.items refl in
    let first : OnOk c.act-ran.result (RunsStep shows c.args.names.now place step was mid.told.items mid.node) =
    subst (λ (names : List Text). OnOk c.act-ran.result (RunsStep shows names place step was mid.told.items mid.node)) c.new.ensures run in
    ran_told c.taken.result c.act-ran.result (λ l. RunsStep shows c.args.names.now place step was l mid.node) (λ l. RunsStep shows c.args.names.now place step was l c.taken.new.self.node) mid.told.items
    (subst (λ b. OnOk c.taken.result (IsTrue b)) c.is_ok.ensures.value c.taken.ensures.run) c.taken.ensures.told (λ l ran. subst (λ n. RunsStep shows c.args.names.now place step was l n) (sym c.taken.ensures.node) ran) first
