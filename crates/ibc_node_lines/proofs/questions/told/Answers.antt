-- What each question is answered.
use Rattle.std.proofs.Common.{◌≡◌, ◌∙◌, IfOk, Option, codes, string_bytes, ap, sym, subst}
use Rattle.sqlite.specs.Held.{state}
use Rattle.ibc_ids.specs.Texts.{Text}
use Rattle.ibc_merkle.specs.declared.proof.Proof.{Proof}
use Rattle.ibc_script_worlds.specs.WorldChains.{by_ledger, proof_in, value_in}
use Rattle.ibc_node.specs.Nodes.{node_world}
use Rattle.ibc_node_lines.specs.declared.request.NodeQuestion.{NodeQuestion}
use Rattle.ibc_node_lines.specs.OtherLines.{found_text}
use Rattle.ibc_node_lines.specs.QuestionAnswers.{AnswersQuestion, IsProofText}
use Rattle.ibc_node_lines.proofs.Asked.{both_of}
use Rattle.ibc_node_lines.proofs.OnlyRead.{read_same}
use Rattle.ibc_node_lines.proofs.questions.told.Goals as goal

pub returns-in_ok-tell_entries-in-Entries-clause-answers : goal.returns-in_ok-tell_entries-in-Entries-clause-answers
returns-in_ok-tell_entries-in-Entries-clause-answers g c =
    let text = string_bytes c.in_ok-tell_entries-in-Entries.field-0 in
    subst (λ (q : NodeQuestion). AnswersQuestion c.args.desk.now.node q text) (sym c.in-Entries.is) c.in_ok-tell_entries-in-Entries.ensures

pub returns-in-Kept-clause-answers : goal.returns-in-Kept-clause-answers
returns-in-Kept-clause-answers g c =
    subst (λ (q : NodeQuestion). IfOk c.tell_kept.result (λ text. AnswersQuestion c.args.desk.now.node q (string_bytes text))) (sym c.in-Kept.is) c.tell_kept.ensures.kept

pub returns-in_ok-tell_balances-in-Balances-clause-answers : goal.returns-in_ok-tell_balances-in-Balances-clause-answers
returns-in_ok-tell_balances-in-Balances-clause-answers g c =
    let text = string_bytes c.in_ok-tell_balances-in-Balances.field-0 in
    subst (λ (q : NodeQuestion). AnswersQuestion c.args.desk.now.node q text) (sym c.in-Balances.is) c.in_ok-tell_balances-in-Balances.ensures

pub returns-in_ok-tell_bytes-in-Standing-clause-answers : goal.returns-in_ok-tell_bytes-in-Standing-clause-answers
returns-in_ok-tell_bytes-in-Standing-clause-answers g c =
    let text = string_bytes c.in_ok-tell_bytes-in-Standing.field-0 in
    let world = node_world c.args.desk.now.node in
    let it = both_of c.value-value.result (λ found. found ≡ by_ledger (value_in c.in-Standing.key) world c.in-Standing.chain) (λ found. text ≡ found_text (codes "value") found) c.value-value.ensures
    c.in_ok-tell_bytes-in-Standing.ensures in
    subst (λ (q : NodeQuestion). AnswersQuestion c.args.desk.now.node q text) (sym c.in-Standing.is) (it.2 ∙ ap (λ (found : Option Text). found_text (codes "value") found) it.1)

pub returns-in_ok-tell_root-in-Root-clause-answers : goal.returns-in_ok-tell_root-in-Root-clause-answers
returns-in_ok-tell_root-in-Root-clause-answers g c =
    let text = string_bytes c.in_ok-tell_root-in-Root.field-0 in
    subst (λ (q : NodeQuestion). AnswersQuestion c.args.desk.now.node q text) (sym c.in-Root.is) c.in_ok-tell_root-in-Root.ensures

pub returns-in_ok-tell_proof-in-Proof-clause-answers : goal.returns-in_ok-tell_proof-in-Proof-clause-answers
returns-in_ok-tell_proof-in-Proof-clause-answers g c =
    let text = string_bytes c.in_ok-tell_proof-in-Proof.field-0 in
    let world = node_world c.args.desk.now.node in
    let it = both_of c.proof-proof.result (λ found. found ≡ by_ledger (proof_in c.in-Proof.height c.in-Proof.key) world c.in-Proof.chain) (λ found. IsProofText found text) c.proof-proof.ensures
    c.in_ok-tell_proof-in-Proof.ensures in
    subst (λ (q : NodeQuestion). AnswersQuestion c.args.desk.now.node q text) (sym c.in-Proof.is) (subst (λ (found : Option Proof). IsProofText found text) it.1 it.2)

pub returns-in_ok-totals_line-in-Totals-clause-answers : goal.returns-in_ok-totals_line-in-Totals-clause-answers
returns-in_ok-totals_line-in-Totals-clause-answers g c =
    let text = string_bytes c.in_ok-totals_line-in-Totals.field-0 in
    subst (λ (q : NodeQuestion). AnswersQuestion c.args.desk.now.node q text) (sym c.in-Totals.is) (c.totals-totals.result, c.totals-totals.ensures, c.in_ok-totals_line-in-Totals.ensures)

pub returns-in_ok-tell_plan-in-Plan-clause-answers : goal.returns-in_ok-tell_plan-in-Plan-clause-answers
returns-in_ok-tell_plan-in-Plan-clause-answers g c =
    let text = string_bytes c.in_ok-tell_plan-in-Plan.field-0 in
    subst (λ (q : NodeQuestion). AnswersQuestion c.args.desk.now.node q text) (sym c.in-Plan.is) c.in_ok-tell_plan-in-Plan.ensures

pub returns-in_ok-totals_line-in-Totals-clause-read : goal.returns-in_ok-totals_line-in-Totals-clause-read
returns-in_ok-totals_line-in-Totals-clause-read g c = read_same (state g.S.Store) c.args.desk.now.node
