-- What was found is told.
use Rattle.std.proofs.Common.{IfOk, string_bytes, sym, subst}
use Rattle.std.specs.Prelude.{IsOkAnd}
use Rattle.ibc_node_lines.specs.QuestionAnswers.{IsProofText}
use Rattle.ibc_node_lines.proofs.questions.tell_proof.Goals as goal

pub returns-in-Ok : goal.returns-in-Ok
returns-in-Ok c =
    subst (λ proof. IfOk c.told_proof-told.result (λ text. IsOkAnd proof (λ found. IsProofText found (string_bytes text)))) (sym c.in-Ok.is) c.told_proof-told.ensures
