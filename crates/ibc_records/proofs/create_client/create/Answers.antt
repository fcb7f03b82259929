-- Each check of the code is the definition's.
use Rattle.std.proofs.Common.{arith, ◌∙◌, ap, refl, subst}
use Rattle.std.proofs.lemmas.Result.{err_from_is_err_and}
use Rattle.ibc_ids.specs.Texts.{Text}
use Rattle.ibc_ids.specs.Paths.{nth_client}
use Rattle.ibc_records.specs.RecordsModel.{AddsClient}
use Rattle.ibc_records.proofs.Creating.{refused_unknown, refused_own, refused_full, no_memory, made}
use Rattle.ibc_records.proofs.create_client.create.Goals as goal

pub returns-then-message-chains-clause-answer : goal.returns-then-message-chains-clause-answer
returns-then-message-chains-clause-answer c = λ evidence height time. refused_unknown evidence _ c.args.records.now c.args.message.now c.if-message-chains.true

pub returns-then-message-chain-clause-answer : goal.returns-then-message-chain-clause-answer
returns-then-message-chain-clause-answer c = λ evidence height time. refused_own evidence _ c.args.records.now c.args.message.now (omega arith) c.if-message-chain.true

pub returns-then-number-clause-answer : goal.returns-then-number-clause-answer
returns-then-number-clause-answer c = λ evidence height time. refused_full evidence _ c.args.records.now c.args.message.now (omega arith) c.if-message-chain.false (omega arith)

pub returns-in_err-id-clause-answer : goal.returns-in_err-id-clause-answer
returns-in_err-id-clause-answer c =
    let p = err_from_is_err_and c.from_residual.result c.from_residual.ensures.1 in
    λ evidence height time. no_memory evidence _ c.args.records.now c.args.message.now c.args.records.now _ p.1 (p.2 ∙ c.in_err-id.ensures.memory) (omega arith) c.if-message-chain.false (omega arith) refl

pub returns-in_err-clone-clause-answer : goal.returns-in_err-clone-clause-answer
returns-in_err-clone-clause-answer c =
    let p = err_from_is_err_and c.from_residual-in_err-clone.result c.from_residual-in_err-clone.ensures.1 in
    λ evidence height time. no_memory evidence _ c.args.records.now c.args.message.now c.args.records.now _ p.1 p.2 (omega arith) c.if-message-chain.false (omega arith) refl

pub returns-in_err-add_client-clause-answer : goal.returns-in_err-add_client-clause-answer
returns-in_err-add_client-clause-answer c =
    let p = err_from_is_err_and c.from_residual-in_err-add_client.result c.from_residual-in_err-add_client.ensures.1 in
    λ evidence height time. no_memory evidence _ c.args.records.now c.args.message.now c.add_client.new.self _ p.1 (p.2 ∙ c.in_err-add_client.ensures.err) (omega arith) c.if-message-chain.false (omega arith) c.in_err-add_client.ensures.unchanged

pub returns-clause-answer : goal.returns-clause-answer
returns-clause-answer c =
    λ evidence height time. made evidence _ c.args.records.now c.args.message.now c.add_client.new.self c.in_ok-id.id (omega arith) c.if-message-chain.false (omega arith) (c.in_ok-id.ensures.ok ∙ ap nth_client c.next_client-number.ensures)
    (subst (λ (id : Text). AddsClient c.args.records.now id c.args.message.now.chain c.add_client.new.self) c.in_ok-clone.ensures.cases c.in_ok-add_client.ensures.ok)
