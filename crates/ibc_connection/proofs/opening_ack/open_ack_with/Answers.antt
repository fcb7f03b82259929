-- What the checks say is what becomes of the message.
use Rattle.std.proofs.Common.{Ok, Err, refl, sym, ap, ◌∙◌, inr}
use Rattle.ibc_machine.specs.declared.reply.Effect.TheVariants as effect
use Rattle.ibc_machine.specs.chain.Records.{with_connection}
use Rattle.ibc_records.specs.RecordsModel.{core_of}
use Rattle.ibc_records.proofs.Judging.{stops, unread}
use Rattle.ibc_connection.proofs.Handshake.{refused_message, ack_checks}
use Rattle.ibc_connection.proofs.Opened.{end_taken}
use Rattle.ibc_connection.proofs.opening_ack.open_ack_with.Goals as goal

pub returns-in_err-proofs : goal.returns-in_err-proofs
returns-in_err-proofs c = λ chains seen state knows.
    refused_message _ c.args.records.now c.from_residual.result c.from_residual.ensures.1 (stops _ (unread (λ is. c.in_err-proofs.ensures.bad (ap Err is)) c.in_err-proofs.ensures.err) (ack_checks _ _ _ _))

pub returns-in_err-clone : goal.returns-in_err-clone
returns-in_err-clone c = λ chains seen state knows. refused_message _ c.args.records.now c.from_residual-in_err-clone.result c.from_residual-in_err-clone.ensures.1 (inr refl)

pub returns-in_err-judged : goal.returns-in_err-judged
returns-in_err-judged c = λ chains seen state knows. refused_message _ c.args.records.now c.from_residual-in_err-judged.result c.from_residual-in_err-judged.ensures.1 (c.in_err-judged.ensures chains seen state knows)

pub returns : goal.returns
returns c =
    let old = c.args.records.now in
    λ chains seen state knows.
    end_taken _ old c.set_connection-2.new.self c.in_ok-clone.field-0 c.in_ok-judged.field-0 c.set_connection-2.result
    (c.in_ok-judged.ensures chains seen state knows ∙ ap (λ id. Ok (effect.None, with_connection id c.in_ok-judged.field-0 (core_of old))) (sym c.in_ok-clone.ensures.cases))
    c.set_connection-2.ensures.ok c.set_connection-2.ensures.err c.set_connection-2.ensures.unchanged
