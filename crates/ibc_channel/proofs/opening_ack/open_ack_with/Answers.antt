-- What the checks say is what becomes of the message.
use Rattle.ibc_records.specs.RecordsModel.{core_of}
use Rattle.std.proofs.Common.{Err, ap}
use Rattle.ibc_records.proofs.Judging.{stops, set_taken}
use Rattle.ibc_channel.specs.ChannelHandshake.{with_end}
use Rattle.ibc_channel.proofs.Handshake.{refused_message, no_proof, ack_checks}
use Rattle.ibc_channel.proofs.opening_ack.open_ack_with.Goals as goal

pub returns-in_err-proof : goal.returns-in_err-proof
returns-in_err-proof c = λ chain chains seen state knows.
    refused_message _ c.args.records.now c.from_residual.result c.from_residual.ensures.1 (stops _ (no_proof c.as_slice.ensures (λ is. c.in_err-proof.ensures.bad (ap Err is)) c.in_err-proof.ensures.err) (ack_checks _ _ _ _))

pub returns-in_err-judged : goal.returns-in_err-judged
returns-in_err-judged c = λ chain chains seen state knows. refused_message _ c.args.records.now c.from_residual-in_err-judged.result c.from_residual-in_err-judged.ensures.1 (c.in_err-judged.ensures.judged chain chains seen state knows)

pub returns : goal.returns
returns c = λ chain chains seen state knows.
    set_taken _ _ _ (with_end c.args.message.now.port c.args.message.now.channel c.in_ok-judged.field-0 (core_of c.args.records.now)) c.set_end.result
    (c.in_ok-judged.ensures.judged chain chains seen state knows) c.set_end.ensures.ok c.set_end.ensures.err c.set_end.ensures.unchanged
