-- What the checks say is what becomes of the end.
use Rattle.std.proofs.Common.{Err, ap, ◌∙◌, sym}
use Rattle.ibc_wire.specs.Reading.{proof_of}
use Rattle.ibc_records.specs.RecordsModel.{core_of}
use Rattle.ibc_records.proofs.Judging.{stops, set_taken}
use Rattle.ibc_channel.specs.ChannelHandshake.{with_end}
use Rattle.ibc_channel.proofs.Handshake.{refused_message, no_proof, follow_checks}
use Rattle.ibc_channel.proofs.following.follow_peer_with.Goals as goal

pub returns-in_err-read : goal.returns-in_err-read
returns-in_err-read c = λ chain chains seen state knows.
    refused_message _ c.args.records.now c.from_residual.result c.from_residual.ensures.1 (stops _ (no_proof c.as_slice.ensures (λ is. c.in_err-read.ensures.bad (ap Err is)) c.in_err-read.ensures.err) (follow_checks _ _ _ _ _ _ _ _))

pub returns-in_err-judged : goal.returns-in_err-judged
returns-in_err-judged c = λ chain chains seen state knows.
    refused_message _ c.args.records.now c.from_residual-in_err-judged.result c.from_residual-in_err-judged.ensures.1 (c.in_err-judged.ensures.judged chain chains c.args.proof.now (ap proof_of (sym c.as_slice.ensures) ∙ c.in_ok-read.ensures.ok) seen state knows)

pub returns : goal.returns
returns c = λ chain chains seen state knows.
    set_taken _ _ _ (with_end c.args.port.now c.args.channel.now c.in_ok-judged.field-0 (core_of c.args.records.now)) c.set_end.result
    (c.in_ok-judged.ensures.judged chain chains c.args.proof.now (ap proof_of (sym c.as_slice.ensures) ∙ c.in_ok-read.ensures.ok) seen state knows) c.set_end.ensures.ok c.set_end.ensures.err c.set_end.ensures.unchanged
