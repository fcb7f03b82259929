-- What the checks say is what becomes of the message.
use Rattle.std.proofs.Common.{Err, ap}
use Rattle.ibc_ids.specs.Paths.{nth_channel}
use Rattle.ibc_machine.specs.declared.reply.Effect.TheVariants as effect
use Rattle.ibc_machine.specs.ics04.Channels.{with_new_channel}
use Rattle.ibc_records.specs.RecordsModel.{core_of}
use Rattle.ibc_records.proofs.Judging.{stops, added_taken}
use Rattle.ibc_channel.proofs.Handshake.{refused_message, no_proof, try_checks}
use Rattle.ibc_channel.proofs.opening_try.open_try_with.Goals as goal

pub returns-in_err-proof-clause-answer : goal.returns-in_err-proof-clause-answer
returns-in_err-proof-clause-answer g c = λ chain chains seen state knows.
    refused_message _ c.args.records.now c.from_residual.result c.from_residual.ensures.1 (stops _ (no_proof c.as_slice.ensures (λ is. c.in_err-proof.ensures.bad (ap Err is)) c.in_err-proof.ensures.err) (try_checks _ _ _ _ _ _))

pub returns-in_err-judged-clause-answer : goal.returns-in_err-judged-clause-answer
returns-in_err-judged-clause-answer g c = λ chain chains seen state knows. refused_message _ c.args.records.now c.from_residual-in_err-judged.result c.from_residual-in_err-judged.ensures.1 (c.in_err-judged.ensures.judged chain chains seen state knows)

pub add_channel-requires : goal.add_channel-requires
add_channel-requires g c = c.in_ok-judged.ensures.free

pub returns-clause-answer : goal.returns-clause-answer
returns-clause-answer g c = λ chain chains seen state knows.
    added_taken _ _ _ effect.Channel (nth_channel c.args.records.now.next_channel) (λ id. with_new_channel c.args.message.now.port id c.in_ok-judged.field-0 (core_of c.args.records.now)) c.add_channel.result
    (c.in_ok-judged.ensures.judged chain chains seen state knows) c.add_channel.ensures.ok c.add_channel.ensures.err c.add_channel.ensures.unchanged
