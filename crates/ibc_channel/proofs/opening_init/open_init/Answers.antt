-- What the checks say is what becomes of the message.
use Rattle.std.proofs.Common.{Ok, sym, ap, ◌∙◌, inr}
use Rattle.ibc_ids.specs.Paths.{nth_channel}
use Rattle.ibc_wire.specs.declared.records.ChannelEnd.{ChannelEnd}
use Rattle.ibc_machine.specs.declared.reply.Effect.TheVariants as effect
use Rattle.ibc_machine.specs.ics04.Channels.{with_new_channel}
use Rattle.ibc_records.specs.RecordsModel.{core_of}
use Rattle.ibc_records.proofs.Judging.{added_taken}
use Rattle.ibc_channel.specs.ChannelHandshake.{new_end}
use Rattle.ibc_channel.proofs.Handshake.{refused_message}
use Rattle.ibc_channel.proofs.opening_init.open_init.Goals as goal

pub returns-in_err-check_init-clause-answer : goal.returns-in_err-check_init-clause-answer
returns-in_err-check_init-clause-answer g c = λ chain chains seen state knows. refused_message _ c.args.records.now c.from_residual.result c.from_residual.ensures.1 (c.in_err-check_init.ensures.judged chain chains seen state knows)

pub returns-in_err-end-clause-answer : goal.returns-in_err-end-clause-answer
returns-in_err-end-clause-answer g c = λ chain chains seen state knows. refused_message _ c.args.records.now c.from_residual-in_err-end.result c.from_residual-in_err-end.ensures.1 (inr c.in_err-end.ensures.err)

pub add_channel-requires : goal.add_channel-requires
add_channel-requires g c = c.in_ok-check_init.ensures.free

pub returns-clause-answer : goal.returns-clause-answer
returns-clause-answer g c =
    let core = core_of c.args.records.now in
    λ chain chains seen state knows.
    added_taken _ _ _ effect.Channel (nth_channel c.args.records.now.next_channel) (λ id. with_new_channel c.args.message.now.port id c.in_ok-end.end core) c.add_channel.result
    (c.in_ok-check_init.ensures.judged chain chains seen state knows ∙ ap (λ (end : ChannelEnd). Ok (new_end c.args.message.now.port end core)) (sym c.in_ok-end.ensures.ok))
    c.add_channel.ensures.ok c.add_channel.ensures.err c.add_channel.ensures.unchanged
