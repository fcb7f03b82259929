-- What the checks say is what becomes of the message.
use Rattle.ibc_records.specs.RecordsModel.{core_of}
use Rattle.ibc_records.proofs.Judging.{set_taken}
use Rattle.ibc_channel.specs.ChannelHandshake.{with_end}
use Rattle.ibc_channel.proofs.Handshake.{refused_message}
use Rattle.ibc_channel.proofs.closing_init.close_init.Goals as goal

pub returns-in_err-end : goal.returns-in_err-end
returns-in_err-end g c = λ chain chains seen state knows. refused_message _ c.args.records.now c.from_residual.result c.from_residual.ensures.1 (c.in_err-end.ensures.judged chain chains seen state knows)

pub returns : goal.returns
returns g c = λ chain chains seen state knows.
    set_taken _ _ _ (with_end c.args.message.now.port c.args.message.now.channel c.in_ok-end.end (core_of c.args.records.now)) c.set_end.result
    (c.in_ok-end.ensures.judged chain chains seen state knows) c.set_end.ensures.ok c.set_end.ensures.err c.set_end.ensures.unchanged
