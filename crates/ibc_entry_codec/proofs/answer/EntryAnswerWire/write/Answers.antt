use Rattle.std.proofs.lemmas.Result.{err_from_is_err_and}
use Rattle.ibc_wire.proofs.Writing.{refused, none_before, behind}
use Rattle.ibc_entry_codec.specs.Answers.{reply_fields, reading_fields}
use Rattle.ibc_entry_codec.proofs.answer.EntryAnswerWire.write.Goals as goal

pub returns-in_err-write_reply : goal.returns-in_err-write_reply
returns-in_err-write_reply c =
    let a = c.args.self.now in
    let p = err_from_is_err_and c.from_residual.result c.from_residual.ensures.1 in
    rw (p.1, p.2) (refused c.in_err-write_reply.field-0.0 (none_before (reply_fields a.reply) (reading_fields a.reading)) c.in_err-write_reply.ensures)

pub returns : goal.returns
returns c =
    let a = c.args.self.now in
    behind (reply_fields a.reply) (reading_fields a.reading) c.args.out.now.items c.write_reply.new.out.items c.write_reading.new.out.items c.write_reading.result c.in_ok-write_reply.ensures c.write_reading.ensures
