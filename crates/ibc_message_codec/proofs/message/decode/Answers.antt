use Rattle.std.proofs.Common.{arith}
use Rattle.ibc_wire.proofs.Fronts.{bytes_from}
use Rattle.ibc_wire.proofs.Whole.{decoded}
use Rattle.ibc_message_codec.proofs.MessageReader.{message_reader}
use Rattle.ibc_message_codec.proofs.message.decode.Goals as goal

pub returns : goal.returns
returns c =
    let all = decoded message_reader c.args.bytes.now c.read_all.result (bytes_from c.args.bytes.now (λ i lt. omega (arith, c.type_inv.bytes i))) c.read_all.ensures.message in
    record { ok = all.ok; bad = all.bad; memory = all.memory; unknown = c.read_all.ensures.unknown; errors = all.errors }
