use Rattle.std.proofs.Common.{arith}
use Rattle.ibc_wire.proofs.Fronts.{bytes_from}
use Rattle.ibc_wire.proofs.Whole.{decoded}
use Rattle.ibc_wire.proofs.wire.decode.Goals as goal

pub returns : goal.returns
returns g c =
    let all = decoded c.lemma_reads_what_is_spelled.ensures c.args.bytes.now c.read_all.result (bytes_from c.args.bytes.now (λ i lt. omega (arith, c.type_inv.bytes i))) c.read_all.ensures in
    record { ok = all.ok; bad = all.bad; memory = all.memory; errors = all.errors }
