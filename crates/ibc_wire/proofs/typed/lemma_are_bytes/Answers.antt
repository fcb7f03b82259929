use Rattle.std.proofs.Common.{arith}
use Rattle.ibc_wire.proofs.Fronts.{bytes_from}
use Rattle.ibc_wire.proofs.typed.lemma_are_bytes.Goals as goal

pub returns : goal.returns
returns c = bytes_from c.args.bytes.now (λ i lt. omega (arith, c.type_inv.bytes i))
