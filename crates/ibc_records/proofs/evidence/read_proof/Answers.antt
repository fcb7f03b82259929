use Rattle.std.proofs.Common.{arith}
use Rattle.ibc_records.proofs.Judging.{proof_read, no_proof}
use Rattle.ibc_records.proofs.evidence.read_proof.Goals as goal

pub returns-clause-ok : goal.returns-clause-ok
returns-clause-ok c = proof_read c.lemma_proofs_are_read_as_they_are_spelled.ensures c.args.bytes.now (λ i lt. omega (arith, c.type_inv.bytes i)) c.decode.result c.decode.ensures.ok

pub returns-clause-bad : goal.returns-clause-bad
returns-clause-bad c = λ bad. no_proof c.lemma_proofs_are_read_as_they_are_spelled.ensures c.args.bytes.now (λ i lt. omega (arith, c.type_inv.bytes i)) c.decode.result (c.decode.ensures.bad bad)
