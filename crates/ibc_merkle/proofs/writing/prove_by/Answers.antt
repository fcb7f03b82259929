-- The written proof is that of the place of the key.
use Rattle.ibc_merkle.proofs.Writes.{written_present, written_absent}
use Rattle.ibc_merkle.proofs.writing.prove_by.Goals as goal

pub returns-in_ok-presence_at-in-Ok : goal.returns-in_ok-presence_at-in-Ok
returns-in_ok-presence_at-in-Ok c =
    written_present c.args.entries.now c.args.key.now c.in-Ok.index c.in_ok-presence_at-in-Ok.field-0 c.requires.sorted c.in-Ok.ensures.found c.in-Ok.ensures.here c.in_ok-presence_at-in-Ok.ensures

pub returns-in_ok-absence_at-in-Err : goal.returns-in_ok-absence_at-in-Err
returns-in_ok-absence_at-in-Err c =
    let proof = c.in_ok-absence_at-in-Err.ensures in
    written_absent c.args.entries.now c.args.key.now c.in-Err.index c.in_ok-absence_at-in-Err.field-0 c.in-Err.ensures.within c.in-Err.ensures.gap
    proof.key proof.left proof.right
