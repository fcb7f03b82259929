-- The written proof is that of the place of the key.
use Rattle.std.proofs.Common.{◌<◌, ◌≤◌, length, arith}
use Rattle.ibc_merkle.proofs.Writes.{written_present, written_absent}
use Rattle.ibc_forest.specs.Heights.{pairs_of}
use Rattle.ibc_forest.proofs.proving.prove_in.Goals as goal

pub returns-in_ok-presence_at-in-Ok : goal.returns-in_ok-presence_at-in-Ok
returns-in_ok-presence_at-in-Ok c =
    let pairs = pairs_of c.args.nodes.now c.args.root in
    let counted = c.requires.over.counted in
    let l : c.in-Ok.index < length pairs = let found = c.in-Ok.ensures.found in omega arith in
    written_present pairs c.args.key.now c.in-Ok.index c.in_ok-presence_at-in-Ok.field-0 c.requires.sorted l c.in-Ok.ensures.here c.in_ok-presence_at-in-Ok.ensures

pub returns-in_ok-absence_at-in-Err : goal.returns-in_ok-absence_at-in-Err
returns-in_ok-absence_at-in-Err c =
    let pairs = pairs_of c.args.nodes.now c.args.root in
    let counted = c.requires.over.counted in
    let l : c.in-Err.index ≤ length pairs = let within = c.in-Err.ensures.within in omega arith in
    let proof = c.in_ok-absence_at-in-Err.ensures in
    written_absent pairs c.args.key.now c.in-Err.index c.in_ok-absence_at-in-Err.field-0 l c.in-Err.ensures.gap
    proof.key proof.left proof.right
