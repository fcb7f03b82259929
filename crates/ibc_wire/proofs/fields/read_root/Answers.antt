use Rattle.ibc_wire.proofs.Fronts.{bytes_read}
use Rattle.ibc_wire.proofs.fields.read_root.Goals as goal

-- what is read has 32 bytes
pub returns-in-Err : goal.returns-in-Err
returns-in-Err c =
    let found = bytes_read 32 c.args.bytes.now c.in_ok-root.root.now c.in_ok-root.rest.now c.in_ok-root.ensures in
    absurd (c.in-Err.ensures.1 found.0)
