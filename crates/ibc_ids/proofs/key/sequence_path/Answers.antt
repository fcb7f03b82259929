use Rattle.std.proofs.Common.{append_assoc}
use Rattle.ibc_ids.proofs.key.sequence_path.Goals as goal

pub returns-clause-ok : goal.returns-clause-ok
returns-clause-ok c =
    let port = c.as_str-port.ensures.text in
    let channel = c.as_str-channel.ensures.text in
    rw (c.in_ok-written.ensures, port, channel) (simp append_assoc)
