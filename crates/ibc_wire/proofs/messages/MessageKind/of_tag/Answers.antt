use Rattle.std.proofs.Common.{sym, arith}
use Rattle.ibc_wire.proofs.Tags.{no_kind}
use Rattle.ibc_wire.proofs.messages.MessageKind.of_tag.Goals as goal

pub returns-in_default : goal.returns-in_default
returns-in_default c = sym (no_kind c.args.tag (λ low high. omega arith))
