use Rattle.std.proofs.Common.{sym, arith}
use Rattle.ibc_entry_codec.proofs.RefusalNumbers.{no_refusal}
use Rattle.ibc_entry_codec.proofs.numbers.refusal_of.Goals as goal

pub returns-in_default : goal.returns-in_default
returns-in_default c = sym (no_refusal c.args.number (λ low high. omega arith))
