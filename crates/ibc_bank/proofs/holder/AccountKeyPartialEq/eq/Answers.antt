-- Texts are the same where they compare as equal.
use Rattle.std.proofs.Common.{ap, ◌∙◌, is_eq}
use Rattle.std.proofs.lemmas.Map.Text.{is_eq-slice_cmp}
use Rattle.ibc_bank.proofs.holder.AccountKeyPartialEq.eq.Goals as goal

pub returns : goal.returns
returns c = c.is_eq.ensures ∙ ap is_eq c.cmp.ensures ∙ is_eq-slice_cmp c.args.self.now c.args.other.now
