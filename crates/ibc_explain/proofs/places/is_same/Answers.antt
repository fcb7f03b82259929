-- Texts with the same bytes are the same.
use Rattle.std.proofs.Common.{◌∙◌, sym}
use Rattle.std.proofs.lemmas.Slice.Eq.{bytes_eq-Decides}
use Rattle.ibc_explain.proofs.places.is_same.Goals as goal

pub returns : goal.returns
returns c is = (bytes_eq-Decides c.args.text.now c.args.line.now).0 (sym c.eq.ensures ∙ is)
