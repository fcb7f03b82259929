use Rattle.std.proofs.Common.{◌∙◌, sym}
use Rattle.std.proofs.lemmas.Bool.{false≢true}
use Rattle.std.proofs.lemmas.Slice.Eq.{bytes_eq-Decides}
use Rattle.ibc_script.proofs.reading.step_reader.is_named.Goals as goal

pub returns-clause-same : goal.returns-clause-same
returns-clause-same c is = sym c.as_str.ensures.text ∙ (bytes_eq-Decides c.as_str.result.now c.args.name.now).0 (sym c.eq.ensures ∙ is)

pub returns-clause-other : goal.returns-clause-other
returns-clause-other c is same =
    false≢true (sym is ∙ c.eq.ensures ∙ (bytes_eq-Decides c.as_str.result.now c.args.name.now).1 (c.as_str.ensures.text ∙ same))
