use Rattle.std.proofs.Common.{◌∙◌, sym}
use Rattle.ibc_script.proofs.Values.{none_known, one_known}
use Rattle.ibc_script.proofs.reading.chains.is_known.Goals as goal

pub returns-clause-new : goal.returns-clause-new
returns-clause-new c none = none_known c.args.names.now c.args.name.now (sym c.contains.ensures.value ∙ none)

pub returns-clause-known : goal.returns-clause-known
returns-clause-known c known = one_known c.args.names.now c.args.name.now (sym c.contains.ensures.value ∙ known)
