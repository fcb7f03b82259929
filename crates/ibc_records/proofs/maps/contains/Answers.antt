-- A loan stands just where there is a value.
use Rattle.std.proofs.Common.{sym, ap, ◌∙◌, is_some}
use Rattle.ibc_records.proofs.Knowing.{is_some-copied}
use Rattle.ibc_records.proofs.maps.contains.Goals as goal

pub returns : goal.returns
returns g c = c.is_some.ensures ∙ sym (is_some-copied c.get.result) ∙ ap is_some c.get.ensures
