-- One place more is left alone.
use Rattle.std.proofs.Common.{rules}
use Rattle.std.proofs.lemmas.List.{take_all, drop_all}
use Rattle.std.proofs.lemmas.List.Edits.{map_over_more}
use Rattle.ibc_law_checks.specs.TouchedPlaces.{left_alone}
use Rattle.ibc_law_checks.proofs.checks.carrying.leave_all.Goals as goal

pub loop-place-preserved : goal.loop-place-preserved
loop-place-preserved c = search (rules, map_over_more left_alone)

pub returns : goal.returns
returns c = search (rules, take_all, drop_all)
