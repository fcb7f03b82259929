use Rattle.std.proofs.Common.{◌≡◌, length}
use Rattle.std.specs.List.{slice_split}
use Rattle.ibc_ids.specs.Names.{is_slash, are_hops_and_base}
use Rattle.ibc_ids.proofs.forms.are_hops_and_base.Given as goal

abbrev pub invariant-loop-port : goal.invariant-loop-port
invariant-loop-port l = are_hops_and_base (slice_split is_slash l.rest) ≡ are_hops_and_base (slice_split is_slash l.text)

abbrev pub decreases-loop-port : goal.decreases-loop-port
decreases-loop-port l = length l.rest
