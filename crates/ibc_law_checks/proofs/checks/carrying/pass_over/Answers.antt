-- The lane at the place took the packet, or stayed.
use Rattle.std.proofs.Common.{arith, get_or}
use Rattle.std.proofs.lemmas.Option.{slice_get-get_or}
use Rattle.ibc_law_checks.proofs.PassedLanes.{passed_at}
use Rattle.ibc_law_checks.proofs.checks.carrying.pass_over.Goals as goal

pub returns-clause-ok : goal.returns-clause-ok
returns-clause-ok c =
    let lanes = c.args.lanes.now in
    let lane = get_or lanes c.args.place c.index-lanes-place.result in
    let there = slice_get-get_or lanes c.args.place c.index-lanes-place.result (omega (arith, c.if-place-lanes.false)) in
    passed_at c.args.passing c.args.packet.now c.args.place lanes lane c.pass.new.self c.in_ok-told.told there c.in_ok-told.ensures.ok
