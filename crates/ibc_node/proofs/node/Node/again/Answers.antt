-- One event after another is read back.
use Rattle.std.proofs.Common.{[], ◌∷◌, sym, subst}
use Rattle.sqlite.specs.Held.{state}
use Rattle.ibc_node.specs.Nodes.{TellsOn}
use Rattle.ibc_node.proofs.Staying.{keeps_same}
use Rattle.ibc_node.proofs.Told.{tells_same, tells_more}
use Rattle.ibc_node.proofs.node.Node.again.Goals as goal

pub loop-place-init : goal.loop-place-init
loop-place-init g c =
    let shows = state g.S.Store in
    let was = c.args.self.now in
    subst (TellsOn shows was [] was) (sym c.new-told.ensures.items) (tells_same shows was was [] (keeps_same shows was))

pub loop-place-preserved : goal.loop-place-preserved
loop-place-preserved g c =
    let shows = state g.S.Store in
    let was = c.args.self.now in
    let at = c.loop-place in
    let now = c.kept_at.new.self in
    subst (TellsOn shows was [] now) (sym c.in_ok-push.ensures.items) (tells_more shows was at.self now [] at.told.items (c.in_ok-kept_at.field-0 ∷ []) at.invariant c.in_ok-kept_at.ensures)

pub returns : goal.returns
returns g c = c.loop-place.invariant
