-- The client is tracked just where the definition says so.
use Rattle.std.proofs.Common.{ap, ◌∙◌, sym}
use Rattle.ibc_records.proofs.Updating.{tracked-none, tracks, tracks_another, at_none}
use Rattle.ibc_records.proofs.update_client.check_tracked.Goals as goal
use Rattle.ibc_records.proofs.update_client.check_tracked.Goals.{else-header-state-via-then-header-state+else-header-ne0, else-header-state-via-else-header-state}

pub returns-in-None : goal.returns-in-None
returns-in-None c = tracked-none c.args.records.now c.args.message.now c.in-None.ensures

pub returns-then-header-ne0 : goal.returns-then-header-ne0
returns-then-header-ne0 c =
    tracks c.args.records.now c.args.message.now c.in-Some.client.now c.in-Some.ensures
    (c.if-header-state.true ∙ ap (λ state. state.chain) c.state.ensures) c.if-header-ne0.true

pub returns-else-header-state : goal.returns-else-header-state
returns-else-header-state c =
    elim c.else-header-state.branch [
      | else-header-state-via-then-header-state+else-header-ne0 w ↦
          at_none c.args.records.now c.args.message.now c.in-Some.client.now c.in-Some.ensures w.if-header-ne0.false
      | else-header-state-via-else-header-state w ↦
          tracks_another c.args.records.now c.args.message.now c.in-Some.client.now c.in-Some.ensures
          (λ same. w.if-header-state.false (same ∙ ap (λ state. state.chain) (sym c.state.ensures)))
    ]
