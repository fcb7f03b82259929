-- The list has the one entry.
use Rattle.std.proofs.Common.{[], ◌∷◌, ◌++◌, length, ap, refl, ◌∙◌, subst, arith}
use Rattle.std.proofs.lemmas.Result.{err_from_is_err_and}
use Rattle.ibc_replay.specs.Replays.{GoesOnAsStored}
use Rattle.ibc_node.proofs.Reasons.{replay_fault}
use Rattle.ibc_node.proofs.Unlawful.{stops_alone}
use Rattle.ibc_node.proofs.reading.replay_alone.Goals as goal

pub replay_on-requires : goal.replay_on-requires
replay_on-requires c =
    let alone = c.in_ok-push.ensures.items ∙ ap (λ l. l ++ c.args.entry ∷ []) c.new-entries.ensures.items in
    let long = ap length alone in
    omega (arith, long)

pub returns-in-Ok-clause-replayed : goal.returns-in-Ok-clause-replayed
returns-in-Ok-clause-replayed c =
    let alone = c.in_ok-push.ensures.items ∙ ap (λ l. l ++ c.args.entry ∷ []) c.new-entries.ensures.items in
    subst (λ l. GoesOnAsStored c.args.world.now l c.replay_on.new.world) alone c.in-Ok.ensures.replayed

pub returns-in-Err-clause-differs : goal.returns-in-Err-clause-differs
returns-in-Err-clause-differs c =
    let alone = c.in_ok-push.ensures.items ∙ ap (λ l. l ++ c.args.entry ∷ []) c.new-entries.ensures.items in
    stops_alone c.args.world.now c.replay_on.new.world _ c.args.entry _ c.in-Err.why c.unread_by.result alone c.in-Err.ensures.different c.unread_by.ensures

pub returns-in_err-push-clause-faults : goal.returns-in_err-push-clause-faults
returns-in_err-push-clause-faults c =
    let p = err_from_is_err_and c.from_residual.result c.from_residual.ensures.1 in
    rw (p.1, p.2) refl

pub returns-in-Err-clause-faults : goal.returns-in-Err-clause-faults
returns-in-Err-clause-faults c = replay_fault c.args.world.now c.replay_on.new.world _ _ c.in-Err.why c.unread_by.result c.in-Err.ensures.different c.unread_by.ensures
