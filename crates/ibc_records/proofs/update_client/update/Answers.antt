-- Each check of the code is the definition's.
use Rattle.std.proofs.Common.{sym}
use Rattle.ibc_records.specs.RecordsModel.{core_of}
use Rattle.ibc_records.proofs.Updating.{refused_untracked, held_client, tracked_height, learned, looks_up-tracked}
use Rattle.ibc_records.proofs.update_client.update.Goals as goal

pub returns-in-Err-clause-answer : goal.returns-in-Err-clause-answer
returns-in-Err-clause-answer c = λ host state. refused_untracked c.args.records.now c.args.message.now host c.args.pass.now.seen state c.in-Err.refusal (sym c.in-Err.ensures)

pub returns-in-Err-clause-looks : goal.returns-in-Err-clause-looks
returns-in-Err-clause-looks c = sym (looks_up-tracked (core_of c.args.records.now) c.args.message.now _ (sym c.in-Err.ensures))

pub look-checked-requires-clause-height : goal.look-checked-requires-clause-height
look-checked-requires-clause-height c = tracked_height c.args.records.now c.args.message.now c.in_default.field-0 (sym c.in_default.ensures)

pub learn-requires : goal.learn-requires
learn-requires c = held_client c.args.records.now c.args.message.now c.in_default.field-0 (sym c.in_default.ensures)

pub returns-clause-answer : goal.returns-clause-answer
returns-clause-answer c =
    λ host state. learned c.args.records.now c.args.message.now c.in_default.field-0 (sym c.in_default.ensures) host c.look-checked.new.pass.seen c.look-checked.result.0 state c.look-checked.result.1
    c.learn.result c.learn.new.records c.look-checked.ensures.checked c.learn.ensures

pub returns-clause-looks : goal.returns-clause-looks
returns-clause-looks c = sym (looks_up-tracked (core_of c.args.records.now) c.args.message.now _ (sym c.in_default.ensures))
