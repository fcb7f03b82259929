use Rattle.std.proofs.Common.{◌≡◌, Err, ap}
use Rattle.std.proofs.lemmas.Result.{err_from_is_err_and}
use Rattle.ibc_ids.specs.declared.refusal.Refusal.TheVariants.{BadMessage}
use Rattle.ibc_entry_codec.proofs.StoredEntries.{no_block}
use Rattle.ibc_entry_codec.proofs.stored.read_event.Goals as goal

pub returns-in_err-time-in-0-clause-bad : goal.returns-in_err-time-in-0-clause-bad
returns-in_err-time-in-0-clause-bad c bad event same spelled =
    let p = err_from_is_err_and c.from_residual.result c.from_residual.ensures.1 in
    let is : c.in_err-time-in-0.field-0.0 ≡ BadMessage = (let a = p.1 in let b = p.2 in cc) in
    no_block c.args.kind c.args.bytes.now c.in-0.is (c.in_err-time-in-0.ensures.bad (ap Err is)) event same spelled
