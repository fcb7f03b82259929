-- The client is used, and what is known of the height tells whether it is known.
use Rattle.std.proofs.Common.{sym, ap, ◌∙◌, is_some}
use Rattle.std.specs.Map.{keys_of}
use Rattle.std.specs.Ordering.{nat_cmp}
use Rattle.ibc_ids.specs.Texts.{text_cmp}
use Rattle.ibc_ids.specs.Maps.{at}
use Rattle.ibc_machine.specs.chain.Records.{is_one_of}
use Rattle.ibc_records.proofs.Knowing.{is_key_of}
use Rattle.ibc_relayer.proofs.PlannedMessages.{told}
use Rattle.ibc_relayer.proofs.planning.is_told.Goals as goal

pub returns-then-contains_key : goal.returns-then-contains_key
returns-then-contains_key c =
    let known = c.args.client.now.known in
    let height = c.args.a.now.height in
    told (is_some (at text_cmp c.args.id.now c.args.used.now.entries)) (is_some c.consensus_state.result) c.is_none.result (is_one_of (keys_of known) height)
    (sym c.if-contains_key.true ∙ c.contains_key.ensures) c.is_none.ensures
    (is_key_of height known ∙ ap is_some (sym (c.consensus_state.ensures ∙ ap (λ n. at nat_cmp n known) c.height.ensures)))
