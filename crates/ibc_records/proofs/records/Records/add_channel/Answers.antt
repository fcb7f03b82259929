-- The store is again the image of the core, which has the new channel.
use Rattle.std.proofs.Common.{◌+◌, ◌-◌, ◌^◌, ◌<◌, sym, ap, ◌∙◌, subst}
use Rattle.ibc_ids.specs.Texts.{pair_cmp}
use Rattle.ibc_ids.specs.Maps.{with}
use Rattle.ibc_ids.specs.Paths.{nth_channel}
use Rattle.ibc_machine.specs.chain.Records.{Channel}
use Rattle.ibc_records.specs.RecordsModel.{RecordsModel, AddsChannel}
use Rattle.ibc_records.specs.RecordsFields.{records_model}
use Rattle.ibc_records.proofs.Channels.{adds, roomy}
use Rattle.ibc_records.proofs.records.Records.add_channel.Goals as goal

pub invariant_of-self-in_err-insert : goal.invariant_of-self-in_err-insert
invariant_of-self-in_err-insert c =
    let old : RecordsModel = records_model c.self.inside in
    roomy old c.insert.new.map.pairs c.reserve_entries.new.store c.self.invariant c.in_err-insert.ensures.err c.reserve_entries.ensures.same

pub invariant_of-self-2 : goal.invariant_of-self-2
invariant_of-self-2 c =
    let old : RecordsModel = records_model c.self.inside in
    (adds old c.args.port c.args.id c.args.end c.insert.new.map.pairs c.self.invariant c.in-Ok.ensures.named
    c.reserve_entries.new.store c.set_entries.new.store (subst (λ (held : RecordsModel). held.next_channel < 2 ^ 64 - 1) (sym c.self.view_is) c.requires.room)
    (c.requires.next ∙ ap (λ (held : RecordsModel). nth_channel held.next_channel) (sym c.self.view_is))
    (c.in_ok-insert.ensures.ok ∙ ap (λ (channel : Channel). with pair_cmp (c.args.port, c.args.id) channel c.self.inside.channels.pairs) c.new-channel.ensures)
    c.in-Ok.ensures.ok c.reserve_entries.ensures.same c.set_entries.ensures.set).0

pub returns-clause-ok : goal.returns-clause-ok
returns-clause-ok c =
    let old : RecordsModel = records_model c.self.inside in
    subst (λ (before : RecordsModel). AddsChannel before c.args.port c.args.id c.args.end (record old { channels = c.insert.new.map.pairs; next_channel = c.self.inside.next_channel + 1; store = c.set_entries.new.store })) c.self.view_is
    (adds old c.args.port c.args.id c.args.end c.insert.new.map.pairs c.self.invariant c.in-Ok.ensures.named
    c.reserve_entries.new.store c.set_entries.new.store (subst (λ (held : RecordsModel). held.next_channel < 2 ^ 64 - 1) (sym c.self.view_is) c.requires.room)
    (c.requires.next ∙ ap (λ (held : RecordsModel). nth_channel held.next_channel) (sym c.self.view_is))
    (c.in_ok-insert.ensures.ok ∙ ap (λ (channel : Channel). with pair_cmp (c.args.port, c.args.id) channel c.self.inside.channels.pairs) c.new-channel.ensures)
    c.in-Ok.ensures.ok c.reserve_entries.ensures.same c.set_entries.ensures.set).1
