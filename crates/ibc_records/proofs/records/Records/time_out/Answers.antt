-- The store is again the image of the core, in which the packet is settled.
use Rattle.std.proofs.Common.{◌≡◌, sym, ◌∙◌, refl, inl, inr, Some, Ok, Err}
use Rattle.std.proofs.lemmas.Result.{err_from_is_err_and}
use Rattle.ibc_ids.specs.Texts.{pair_cmp}
use Rattle.ibc_ids.specs.Maps.{at, with}
use Rattle.ibc_wire.specs.declared.records.ChannelEnd.{ChannelEnd}
use Rattle.ibc_machine.specs.chain.Records.{Channel}
use Rattle.ibc_machine.specs.ics04.Packets.{after_timeout}
use Rattle.ibc_records.specs.RecordsModel.{RecordsModel}
use Rattle.ibc_records.specs.RecordsFields.{records_model}
use Rattle.ibc_records.proofs.Channels.{roomy}
use Rattle.ibc_records.proofs.PacketSteps.{times_out, where_found, found, not_absent, written_at, why}
use Rattle.ibc_records.proofs.records.Records.time_out.Goals as goal

pub returns-in_default-clause-err : goal.returns-in_default-clause-err
returns-in_default-clause-err g c =
    let old : RecordsModel = records_model c.self.inside in
    absurd (not_absent old c.args.self.now c.in_ok-name.name c.args.packet.now.source_port c.args.packet.now.source_channel c.self.view_is c.in_ok-name.ensures.ok c.requires (sym c.in_default.ensures))

pub returns-in_err-time_out_on-clause-err : goal.returns-in_err-time_out_on-clause-err
returns-in_err-time_out_on-clause-err g c =
    let old : RecordsModel = records_model c.self.inside in
    let p = err_from_is_err_and c.from_residual-in_err-time_out_on.result c.from_residual-in_err-time_out_on.ensures.1 in
    let mine : Channel = c.in-Some.channel.now in
    let there : at pair_cmp c.in_ok-name.name old.channels ≡ Some mine = sym c.in-Some.ensures in
    rw (p.1, p.2)
    (why old c.args.self.now c.in_ok-name.name c.args.packet.now.source_port c.args.packet.now.source_channel c.self.view_is c.in_ok-name.ensures.ok mine mine.end (λ (end : ChannelEnd). g.A.App.times_out c.args.app.now end.version c.args.packet.now) c.in_err-time_out_on.field-0.0 there refl
    (elim c.in_err-time_out_on.ensures.err [
      | inl e ↦ inl e
      | inr e ↦ inr (where_found (at pair_cmp c.in_ok-name.name old.channels) (λ (x : Channel). g.A.App.times_out c.args.app.now x.end.version c.args.packet.now ≡ Err c.in_err-time_out_on.field-0.0) mine there e)
    ]))

pub invariant_of-self-in_err-time_out_on : goal.invariant_of-self-in_err-time_out_on
invariant_of-self-in_err-time_out_on g c =
    let old : RecordsModel = records_model c.self.inside in
    roomy old c.time_out_on.new.channels.pairs c.reserve_timed_out.new.store c.self.invariant c.in_err-time_out_on.ensures.unchanged.0 c.reserve_timed_out.ensures.same

pub invariant_of-self-2 : goal.invariant_of-self-2
invariant_of-self-2 g c =
    let old : RecordsModel = records_model c.self.inside in
    let mine : Channel = c.in-Some.channel.now in
    let there : at pair_cmp c.in_ok-name.name old.channels ≡ Some mine = sym c.in-Some.ensures in
    let entries = where_found (at pair_cmp c.in_ok-name.name old.channels) (λ (x : Channel). c.time_out_on.new.channels.pairs ≡ with pair_cmp c.in_ok-name.name (after_timeout c.args.packet.now.sequence x) old.channels) mine there c.in_ok-time_out_on.ensures.ok in
    (times_out old c.in_ok-name.name.0 c.in_ok-name.name.1 mine c.time_out_on.new.channels.pairs c.self.invariant c.in_ok-path.ensures.named there c.args.packet.now.sequence c.reserve_timed_out.new.store c.settle.new.store
    c.reserve_timed_out.ensures.fits (c.as_str.ensures.value ∙ c.in_ok-path.ensures.path) c.reserve_timed_out.ensures.same entries c.in_ok-path.ensures.other c.settle.ensures).0

pub returns-clause-ok : goal.returns-clause-ok
returns-clause-ok g c =
    let old : RecordsModel = records_model c.self.inside in
    let mine : Channel = c.in-Some.channel.now in
    let there : at pair_cmp c.in_ok-name.name old.channels ≡ Some mine = sym c.in-Some.ensures in
    let entries = where_found (at pair_cmp c.in_ok-name.name old.channels) (λ (x : Channel). c.time_out_on.new.channels.pairs ≡ with pair_cmp c.in_ok-name.name (after_timeout c.args.packet.now.sequence x) old.channels) mine there c.in_ok-time_out_on.ensures.ok in
    let written = (times_out old c.in_ok-name.name.0 c.in_ok-name.name.1 mine c.time_out_on.new.channels.pairs c.self.invariant c.in_ok-path.ensures.named there c.args.packet.now.sequence c.reserve_timed_out.new.store c.settle.new.store
    c.reserve_timed_out.ensures.fits (c.as_str.ensures.value ∙ c.in_ok-path.ensures.path) c.reserve_timed_out.ensures.same entries c.in_ok-path.ensures.other c.settle.ensures).1 in
    record {
      mine = mine;
      stood = found old c.args.self.now c.in_ok-name.name c.args.packet.now.source_port c.args.packet.now.source_channel c.self.view_is c.in_ok-name.ensures.ok mine there;
      answer = where_found (at pair_cmp c.in_ok-name.name old.channels) (λ (x : Channel). g.A.App.times_out c.args.app.now x.end.version c.args.packet.now ≡ Ok c.time_out_on.new.app) mine there c.in_ok-time_out_on.ensures.told;
      written = written_at old c.args.self.now c.in_ok-name.name c.args.packet.now.source_port c.args.packet.now.source_channel c.self.view_is c.in_ok-name.ensures.ok (after_timeout c.args.packet.now.sequence mine) _ written;
    }
