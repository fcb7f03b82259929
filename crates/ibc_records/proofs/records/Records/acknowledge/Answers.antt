-- The store is again the image of the core, in which the packet is settled.
use Rattle.std.proofs.Common.{◌≡◌, ◌-◌, ◌^◌, ◌<◌, true, sym, ◌∙◌, refl, inl, inr, Some, Ok, Err}
use Rattle.std.proofs.lemmas.Result.{err_from_is_err_and}
use Rattle.ibc_ids.specs.Texts.{pair_cmp}
use Rattle.ibc_ids.specs.Maps.{at, with}
use Rattle.ibc_wire.specs.declared.records.ChannelEnd.{ChannelEnd}
use Rattle.ibc_machine.specs.chain.Records.{Channel}
use Rattle.ibc_machine.specs.ics04.Packets.{is_ordered, after_ack}
use Rattle.ibc_records.specs.RecordsModel.{RecordsModel}
use Rattle.ibc_records.specs.RecordsFields.{records_model}
use Rattle.ibc_records.proofs.Channels.{roomy}
use Rattle.ibc_records.proofs.PacketSteps.{acknowledges, where_found, found, asked, not_missing, written_at, why}
use Rattle.ibc_records.proofs.records.Records.acknowledge.Goals as goal

pub returns-in_default-clause-err : goal.returns-in_default-clause-err
returns-in_default-clause-err g c =
    let old : RecordsModel = records_model c.self.inside in
    absurd (not_missing old c.args.self.now c.in_ok-name.name c.args.packet.now.source_port c.args.packet.now.source_channel c.self.view_is c.in_ok-name.ensures.ok (λ (mine : Channel). is_ordered mine ≡ true → mine.next_ack < 2 ^ 64 - 1) c.requires (sym c.in_default.ensures))

pub reserve_acknowledged-requires : goal.reserve_acknowledged-requires
reserve_acknowledged-requires g c =
    let old : RecordsModel = records_model c.self.inside in
    asked old c.args.self.now c.in_ok-name.name c.args.packet.now.source_port c.args.packet.now.source_channel c.self.view_is c.in_ok-name.ensures.ok (λ (mine : Channel). is_ordered mine ≡ true → mine.next_ack < 2 ^ 64 - 1) c.in-Some.channel.now c.requires (sym c.in-Some.ensures)

pub returns-in_err-acknowledge_on-clause-err : goal.returns-in_err-acknowledge_on-clause-err
returns-in_err-acknowledge_on-clause-err g c =
    let old : RecordsModel = records_model c.self.inside in
    let p = err_from_is_err_and c.from_residual-in_err-acknowledge_on.result c.from_residual-in_err-acknowledge_on.ensures.1 in
    let mine : Channel = c.in-Some.channel.now in
    let there : at pair_cmp c.in_ok-name.name old.channels ≡ Some mine = sym c.in-Some.ensures in
    rw (p.1, p.2)
    (why old c.args.self.now c.in_ok-name.name c.args.packet.now.source_port c.args.packet.now.source_channel c.self.view_is c.in_ok-name.ensures.ok mine mine.end (λ (end : ChannelEnd). g.A.App.is_acknowledged c.args.app.now end.version c.args.packet.now c.args.ack.now) c.in_err-acknowledge_on.field-0.0 there refl
    (elim c.in_err-acknowledge_on.ensures.err [
      | inl e ↦ inl e
      | inr e ↦ inr (where_found (at pair_cmp c.in_ok-name.name old.channels) (λ (x : Channel). g.A.App.is_acknowledged c.args.app.now x.end.version c.args.packet.now c.args.ack.now ≡ Err c.in_err-acknowledge_on.field-0.0) mine there e)
    ]))

pub invariant_of-self-in_err-acknowledge_on : goal.invariant_of-self-in_err-acknowledge_on
invariant_of-self-in_err-acknowledge_on g c =
    let old : RecordsModel = records_model c.self.inside in
    roomy old c.acknowledge_on.new.channels.pairs c.reserve_acknowledged.new.store c.self.invariant c.in_err-acknowledge_on.ensures.unchanged.0 c.reserve_acknowledged.ensures.same

pub invariant_of-self-2 : goal.invariant_of-self-2
invariant_of-self-2 g c =
    let old : RecordsModel = records_model c.self.inside in
    let mine : Channel = c.in-Some.channel.now in
    let there : at pair_cmp c.in_ok-name.name old.channels ≡ Some mine = sym c.in-Some.ensures in
    let entries = where_found (at pair_cmp c.in_ok-name.name old.channels) (λ (x : Channel). c.acknowledge_on.new.channels.pairs ≡ with pair_cmp c.in_ok-name.name (after_ack c.args.packet.now.sequence x) old.channels) mine there c.in_ok-acknowledge_on.ensures.ok in
    (acknowledges old c.in_ok-name.name.0 c.in_ok-name.name.1 mine c.acknowledge_on.new.channels.pairs c.self.invariant c.in_ok-path.ensures.named there c.args.packet.now.sequence c.reserve_acknowledged.new.store c.settle.new.store
    c.reserve_acknowledged.ensures.fits (c.as_str.ensures.value ∙ c.in_ok-path.ensures.path) c.reserve_acknowledged.ensures.same entries c.in_ok-path.ensures.other c.settle.ensures).0

pub returns-clause-ok : goal.returns-clause-ok
returns-clause-ok g c =
    let old : RecordsModel = records_model c.self.inside in
    let mine : Channel = c.in-Some.channel.now in
    let there : at pair_cmp c.in_ok-name.name old.channels ≡ Some mine = sym c.in-Some.ensures in
    let entries = where_found (at pair_cmp c.in_ok-name.name old.channels) (λ (x : Channel). c.acknowledge_on.new.channels.pairs ≡ with pair_cmp c.in_ok-name.name (after_ack c.args.packet.now.sequence x) old.channels) mine there c.in_ok-acknowledge_on.ensures.ok in
    let written = (acknowledges old c.in_ok-name.name.0 c.in_ok-name.name.1 mine c.acknowledge_on.new.channels.pairs c.self.invariant c.in_ok-path.ensures.named there c.args.packet.now.sequence c.reserve_acknowledged.new.store c.settle.new.store
    c.reserve_acknowledged.ensures.fits (c.as_str.ensures.value ∙ c.in_ok-path.ensures.path) c.reserve_acknowledged.ensures.same entries c.in_ok-path.ensures.other c.settle.ensures).1 in
    record {
      mine = mine;
      stood = found old c.args.self.now c.in_ok-name.name c.args.packet.now.source_port c.args.packet.now.source_channel c.self.view_is c.in_ok-name.ensures.ok mine there;
      answer = where_found (at pair_cmp c.in_ok-name.name old.channels) (λ (x : Channel). g.A.App.is_acknowledged c.args.app.now x.end.version c.args.packet.now c.args.ack.now ≡ Ok c.acknowledge_on.new.app) mine there c.in_ok-acknowledge_on.ensures.told;
      written = written_at old c.args.self.now c.in_ok-name.name c.args.packet.now.source_port c.args.packet.now.source_channel c.self.view_is c.in_ok-name.ensures.ok (after_ack c.args.packet.now.sequence mine) _ written;
    }
