-- The store is again the image of the core, in which the packet is received.
use Rattle.std.proofs.Common.{◌≡◌, ◌-◌, ◌^◌, ◌<◌, true, sym, Some}
use Rattle.ibc_ids.specs.Texts.{pair_cmp}
use Rattle.ibc_ids.specs.Maps.{at, with}
use Rattle.ibc_machine.specs.chain.Records.{Channel}
use Rattle.ibc_machine.specs.ics04.Packets.{is_ordered, after_receive}
use Rattle.ibc_records.specs.RecordsModel.{RecordsModel}
use Rattle.ibc_records.specs.RecordsFields.{records_model}
use Rattle.ibc_records.proofs.Channels.{roomy}
use Rattle.ibc_records.proofs.PacketSteps.{receives, where_found, found, asked, not_missing, written_at}
use Rattle.ibc_records.proofs.records.Records.receive.Goals as goal

pub returns-in_default-clause-err : goal.returns-in_default-clause-err
returns-in_default-clause-err g c =
    let old : RecordsModel = records_model c.self.inside in
    absurd (not_missing old c.args.self.now c.in_ok-name.name c.args.packet.now.destination_port c.args.packet.now.destination_channel c.self.view_is c.in_ok-name.ensures.ok (λ (mine : Channel). is_ordered mine ≡ true → mine.next_recv < 2 ^ 64 - 1) c.requires (sym c.in_default.ensures))

pub reserve_receive-requires : goal.reserve_receive-requires
reserve_receive-requires g c =
    let old : RecordsModel = records_model c.self.inside in
    asked old c.args.self.now c.in_ok-name.name c.args.packet.now.destination_port c.args.packet.now.destination_channel c.self.view_is c.in_ok-name.ensures.ok (λ (mine : Channel). is_ordered mine ≡ true → mine.next_recv < 2 ^ 64 - 1) c.in-Some.channel.now c.requires (sym c.in-Some.ensures)

pub invariant_of-self-in_err-acks : goal.invariant_of-self-in_err-acks
invariant_of-self-in_err-acks g c =
    let old : RecordsModel = records_model c.self.inside in
    roomy old c.receive_on.new.channels.pairs c.reserve_receive.new.store c.self.invariant c.in_err-acks.ensures.unchanged.0 c.reserve_receive.ensures.same

pub invariant_of-self-2 : goal.invariant_of-self-2
invariant_of-self-2 g c =
    let old : RecordsModel = records_model c.self.inside in
    let mine : Channel = c.in-Some.channel.now in
    let there : at pair_cmp c.in_ok-name.name old.channels ≡ Some mine = sym c.in-Some.ensures in
    let entries = where_found (at pair_cmp c.in_ok-name.name old.channels) (λ (x : Channel). c.receive_on.new.channels.pairs ≡ with pair_cmp c.in_ok-name.name (after_receive c.args.packet.now.sequence c.in_ok-acks.acks.reply x) old.channels) mine there c.in_ok-acks.ensures.ok in
    (receives old c.in_ok-name.name.0 c.in_ok-name.name.1 mine c.receive_on.new.channels.pairs c.self.invariant c.in_ok-path.ensures.named there c.args.packet.now.sequence c.in_ok-acks.acks.reply
    c.reserve_receive.new.store c.set_reserved.new.store c.set_reserved-2.new.store c.reserve_receive.ensures.fits entries c.in_ok-path.ensures.path c.in_ok-acks.ensures.value c.in_ok-path.ensures.other
    c.reserve_receive.ensures.same c.set_reserved.ensures.set c.set_reserved-2.ensures.set).0

pub returns-clause-ok : goal.returns-clause-ok
returns-clause-ok g c =
    let old : RecordsModel = records_model c.self.inside in
    let mine : Channel = c.in-Some.channel.now in
    let there : at pair_cmp c.in_ok-name.name old.channels ≡ Some mine = sym c.in-Some.ensures in
    let entries = where_found (at pair_cmp c.in_ok-name.name old.channels) (λ (x : Channel). c.receive_on.new.channels.pairs ≡ with pair_cmp c.in_ok-name.name (after_receive c.args.packet.now.sequence c.in_ok-acks.acks.reply x) old.channels) mine there c.in_ok-acks.ensures.ok in
    let written = (receives old c.in_ok-name.name.0 c.in_ok-name.name.1 mine c.receive_on.new.channels.pairs c.self.invariant c.in_ok-path.ensures.named there c.args.packet.now.sequence c.in_ok-acks.acks.reply
    c.reserve_receive.new.store c.set_reserved.new.store c.set_reserved-2.new.store c.reserve_receive.ensures.fits entries c.in_ok-path.ensures.path c.in_ok-acks.ensures.value c.in_ok-path.ensures.other
    c.reserve_receive.ensures.same c.set_reserved.ensures.set c.set_reserved-2.ensures.set).1 in
    record {
      mine = mine;
      stood = found old c.args.self.now c.in_ok-name.name c.args.packet.now.destination_port c.args.packet.now.destination_channel c.self.view_is c.in_ok-name.ensures.ok mine there;
      answer = where_found (at pair_cmp c.in_ok-name.name old.channels) (λ (x : Channel). (c.in_ok-acks.acks.reply, c.receive_on.new.app) ≡ g.A.App.receives c.args.app.now x.end.version c.args.packet.now) mine there c.in_ok-acks.ensures.answer;
      written = written_at old c.args.self.now c.in_ok-name.name c.args.packet.now.destination_port c.args.packet.now.destination_channel c.self.view_is c.in_ok-name.ensures.ok (after_receive c.args.packet.now.sequence c.in_ok-acks.acks.reply mine) _ written;
    }
