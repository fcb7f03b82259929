-- The store is again the image of the core, in which the channel has the commitment.
use Rattle.std.proofs.Common.{◌≡◌, ◌+◌, ◌-◌, ◌^◌, ◌<◌, arith, sym, ap, ◌∙◌, Some}
use Rattle.ibc_ids.specs.Texts.{pair_cmp}
use Rattle.ibc_ids.specs.Maps.{at, with}
use Rattle.ibc_ids.specs.Paths.{path}
use Rattle.ibc_ids.specs.declared.key.Key.TheVariants as key
use Rattle.ibc_machine.specs.chain.Records.{Channel}
use Rattle.ibc_machine.specs.ics04.Packets.{after_send}
use Rattle.ibc_machine.specs.ics24.Values.{value_bytes, NumberIs}
use Rattle.ibc_records.specs.RecordsModel.{RecordsModel}
use Rattle.ibc_records.specs.RecordsFields.{records_model}
use Rattle.ibc_records.proofs.Channels.{roomy}
use Rattle.ibc_records.proofs.PacketSteps.{sends, where_found, found, asked, not_missing, written_at}
use Rattle.ibc_records.proofs.records.Records.send_paid.Goals as goal

pub returns-in-None-clause-err : goal.returns-in-None-clause-err
returns-in-None-clause-err g c =
    let old : RecordsModel = records_model c.self.inside in
    absurd (not_missing old c.args.self.now c.in_ok-name.name c.args.port.now c.args.id.now c.self.view_is c.in_ok-name.ensures.ok (λ (mine : Channel). mine.next_send < 2 ^ 64 - 1) c.requires (sym c.in-None.ensures))

pub reserve_send-requires : goal.reserve_send-requires
reserve_send-requires g c =
    let old : RecordsModel = records_model c.self.inside in
    let below = asked old c.args.self.now c.in_ok-name.name c.args.port.now c.args.id.now c.self.view_is c.in_ok-name.ensures.ok (λ (mine : Channel). mine.next_send < 2 ^ 64 - 1) c.in-Some.channel.now c.requires (sym c.in-Some.ensures) in
    omega (arith, below, c.next_send-sequence.ensures)

pub invariant_of-self-in_err-send_on : goal.invariant_of-self-in_err-send_on
invariant_of-self-in_err-send_on g c =
    let old : RecordsModel = records_model c.self.inside in
    roomy old c.send_on.new.channels.pairs c.reserve_send.new.store c.self.invariant c.in_err-send_on.ensures.unchanged.0 c.reserve_send.ensures.same

pub invariant_of-self-2 : goal.invariant_of-self-2
invariant_of-self-2 g c =
    let old : RecordsModel = records_model c.self.inside in
    let mine : Channel = c.in-Some.channel.now in
    let there : at pair_cmp c.in_ok-name.name old.channels ≡ Some mine = sym c.in-Some.ensures in
    let below = asked old c.args.self.now c.in_ok-name.name c.args.port.now c.args.id.now c.self.view_is c.in_ok-name.ensures.ok (λ (mine : Channel). mine.next_send < 2 ^ 64 - 1) mine c.requires there in
    let fits : mine.next_send < 2 ^ 64 = omega (arith, below) in
    let entries = where_found (at pair_cmp c.in_ok-name.name old.channels) (λ (x : Channel). c.send_on.new.channels.pairs ≡ with pair_cmp c.in_ok-name.name (after_send c.args.commitment x) old.channels) mine there c.in_ok-send_on.ensures.ok in
    (sends old c.in_ok-name.name.0 c.in_ok-name.name.1 mine c.send_on.new.channels.pairs c.self.invariant c.in_ok-path.ensures.named there c.args.commitment c.reserve_send.new.store c.set_reserved.new.store c.set_reserved-2.new.store
    fits entries (c.in_ok-path.ensures.path ∙ ap (λ n. path (key.Commitment c.in_ok-name.name.0 c.in_ok-name.name.1 n)) c.next_send-sequence.ensures) c.in_ok-path.ensures.value
    c.in_ok-path.ensures.next_path (c.in_ok-path.ensures.next ∙ ap (λ n. value_bytes (NumberIs (n + 1))) c.next_send-sequence.ensures)
    c.reserve_send.ensures.same c.set_reserved.ensures.set c.set_reserved-2.ensures.set).0

pub returns-clause-ok : goal.returns-clause-ok
returns-clause-ok g c =
    let old : RecordsModel = records_model c.self.inside in
    let mine : Channel = c.in-Some.channel.now in
    let there : at pair_cmp c.in_ok-name.name old.channels ≡ Some mine = sym c.in-Some.ensures in
    let below = asked old c.args.self.now c.in_ok-name.name c.args.port.now c.args.id.now c.self.view_is c.in_ok-name.ensures.ok (λ (mine : Channel). mine.next_send < 2 ^ 64 - 1) mine c.requires there in
    let fits : mine.next_send < 2 ^ 64 = omega (arith, below) in
    let entries = where_found (at pair_cmp c.in_ok-name.name old.channels) (λ (x : Channel). c.send_on.new.channels.pairs ≡ with pair_cmp c.in_ok-name.name (after_send c.args.commitment x) old.channels) mine there c.in_ok-send_on.ensures.ok in
    let written = (sends old c.in_ok-name.name.0 c.in_ok-name.name.1 mine c.send_on.new.channels.pairs c.self.invariant c.in_ok-path.ensures.named there c.args.commitment c.reserve_send.new.store c.set_reserved.new.store c.set_reserved-2.new.store
    fits entries (c.in_ok-path.ensures.path ∙ ap (λ n. path (key.Commitment c.in_ok-name.name.0 c.in_ok-name.name.1 n)) c.next_send-sequence.ensures) c.in_ok-path.ensures.value
    c.in_ok-path.ensures.next_path (c.in_ok-path.ensures.next ∙ ap (λ n. value_bytes (NumberIs (n + 1))) c.next_send-sequence.ensures)
    c.reserve_send.ensures.same c.set_reserved.ensures.set c.set_reserved-2.ensures.set).1 in
    record {
      mine = mine;
      stood = found old c.args.self.now c.in_ok-name.name c.args.port.now c.args.id.now c.self.view_is c.in_ok-name.ensures.ok mine there;
      sequence = c.next_send-sequence.ensures;
      written = written_at old c.args.self.now c.in_ok-name.name c.args.port.now c.args.id.now c.self.view_is c.in_ok-name.ensures.ok (after_send c.args.commitment mine) _ written;
    }
