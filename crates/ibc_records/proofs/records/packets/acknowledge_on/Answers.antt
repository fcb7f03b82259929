-- The channel is taken out, changed, and put back.
use Rattle.std.proofs.Common.{◌≡◌, ◌-◌, ◌^◌, ◌<◌, true, inl, inr, Ok, Err}
use Rattle.ibc_ids.specs.declared.refusal.Refusal.{Refusal}
use Rattle.ibc_ids.specs.Texts.{pair_cmp}
use Rattle.ibc_ids.specs.Maps.{at}
use Rattle.ibc_machine.specs.chain.Records.{Channel}
use Rattle.ibc_machine.specs.ics04.Packets.{is_ordered, after_ack}
use Rattle.ibc_machine.proofs.FiniteMaps.{by_pair, pair_cmp_total}
use Rattle.ibc_records.proofs.Learning.{replaced, put_back, is_there, asked_of, said_of, on_ok, on_err, if_err}
use Rattle.ibc_records.proofs.records.packets.acknowledge_on.Goals as goal

pub take-requires : goal.take-requires
take-requires g c = is_there (at pair_cmp c.args.name c.args.channels.now.pairs) (λ (mine : Channel). is_ordered mine ≡ true → mine.next_ack < 2 ^ 64 - 1) c.requires

pub acknowledge-settled-requires : goal.acknowledge-settled-requires
acknowledge-settled-requires g c = asked_of (at pair_cmp c.args.name c.args.channels.now.pairs) (λ (mine : Channel). is_ordered mine ≡ true → mine.next_ack < 2 ^ 64 - 1) c.in_ok-channel.channel c.in_ok-channel.ensures.value c.requires

pub returns-clause-ok : goal.returns-clause-ok
returns-clause-ok g c =
    on_ok c.acknowledge-settled.result c.acknowledge-settled.ensures.ok
    (replaced pair_cmp_total by_pair.exact c.args.channels.now.pairs c.take.new.map.pairs c.put.new.map.pairs c.args.name c.in_ok-channel.channel c.acknowledge-settled.new.self c.in_ok-channel.ensures.value c.take.ensures.sorted c.in_ok-channel.ensures.ok c.put.ensures
    (after_ack c.args.packet.now.sequence))

pub returns-clause-told : goal.returns-clause-told
returns-clause-told g c =
    on_ok c.acknowledge-settled.result c.acknowledge-settled.ensures.told
    (λ told. said_of (at pair_cmp c.args.name c.args.channels.now.pairs) (λ (mine : Channel). g.A.App.is_acknowledged c.args.app.now mine.end.version c.args.packet.now c.args.ack.now ≡ Ok c.acknowledge-settled.new.app) c.in_ok-channel.channel c.in_ok-channel.ensures.value told)

pub returns-clause-err : goal.returns-clause-err
returns-clause-err g c =
    if_err c.acknowledge-settled.result c.acknowledge-settled.ensures.err
    (λ (refusal : Refusal) why. elim why [
      | inl e ↦ inl e
      | inr e ↦ inr (said_of (at pair_cmp c.args.name c.args.channels.now.pairs) (λ (mine : Channel). g.A.App.is_acknowledged c.args.app.now mine.end.version c.args.packet.now c.args.ack.now ≡ Err refusal) c.in_ok-channel.channel c.in_ok-channel.ensures.value e)
    ])

pub returns-clause-unchanged : goal.returns-clause-unchanged
returns-clause-unchanged g c =
    on_err c.acknowledge-settled.result c.acknowledge-settled.ensures.unchanged
    (λ same. (
      put_back pair_cmp_total by_pair.exact c.args.channels.now.pairs c.take.new.map.pairs c.put.new.map.pairs c.args.name c.in_ok-channel.channel c.acknowledge-settled.new.self c.in_ok-channel.ensures.value c.take.ensures.sorted c.in_ok-channel.ensures.ok c.put.ensures
          same.0,
      same.1,
    ))
