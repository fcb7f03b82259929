-- The channel is taken out, changed, and put back.
use Rattle.std.proofs.Common.{◌≡◌, inl, inr, Ok, Err}
use Rattle.ibc_ids.specs.declared.refusal.Refusal.{Refusal}
use Rattle.ibc_ids.specs.Texts.{pair_cmp}
use Rattle.ibc_ids.specs.Maps.{at}
use Rattle.ibc_machine.specs.chain.Records.{Channel}
use Rattle.ibc_machine.specs.ics04.Packets.{after_timeout}
use Rattle.ibc_machine.proofs.FiniteMaps.{by_pair, pair_cmp_total}
use Rattle.ibc_records.proofs.Learning.{replaced, put_back, said_of, on_ok, on_err, if_err}
use Rattle.ibc_records.proofs.records.packets.time_out_on.Goals as goal

pub returns-clause-ok : goal.returns-clause-ok
returns-clause-ok g c =
    on_ok c.time_out-settled.result c.time_out-settled.ensures.ok
    (replaced pair_cmp_total by_pair.exact c.args.channels.now.pairs c.take.new.map.pairs c.put.new.map.pairs c.args.name c.in_ok-channel.channel c.time_out-settled.new.self c.in_ok-channel.ensures.value c.take.ensures.sorted c.in_ok-channel.ensures.ok c.put.ensures
    (after_timeout c.args.packet.now.sequence))

pub returns-clause-told : goal.returns-clause-told
returns-clause-told g c =
    on_ok c.time_out-settled.result c.time_out-settled.ensures.told
    (λ told. said_of (at pair_cmp c.args.name c.args.channels.now.pairs) (λ (mine : Channel). g.A.App.times_out c.args.app.now mine.end.version c.args.packet.now ≡ Ok c.time_out-settled.new.app) c.in_ok-channel.channel c.in_ok-channel.ensures.value told)

pub returns-clause-err : goal.returns-clause-err
returns-clause-err g c =
    if_err c.time_out-settled.result c.time_out-settled.ensures.err
    (λ (refusal : Refusal) why. elim why [
      | inl e ↦ inl e
      | inr e ↦ inr (said_of (at pair_cmp c.args.name c.args.channels.now.pairs) (λ (mine : Channel). g.A.App.times_out c.args.app.now mine.end.version c.args.packet.now ≡ Err refusal) c.in_ok-channel.channel c.in_ok-channel.ensures.value e)
    ])

pub returns-clause-unchanged : goal.returns-clause-unchanged
returns-clause-unchanged g c =
    on_err c.time_out-settled.result c.time_out-settled.ensures.unchanged
    (λ same. (
      put_back pair_cmp_total by_pair.exact c.args.channels.now.pairs c.take.new.map.pairs c.put.new.map.pairs c.args.name c.in_ok-channel.channel c.time_out-settled.new.self c.in_ok-channel.ensures.value c.take.ensures.sorted c.in_ok-channel.ensures.ok c.put.ensures
          same.0,
      same.1,
    ))
