-- The channel is taken out, changed, and put back.
use Rattle.std.proofs.Common.{◌-◌, ◌^◌, ◌<◌}
use Rattle.ibc_ids.specs.Texts.{pair_cmp}
use Rattle.ibc_ids.specs.Maps.{at}
use Rattle.ibc_machine.specs.chain.Records.{Channel}
use Rattle.ibc_machine.specs.ics04.Packets.{after_send}
use Rattle.ibc_machine.proofs.FiniteMaps.{by_pair, pair_cmp_total}
use Rattle.ibc_records.proofs.Learning.{replaced, put_back, is_there, asked_of, on_ok, on_err}
use Rattle.ibc_records.proofs.records.packets.send_on.Goals as goal

pub take-requires : goal.take-requires
take-requires g c = is_there (at pair_cmp c.args.name c.args.channels.now.pairs) (λ (mine : Channel). mine.next_send < 2 ^ 64 - 1) c.requires

pub send-sent-requires : goal.send-sent-requires
send-sent-requires g c = asked_of (at pair_cmp c.args.name c.args.channels.now.pairs) (λ (mine : Channel). mine.next_send < 2 ^ 64 - 1) c.in_ok-channel.channel c.in_ok-channel.ensures.value c.requires

pub returns-clause-ok : goal.returns-clause-ok
returns-clause-ok g c =
    on_ok c.send-sent.result c.send-sent.ensures.ok
    (replaced pair_cmp_total by_pair.exact c.args.channels.now.pairs c.take.new.map.pairs c.put.new.map.pairs c.args.name c.in_ok-channel.channel c.send-sent.new.self c.in_ok-channel.ensures.value c.take.ensures.sorted c.in_ok-channel.ensures.ok c.put.ensures
    (after_send c.args.commitment))

pub returns-clause-unchanged : goal.returns-clause-unchanged
returns-clause-unchanged g c =
    on_err c.send-sent.result c.send-sent.ensures.unchanged
    (λ same. (
      put_back pair_cmp_total by_pair.exact c.args.channels.now.pairs c.take.new.map.pairs c.put.new.map.pairs c.args.name c.in_ok-channel.channel c.send-sent.new.self c.in_ok-channel.ensures.value c.take.ensures.sorted c.in_ok-channel.ensures.ok c.put.ensures
          same.0,
      same.1,
    ))
