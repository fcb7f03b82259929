-- The channel is taken out, changed, and put back.
use Rattle.std.proofs.Common.{◌≡◌, ◌-◌, ◌^◌, ◌<◌, true}
use Rattle.ibc_ids.specs.Texts.{pair_cmp}
use Rattle.ibc_ids.specs.Maps.{at}
use Rattle.ibc_machine.specs.chain.Records.{Channel}
use Rattle.ibc_machine.specs.ics04.Packets.{is_ordered, after_receive}
use Rattle.ibc_machine.proofs.FiniteMaps.{by_pair, pair_cmp_total}
use Rattle.ibc_records.proofs.Learning.{replaced, put_back, is_there, asked_of, said_of, if_ok, on_err}
use Rattle.ibc_records.proofs.records.packets.receive_on.Goals as goal

pub take-requires : goal.take-requires
take-requires g c = is_there (at pair_cmp c.args.name c.args.channels.now.pairs) (λ (mine : Channel). is_ordered mine ≡ true → mine.next_recv < 2 ^ 64 - 1) c.requires.some

pub receive-received-requires-clause-counter : goal.receive-received-requires-clause-counter
receive-received-requires-clause-counter g c = asked_of (at pair_cmp c.args.name c.args.channels.now.pairs) (λ (mine : Channel). is_ordered mine ≡ true → mine.next_recv < 2 ^ 64 - 1) c.in_ok-channel.channel c.in_ok-channel.ensures.value c.requires.some

pub returns-clause-answer : goal.returns-clause-answer
returns-clause-answer g c =
    if_ok c.receive-received.result c.receive-received.ensures.answer
    (λ acks said. said_of (at pair_cmp c.args.name c.args.channels.now.pairs) (λ (mine : Channel). (acks.reply, c.receive-received.new.app) ≡ g.A.App.receives c.args.app.now mine.end.version c.args.packet.now) c.in_ok-channel.channel c.in_ok-channel.ensures.value said)

pub returns-clause-ok : goal.returns-clause-ok
returns-clause-ok g c =
    if_ok c.receive-received.result c.receive-received.ensures.ok
    (λ acks. replaced pair_cmp_total by_pair.exact c.args.channels.now.pairs c.take.new.map.pairs c.put.new.map.pairs c.args.name c.in_ok-channel.channel c.receive-received.new.self c.in_ok-channel.ensures.value c.take.ensures.sorted c.in_ok-channel.ensures.ok c.put.ensures
    (after_receive c.args.packet.now.sequence acks.reply))

pub returns-clause-unchanged : goal.returns-clause-unchanged
returns-clause-unchanged g c =
    on_err c.receive-received.result c.receive-received.ensures.unchanged
    (λ same. (
      put_back pair_cmp_total by_pair.exact c.args.channels.now.pairs c.take.new.map.pairs c.put.new.map.pairs c.args.name c.in_ok-channel.channel c.receive-received.new.self c.in_ok-channel.ensures.value c.take.ensures.sorted c.in_ok-channel.ensures.ok c.put.ensures
          same.0,
      same.1,
    ))
