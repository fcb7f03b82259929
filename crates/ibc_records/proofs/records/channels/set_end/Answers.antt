-- The channel is taken out, has another end, and is put back.
use Rattle.ibc_machine.specs.chain.Records.{Channel}
use Rattle.ibc_machine.proofs.FiniteMaps.{by_pair, pair_cmp_total}
use Rattle.ibc_records.proofs.Learning.{replaced}
use Rattle.ibc_records.proofs.records.channels.set_end.Goals as goal

pub returns-clause-ok : goal.returns-clause-ok
returns-clause-ok c =
    replaced pair_cmp_total by_pair.exact c.args.channels.now.pairs c.take.new.map.pairs c.put.new.map.pairs c.args.name c.in_ok-channel.channel c.set_end.new.self c.in_ok-channel.ensures.value c.take.ensures.sorted c.in_ok-channel.ensures.ok c.put.ensures
    (λ (channel : Channel). record channel { end = c.args.end }) c.set_end.ensures
