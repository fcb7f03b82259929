use Rattle.ibc_race.proofs.Gathering.{audited, broken, one_world}
use Rattle.ibc_race.proofs.audit_chains.Goals as goal

pub lawful_audit-requires : goal.lawful_audit-requires
lawful_audit-requires g c = one_world g.W.WorldBrand.table g.W.WorldBrand.genesis c.in_ok-ledgers_of.field-0.items c.in_ok-ledgers_of.ensures.gathered.0

pub returns-clause-audited : goal.returns-clause-audited
returns-clause-audited g c =
    audited g.W.WorldBrand.table g.W.WorldBrand.genesis c.args.chains.items c.args.receipts.now c.args.readings.now c.in_ok-ledgers_of.field-0.items c.lawful_audit.result
    c.in_ok-ledgers_of.ensures.numbers c.in_ok-ledgers_of.ensures.gathered c.lawful_audit.ensures.audited c.lawful_audit.ensures.lawful

pub returns-clause-bad : goal.returns-clause-bad
returns-clause-bad g c = λ bad.
    broken g.W.WorldBrand.table g.W.WorldBrand.genesis c.args.chains.items c.args.receipts.now c.args.readings.now c.in_ok-ledgers_of.field-0.items c.in_ok-ledgers_of.ensures.numbers
    c.in_ok-ledgers_of.ensures.gathered (c.lawful_audit.ensures.bad.0 bad)
