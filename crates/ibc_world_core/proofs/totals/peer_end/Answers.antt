-- What is asked of the end is asked of the channel.
use Rattle.std.proofs.Common.{◌≡◌, refl, subst, Some, None, Bor}
use Rattle.ibc_ids.specs.Texts.{Text}
use Rattle.ibc_wire.specs.declared.records.ChannelEnd.{ChannelEnd}
use Rattle.ibc_machine.specs.chain.Records.{Channel, channel_at}
use Rattle.ibc_machine.specs.ics04.Channels.{peer_channel_of}
use Rattle.ibc_machine.specs.ledger.Ledgers.{state_of}
use Rattle.ibc_world_core.proofs.CountedTotals.{said, said_none}
use Rattle.ibc_world_core.proofs.totals.peer_end.Goals as goal

pub returns-in-None-clause-ok : goal.returns-in-None-clause-ok
returns-in-None-clause-ok c =
    let theirs = (state_of c.args.ledger.now.ledger).chain.records.core in
    let end = c.end-end.result.now in
    let none = said_none (channel_at theirs end.peer_port (peer_channel_of end) ≡ None) (λ (named : Bor Text × Bor Channel). (end.peer_channel ≡ Some named.0.now) × (channel_at theirs end.peer_port named.0.now ≡ Some named.1.now)) c.in_ok-name.field-0 c.in-None.is c.in_ok-name.ensures.ok in
    subst (λ (e : ChannelEnd). channel_at theirs e.peer_port (peer_channel_of e) ≡ None) c.end-end.ensures none

pub returns-in-Some-clause-ok : goal.returns-in-Some-clause-ok
returns-in-Some-clause-ok c =
    let theirs = (state_of c.args.ledger.now.ledger).chain.records.core in
    let end = c.end-end.result.now in
    let named = said (channel_at theirs end.peer_port (peer_channel_of end) ≡ None) (λ (named : Bor Text × Bor Channel). (end.peer_channel ≡ Some named.0.now) × (channel_at theirs end.peer_port named.0.now ≡ Some named.1.now)) c.in_ok-name.field-0 (c.in-Some.name, c.in-Some.end) c.in-Some.is c.in_ok-name.ensures.ok in
    let so = subst (λ (e : ChannelEnd). (e.peer_channel ≡ Some c.in-Some.name.now) × (channel_at theirs e.peer_port c.in-Some.name.now ≡ Some c.in-Some.end.now)) c.end-end.ensures named in
    (refl, record { named = so.0; end = so.1 })
