-- The client under the end's connection is asked, at its latest height.
use Rattle.std.proofs.Common.{◌&&◌, ◌||◌, ap, ◌∙◌}
use Rattle.ibc_wire.specs.declared.records.ClientState.{ClientState}
use Rattle.ibc_wire.specs.declared.records.ChannelEnd.{ChannelEnd}
use Rattle.ibc_machine.specs.chain.Records.{connection_at, is_known_height}
use Rattle.ibc_machine.specs.ledger.Replay.{proof_evidence}
use Rattle.ibc_machine.specs.ics04.Packets.{is_reached}
use Rattle.ibc_records.specs.RecordsModel.{core_of}
use Rattle.ibc_records.specs.TimeoutChecks.{with_timeouts}
use Rattle.ibc_records.proofs.Limits.{no_connection, no_client, passed_over}
use Rattle.ibc_records.proofs.sending.has_passed.Goals as goal
use Rattle.std.proofs.Common.{None}

pub returns-in_default : goal.returns-in_default
returns-in_default c = λ payload seen state knowledge.
    no_connection c.args.records.now state seen c.args.mine.now (with_timeouts payload c.args.timeout_height c.args.timeout_time) c.lemma_names_have_form.ensures
    (c.in_default.ensures ∙ ap (λ (end : ChannelEnd). connection_at (core_of c.args.records.now) end.connection) c.end.ensures)

pub returns-in_default-client : goal.returns-in_default-client
returns-in_default-client c = λ payload seen state knowledge.
    no_client c.args.records.now state seen c.args.mine.now (with_timeouts payload c.args.timeout_height c.args.timeout_time) c.in-Some.connection.now
    (c.in-Some.ensures ∙ ap (λ (end : ChannelEnd). connection_at (core_of c.args.records.now) end.connection) c.end.ensures) c.in_default-client.ensures

pub returns-then-is_reached : goal.returns-then-is_reached
returns-then-is_reached c = λ payload seen state knowledge.
    let client = c.in-Some.connection.now.client in
    let latest = c.state-latest.result.latest in
    c.if-is_reached.true
    ∙ ap (λ b. b || (is_known_height (core_of c.args.records.now) client latest && is_reached c.args.timeout_time ((proof_evidence seen None state).time_at client latest))) c.if-is_reached.ensures
    ∙ passed_over c.args.records.now state seen c.args.mine.now (with_timeouts payload c.args.timeout_height c.args.timeout_time) c.in-Some.connection.now
    (c.in-Some.ensures ∙ ap (λ (end : ChannelEnd). connection_at (core_of c.args.records.now) end.connection) c.end.ensures)
    c.in-Some-client.client.now latest c.in-Some-client.ensures (ap (λ (s : ClientState). s.latest) c.state-latest.ensures)

pub returns-else-is_reached : goal.returns-else-is_reached
returns-else-is_reached c = λ payload seen state knowledge.
    let client = c.in-Some.connection.now.client in
    let latest = c.state-latest.result.latest in
    c.is_reached_at.ensures seen state knowledge
    ∙ ap (λ b. b || (is_known_height (core_of c.args.records.now) client latest && is_reached c.args.timeout_time ((proof_evidence seen None state).time_at client latest))) c.if-is_reached.ensures
    ∙ passed_over c.args.records.now state seen c.args.mine.now (with_timeouts payload c.args.timeout_height c.args.timeout_time) c.in-Some.connection.now
    (c.in-Some.ensures ∙ ap (λ (end : ChannelEnd). connection_at (core_of c.args.records.now) end.connection) c.end.ensures)
    c.in-Some-client.client.now latest c.in-Some-client.ensures (ap (λ (s : ClientState). s.latest) c.state-latest.ensures)
