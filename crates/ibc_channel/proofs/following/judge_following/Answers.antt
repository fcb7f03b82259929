-- Each check of the code is the definition's, behind those before it, and the claim that is made is the one that the peer must meet.
use Rattle.std.proofs.Common.{Ok, Err, sym, inl, inr}
use Rattle.ibc_machine.proofs.PassedChecks.{pass, fail}
use Rattle.ibc_records.proofs.Judging.{failed, passed, stops, stops_at, made}
use Rattle.ibc_channel.specs.ChannelHandshake.{end_in_state}
use Rattle.ibc_channel.proofs.FoundRecords.{followed_shown}
use Rattle.ibc_channel.proofs.Handshake.{refused, follow_begun, follow_found}
use Rattle.ibc_channel.proofs.following.judge_following.Goals as goal

pub returns-in_err-mine-clause-judged : goal.returns-in_err-mine-clause-judged
returns-in_err-mine-clause-judged c = λ chain chains bytes read seen state knows.
    refused _ c.from_residual.result c.from_residual.ensures.1 (stops_at _ c.in_err-mine.ensures.err (follow_begun c.args.records.now chain chains seen state c.args.to c.args.port.now c.args.channel.now c.args.height bytes c.args.proof.now read))

pub returns-in_err-check_follows-clause-judged : goal.returns-in_err-check_follows-clause-judged
returns-in_err-check_follows-clause-judged c = λ chain chains bytes read seen state knows.
    refused _ c.from_residual-in_err-check_follows.result c.from_residual-in_err-check_follows.ensures.1 (inl (fail _ (sym c.in_err-check_follows.ensures) (follow_found c.args.records.now chain chains seen state c.args.to c.args.port.now c.args.channel.now c.args.height bytes c.args.proof.now read _ c.in_ok-mine.ensures.ok)))

pub returns-in_err-connection-clause-judged : goal.returns-in_err-connection-clause-judged
returns-in_err-connection-clause-judged c = λ chain chains bytes read seen state knows.
    refused _ c.from_residual-in_err-connection.result c.from_residual-in_err-connection.ensures.1 (inl (fail _ c.in_err-connection.ensures.failed (pass (sym c.in_ok-check_follows.ensures) (follow_found c.args.records.now chain chains seen state c.args.to c.args.port.now c.args.channel.now c.args.height bytes c.args.proof.now read _ c.in_ok-mine.ensures.ok))))

pub returns-in_err-claim-clause-judged : goal.returns-in_err-claim-clause-judged
returns-in_err-claim-clause-judged c = λ chain chains bytes read seen state knows. refused _ c.from_residual-in_err-claim.result c.from_residual-in_err-claim.ensures.1 (inr c.in_err-claim.ensures.err)

pub returns-in_err-shown-clause-judged : goal.returns-in_err-shown-clause-judged
returns-in_err-shown-clause-judged c =
    let claim = c.in_ok-claim.ensures in
    let shown = followed_shown c.args.records.now c.in_ok-mine.mine.now c.in_ok-connection.connection.now c.args.height c.in_ok-connection.ensures.there c.in_ok-connection.ensures.known
    c.args.port.now c.args.channel.now c.args.to c.requires c.args.proof.now (Err c.in_err-shown.field-0.0) claim.path c.name_or_none-peer.ensures claim.value c.as_str.ensures.text c.in_err-shown.ensures in
    λ chain chains bytes read seen state knows.
    refused _ c.from_residual-in_err-shown.result c.from_residual-in_err-shown.ensures.1 (stops _ (failed (shown seen state bytes knows read)) (pass c.in_ok-connection.ensures.passed (pass (sym c.in_ok-check_follows.ensures) (follow_found c.args.records.now chain chains seen state c.args.to c.args.port.now c.args.channel.now c.args.height bytes c.args.proof.now read _ c.in_ok-mine.ensures.ok))))

pub returns-clause-judged : goal.returns-clause-judged
returns-clause-judged c =
    let claim = c.in_ok-claim.ensures in
    let shown = followed_shown c.args.records.now c.in_ok-mine.mine.now c.in_ok-connection.connection.now c.args.height c.in_ok-connection.ensures.there c.in_ok-connection.ensures.known
    c.args.port.now c.args.channel.now c.args.to c.requires c.args.proof.now (Ok tt) claim.path c.name_or_none-peer.ensures claim.value c.as_str.ensures.text c.in_ok-shown.ensures in
    λ chain chains bytes read seen state knows.
    made _ _ (end_in_state c.args.to c.in_ok-mine.mine.now) c.move_end.result (pass (passed (shown seen state bytes knows read)) (pass c.in_ok-connection.ensures.passed (pass (sym c.in_ok-check_follows.ensures) (follow_found c.args.records.now chain chains seen state c.args.to c.args.port.now c.args.channel.now c.args.height bytes c.args.proof.now read _ c.in_ok-mine.ensures.ok)))) c.move_end.ensures.ok c.move_end.ensures.err
