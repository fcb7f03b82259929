-- One move more stands in front of those of the tokens that are left.
use Rattle.std.proofs.Common.{sym, ap, ◌∙◌, ◌+◌, drop}
use Rattle.ibc_transfer.specs.TokenArrival.{receive_moves}
use Rattle.ibc_transfer.proofs.Receiving.{behind, one_more}
use Rattle.ibc_transfer.proofs.arriving.receive_moves.Goals as goal

pub loop-token-preserved : goal.loop-token-preserved
loop-token-preserved c =
    let place = one_more c.args.packet.now c.args.user.now c.args.tokens.now c.loop-token.token-index c.token-item.result c.loop-token-test.true c.token-item.is c.loop-token.moves.items c.in-Some.step (sym c.in-Some.is ∙ c.in_ok-step.ensures.ok) in
    c.loop-token.invariant ∙ place
    ∙ ap (λ moves. behind moves (receive_moves c.args.packet.now c.args.user.now (drop (c.loop-token.token-index + 1) c.args.tokens.now))) (sym c.in_ok-push.ensures.items)
