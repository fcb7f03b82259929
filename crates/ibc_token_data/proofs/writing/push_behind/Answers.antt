use Rattle.std.proofs.Common.{string_bytes}
use Rattle.ibc_token_data.proofs.Joined.{behind_step}
use Rattle.ibc_token_data.proofs.writing.push_behind.Goals as goal

pub loop-token-preserved : goal.loop-token-preserved
loop-token-preserved c =
    behind_step c.args.tokens.now c.loop-token.token-index c.token-item.result (string_bytes c.args.text.now) _ _ _ c.loop-token-test.true c.token-item.is
    c.loop-token.invariant c.in_ok-push_str.ensures.bytes c.in_ok-push_object.ensures
