-- One token more counts as much as the sum of the first grows by.
use Rattle.std.proofs.Common.{true, false, arith}
use Rattle.ibc_token_data.proofs.PartialSums.{one_more, within}
use Rattle.ibc_token_data.proofs.DenomAmounts.{counted, counts}
use Rattle.ibc_token_data.proofs.token_data.amount_in.Goals.{then-eq+in-Some, else-eq}
use Rattle.ibc_token_data.proofs.token_data.amount_in.Goals as goal

pub returns-in_default : goal.returns-in_default
returns-in_default c =
    let token = c.token-item.result in
    let denom = c.args.denom.now in
    let count = counts denom token true c.if-eq.ensures in
    let part = within (counted denom) c.args.tokens.now c.loop-token.token-index token c.loop-token-test.true c.token-item.is in
    λ fits. omega (arith, count, part, fits, c.in_default.ensures, c.loop-token.invariant.so_far)

pub loop-token-preserved : goal.loop-token-preserved
loop-token-preserved c =
    let token = c.token-item.result in
    let denom = c.args.denom.now in
    let more = one_more (counted denom) c.args.tokens.now c.loop-token.token-index token c.loop-token-test.true c.token-item.is in
    elim c.if-eq.branch [
      | then-eq+in-Some w ↦
          let count = counts denom token true w.if-eq.ensures in
          record { small = omega (arith, w.in-Some.ensures, w.amount-is); so_far = omega (arith, count, more, w.in-Some.ensures, w.amount-is) }
      | else-eq w ↦
          let count = counts denom token false w.if-eq.ensures in
          record { small = omega (arith, w.amount-is); so_far = omega (arith, count, more, w.amount-is) }
    ]
