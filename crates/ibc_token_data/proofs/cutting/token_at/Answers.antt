-- The steps that gave what was cut.
use Rattle.ibc_token_data.proofs.Rows.{token_cut}
use Rattle.ibc_token_data.proofs.cutting.token_at.Goals as goal

pub returns-then-is_token : goal.returns-then-is_token
returns-then-is_token c =
    token_cut c.args.text.now c.in_ok-digits.digits.now c.in_ok-digits.rest.now c.in_ok-amount.amount c.in_ok-denom.denom.now c.in_ok-denom.rest.now c.in_ok-digits.ensures c.in_ok-amount.ensures c.in_ok-denom.ensures c.if-is_token.ensures
