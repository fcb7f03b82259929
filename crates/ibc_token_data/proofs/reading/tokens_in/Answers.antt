use Rattle.std.proofs.Common.{◌<◌, Global, Vec, length, arith}
use Rattle.std.proofs.lemmas.Result.{err_from_is_err_and}
use Rattle.ibc_wire.specs.declared.token.Token.{Token}
use Rattle.ibc_token_data.specs.Cutting.{token_of, tokens_in}
use Rattle.ibc_token_data.proofs.Rows.{too_many, no_token, no_name, last_token, no_comma, next_token, one_longer, fault_passes}
use Rattle.ibc_token_data.proofs.reading.tokens_in.Goals as goal

pub returns-in_default : goal.returns-in_default
returns-in_default c =
    let inside : length c.loop-rest.tokens.items < 8 = omega (arith, c.loop-rest-test.true, c.len.ensures) in
    no_token (tokens_in 8 c.args.text.now) c.loop-rest.tokens.items c.loop-rest.rest.now c.loop-rest.invariant.so_far inside c.in_default.ensures

pub returns-in_err-token_of : goal.returns-in_err-token_of
returns-in_err-token_of c =
    let inside : length c.loop-rest.tokens.items < 8 = omega (arith, c.loop-rest-test.true, c.len.ensures) in
    let p = err_from_is_err_and c.from_residual.result c.from_residual.ensures.1 in
    rw (p.1, p.2)
    (fault_passes (λ (tokens : Vec Token Global). tokens.items) c.in_err-token_of.field-0.0 (token_of c.in-Some.amount c.in-Some.denom.now) (tokens_in 8 c.args.text.now) c.in_err-token_of.ensures
    (no_name (tokens_in 8 c.args.text.now) c.loop-rest.tokens.items c.loop-rest.rest.now c.loop-rest.invariant.so_far inside c.in-Some.amount c.in-Some.denom.now c.in-Some.next.now c.in-Some.ensures))

pub returns-then-is_text : goal.returns-then-is_text
returns-then-is_text c =
    let inside : length c.loop-rest.tokens.items < 8 = omega (arith, c.loop-rest-test.true, c.len.ensures) in
    last_token (tokens_in 8 c.args.text.now) c.loop-rest.tokens.items c.loop-rest.rest.now c.loop-rest.invariant.so_far inside c.in-Some.amount c.in-Some.denom.now c.in-Some.next.now c.in-Some.ensures
    c.in_ok-token_of.field-0 c.in_ok-token_of.ensures c.push.new.self.items c.in_ok-push.ensures.items c.if-is_text.ensures

pub returns-in_default-behind : goal.returns-in_default-behind
returns-in_default-behind c =
    let inside : length c.loop-rest.tokens.items < 8 = omega (arith, c.loop-rest-test.true, c.len.ensures) in
    no_comma (tokens_in 8 c.args.text.now) c.loop-rest.tokens.items c.loop-rest.rest.now c.loop-rest.invariant.so_far inside c.in-Some.amount c.in-Some.denom.now c.in-Some.next.now c.in-Some.ensures
    c.in_ok-token_of.field-0 c.in_ok-token_of.ensures c.if-is_text.ensures c.in_default-behind.ensures

pub loop-rest-preserved : goal.loop-rest-preserved
loop-rest-preserved c =
    let inside : length c.loop-rest.tokens.items < 8 = omega (arith, c.loop-rest-test.true, c.len.ensures) in
    record {
      few = one_longer c.loop-rest.tokens.items c.push.new.self.items c.in_ok-token_of.field-0 c.in_ok-push.ensures.items inside;
      so_far = next_token (tokens_in 8 c.args.text.now) c.loop-rest.tokens.items c.loop-rest.rest.now c.loop-rest.invariant.so_far inside c.in-Some.amount c.in-Some.denom.now c.in-Some.next.now c.in-Some.ensures
          c.in_ok-token_of.field-0 c.in_ok-token_of.ensures c.push.new.self.items c.in-Some-behind.next.now c.in_ok-push.ensures.items c.if-is_text.ensures c.in-Some-behind.ensures;
    }

pub returns : goal.returns
returns c =
    too_many (tokens_in 8 c.args.text.now) c.loop-rest.tokens.items c.loop-rest.rest.now c.loop-rest.invariant.so_far c.loop-rest.invariant.few (omega (arith, c.loop-rest-test.false, c.len.ensures))
