use Rattle.std.proofs.Common.{subst}
use Rattle.std.proofs.lemmas.Result.{err_from_is_err_and}
use Rattle.ibc_token_data.specs.AbstractData.{abstract_data}
use Rattle.ibc_token_data.specs.Cutting.{Gives, tokens_in, several_told}
use Rattle.ibc_token_data.proofs.Rows.{several_unlisted, several_falls, several_none, several_found, list_fault_passes}
use Rattle.ibc_token_data.proofs.reading.several_told.Goals as goal

pub returns-in_default-behind : goal.returns-in_default-behind
returns-in_default-behind c =
    let p = c.in-Some.parties in
    several_unlisted c.args.text.now p.memo.now p.receiver.now p.sender.now p.rest.now c.in-Some.ensures c.in_default-behind.ensures

pub returns-then-not-is_row : goal.returns-then-not-is_row
returns-then-not-is_row c =
    let p = c.in-Some.parties in
    several_falls c.args.text.now p.memo.now p.receiver.now p.sender.now p.rest.now c.in-Some-behind.list.now c.in-Some.ensures c.in-Some-behind.ensures c.if-not-is_row.ensures

pub returns-in_err-tokens : goal.returns-in_err-tokens
returns-in_err-tokens c =
    let p = c.in-Some.parties in
    let e = err_from_is_err_and c.from_residual.result c.from_residual.ensures.1 in
    rw (e.1, e.2)
    (list_fault_passes c.in_err-tokens.field-0.0 (tokens_in 8 c.in-Some-behind.list.now) (several_told c.args.text.now) c.in_err-tokens.ensures
    (several_none c.args.text.now p.memo.now p.receiver.now p.sender.now p.rest.now c.in-Some-behind.list.now c.in-Some.ensures c.in-Some-behind.ensures c.if-not-is_row.ensures))

pub returns : goal.returns
returns c =
    let p = c.in-Some.parties in
    subst (λ o. Gives abstract_data c.told_with.result o)
    (several_found c.args.text.now p.memo.now p.receiver.now p.sender.now p.rest.now c.in-Some-behind.list.now c.in-Some.ensures c.in-Some-behind.ensures c.in_ok-tokens.tokens.items c.if-not-is_row.ensures c.in_ok-tokens.ensures)
    c.told_with.ensures
