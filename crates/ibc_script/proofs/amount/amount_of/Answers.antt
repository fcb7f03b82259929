use Rattle.std.proofs.Common.{◌≡◌, ◌<◌, ◌^◌, arith, Ok, ap, sym, ◌∙◌, decimal}
use Rattle.std.proofs.lemmas.Fmt.{parse-decimal_wide}
use Rattle.std.proofs.lemmas.Bool.Decides.{not_from_Decides}
use Rattle.std.proofs.lemmas.Slice.Eq.{bytes_eq-Decides}
use Rattle.ibc_script.proofs.amount.amount_of.Goals as goal

-- the amount that the text writes is the one that was read
pub returns-in_default-clause-none : goal.returns-in_default-clause-none
returns-in_default-clause-none c e amount small is =
    let wide : amount < 10 ^ 64 = omega arith in
    c.in_default.not-Ok amount (parse-decimal_wide 128 amount c.args.text.now c.parse.result small wide is c.parse.ensures.value.0)

-- and so its spelling is the text
pub returns-clause-none : goal.returns-clause-none
returns-clause-none c e amount small is =
    let wide : amount < 10 ^ 64 = omega arith in
    let read : c.parse.result ≡ Ok amount = parse-decimal_wide 128 amount c.args.text.now c.parse.result small wide is c.parse.ensures.value.0 in
    let same_amount : c.in-Ok.amount ≡ amount = cc in
    let same : c.as_str.result.now ≡ c.args.text.now = c.as_str.ensures.value ∙ c.in_ok-written.ensures.ok ∙ ap decimal same_amount ∙ sym is in
    not_from_Decides _ (bytes_eq-Decides c.as_str.result.now c.args.text.now) (sym c.if-eq.ensures) same
