-- Holding by holding.
use Rattle.std.proofs.Common.{◌+◌, [], ◌∷◌, ◌++◌, map, take, string_bytes, sym, ap, ◌∙◌, arith, take_all}
use Rattle.std.specs.Prelude.{codes}
use Rattle.std.proofs.lemmas.List.{map-append}
use Rattle.std.proofs.lemmas.Result.{IfOk-weaker}
use Rattle.ibc_script_cli.specs.Balances.{holding_of}
use Rattle.ibc_node_lines.specs.Told.{joined}
use Rattle.ibc_node_lines.specs.OtherLines.{listed_holding, named_list}
use Rattle.ibc_node_lines.proofs.Texts.{one_more}
use Rattle.ibc_node_lines.proofs.answers.balances.Goals as goal

pub loop-account-init : goal.loop-account-init
loop-account-init c = ap (map string_bytes) c.new-texts.ensures.items

pub loop-account-preserved : goal.loop-account-preserved
loop-account-preserved c =
    let at = c.loop-account in
    let holdings = c.args.holdings.now in
    let it = c.loop-account-item.result in
    let text = c.in_ok-holding.field-0 in
    let old = at.texts.items in
    let front = take at.account-index holdings in
    let told = map listed_holding (map holding_of front) in
    let texts = ap (map string_bytes) c.in_ok-push.ensures.items ∙ map-append string_bytes old (text ∷ []) in
    let both = ap (λ t. t ++ string_bytes text ∷ []) at.invariant ∙ ap (λ t. told ++ t ∷ []) c.in_ok-holding.ensures in
    let list =
    ap (λ l. map listed_holding (map holding_of l)) (one_more holdings at.account-index it c.loop-account-test.true c.loop-account-item.is)
    ∙ ap (map listed_holding) (map-append holding_of front (it ∷ [])) ∙ map-append listed_holding (map holding_of front) (holding_of it ∷ []) in
    texts ∙ both ∙ sym list

pub returns : goal.returns
returns c =
    let at = c.loop-account in
    let whole = take_all at.account-index c.args.holdings.now (omega (arith, c.loop-account-test.false)) in
    let all = at.invariant ∙ ap (λ l. map listed_holding (map holding_of l)) whole in
    IfOk-weaker c.list.result _ _ (λ text is. is ∙ ap (λ l. named_list (codes "balances") (joined l)) (ap (map string_bytes) c.as_slice.ensures.value ∙ all)) c.list.ensures
