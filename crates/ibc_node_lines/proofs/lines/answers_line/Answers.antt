-- Answer by answer.
use Rattle.std.proofs.Common.{◌+◌, ◌==◌, [], ◌∷◌, length, map, take, string_bytes, sym, ap, ◌∙◌, subst, arith, take_all}
use Rattle.std.specs.List.{AllZip}
use Rattle.std.proofs.lemmas.List.{length-map, map-append}
use Rattle.std.proofs.lemmas.Result.{IfOk-weaker}
use Rattle.ibc_node_lines.specs.Told.{answers_text, joined, IsAnswerText}
use Rattle.ibc_node_lines.proofs.Texts.{zip_more}
use Rattle.ibc_node_lines.proofs.lines.answers_line.Goals as goal

pub loop-chain-init : goal.loop-chain-init
loop-chain-init c = subst (λ t. AllZip IsAnswerText [] (map string_bytes t)) (sym c.new-texts.ensures.items) tt

pub loop-chain-preserved : goal.loop-chain-preserved
loop-chain-preserved c =
    let at = c.loop-chain in
    let answers = c.args.answers.now in
    let text = c.in_ok-answer.field-0 in
    let old = at.texts.items in
    let texts = ap (map string_bytes) c.in_ok-push.ensures.items ∙ map-append string_bytes old (text ∷ []) in
    subst (AllZip IsAnswerText (take (at.chain-index + 1) answers)) (sym texts)
    (zip_more IsAnswerText answers (map string_bytes old) at.chain-index c.loop-chain-item.result (string_bytes text) c.loop-chain-test.true c.loop-chain-item.is at.invariant c.in_ok-answer.ensures)

pub returns : goal.returns
returns c =
    let at = c.loop-chain in
    let items = at.texts.items in
    let whole = take_all at.chain-index c.args.answers.now (omega (arith, c.loop-chain-test.false)) in
    let all = subst (λ l. AllZip IsAnswerText l (map string_bytes items)) whole at.invariant in
    let same = ap (λ l. answers_text (length l == 1) (joined (map string_bytes l))) c.as_slice.ensures.value
    ∙ ap (λ n. answers_text (n == 1) (joined (map string_bytes items))) (sym (length-map items string_bytes)) in
    IfOk-weaker c.told.result _ _ (λ text is. (map string_bytes items, all, is ∙ same)) c.told.ensures
