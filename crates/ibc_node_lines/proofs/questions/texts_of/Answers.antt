-- Message by message.
use Rattle.std.proofs.Common.{◌+◌, [], ◌∷◌, ◌++◌, map, take, string_bytes, sym, ap, ◌∙◌, arith, take_all}
use Rattle.std.proofs.lemmas.List.{map-append}
use Rattle.ibc_node_lines.specs.QuestionAnswers.{message_text}
use Rattle.ibc_node_lines.proofs.Texts.{one_more}
use Rattle.ibc_node_lines.proofs.questions.texts_of.Goals as goal

pub loop-message-init : goal.loop-message-init
loop-message-init c = ap (map string_bytes) c.new-texts.ensures.items

pub loop-message-preserved : goal.loop-message-preserved
loop-message-preserved c =
    let at = c.loop-message in
    let messages = c.args.messages.now in
    let it = c.message-item.result in
    let text = c.in_ok-text_of.field-0 in
    let old = at.texts.items in
    let front = take at.message-index messages in
    let texts = ap (map string_bytes) c.in_ok-push.ensures.items ∙ map-append string_bytes old (text ∷ []) in
    let both = ap (λ t. t ++ string_bytes text ∷ []) at.invariant ∙ ap (λ t. map message_text front ++ t ∷ []) c.in_ok-text_of.ensures in
    let list = ap (map message_text) (one_more messages at.message-index it c.loop-message-test.true c.message-item.is) ∙ map-append message_text front (it ∷ []) in
    texts ∙ both ∙ sym list

pub returns : goal.returns
returns c =
    let at = c.loop-message in
    at.invariant ∙ ap (map message_text) (take_all at.message-index c.args.messages.now (omega (arith, c.loop-message-test.false)))
