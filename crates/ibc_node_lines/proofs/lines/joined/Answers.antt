-- One text behind another.
use Rattle.std.proofs.Common.{[], ◌∷◌, ◌++◌, map, take, string_bytes, sym, ap, ◌∙◌, arith, take_all}
use Rattle.std.proofs.lemmas.List.{map-append}
use Rattle.ibc_node_lines.specs.Told.{comma_behind, joined}
use Rattle.ibc_node_lines.proofs.Texts.{one_more, joined_more}
use Rattle.ibc_node_lines.proofs.lines.joined.Goals as goal

pub loop-next-preserved : goal.loop-next-preserved
loop-next-preserved c =
    let at = c.loop-next in
    let texts = c.args.texts.now in
    let it = c.next-item.result in
    let old = string_bytes at.text in
    let front = take at.next-index texts in
    let list = ap (map string_bytes) (one_more texts at.next-index it c.loop-next-test.true c.next-item.is) ∙ map-append string_bytes front (it ∷ []) in
    c.in_ok-add_next.ensures ∙ ap (λ t. old ++ (comma_behind old ++ t)) c.as_str.ensures.value ∙ ap (λ t. t ++ (comma_behind t ++ string_bytes it)) at.invariant
    ∙ sym (joined_more [] (map string_bytes front) (string_bytes it)) ∙ ap joined (sym list)

pub returns : goal.returns
returns c =
    let at = c.loop-next in
    at.invariant ∙ ap (λ texts. joined (map string_bytes texts)) (take_all at.next-index c.args.texts.now (omega (arith, c.loop-next-test.false)))
