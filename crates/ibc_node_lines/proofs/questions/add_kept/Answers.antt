-- Its text stands behind the others.
use Rattle.std.proofs.Common.{[], ◌∷◌, ◌++◌, map, string_bytes, ap, ◌∙◌}
use Rattle.std.proofs.lemmas.List.{map-append}
use Rattle.ibc_node_lines.proofs.questions.add_kept.Goals as goal

pub returns : goal.returns
returns c =
    let old = c.args.texts.now.items in
    let text = c.in_ok-text.text in
    ap (map string_bytes) c.in_ok-push.ensures.items ∙ map-append string_bytes old (text ∷ []) ∙ ap (λ t. map string_bytes old ++ t ∷ []) c.in_ok-text.ensures
