-- A comma, and then the text.
use Rattle.std.proofs.Common.{◌++◌, string_bytes, ap, ◌∙◌, append_assoc}
use Rattle.ibc_node_lines.specs.Told.{comma_behind}
use Rattle.ibc_node_lines.proofs.Texts.{added}
use Rattle.ibc_node_lines.proofs.lines.add_next.Goals as goal

pub returns : goal.returns
returns c =
    let old = string_bytes c.args.text.now in
    let next = c.args.next.now in
    let between = c.in_ok-push_str.ensures.bytes ∙ ap (λ t. old ++ t) (c.comma-between.ensures ∙ ap comma_behind c.as_str.ensures.value) in
    let all = ap (λ t. t ++ next) between ∙ append_assoc old (comma_behind old) next in
    added c.push_str-2.result _ next _ (string_bytes c.push_str-2.new.self) all c.push_str-2.ensures.bytes
