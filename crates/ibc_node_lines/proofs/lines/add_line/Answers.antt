-- The text of the line is added.
use Rattle.std.proofs.Common.{string_bytes, refl, sym, subst}
use Rattle.std.proofs.lemmas.Result.{on_ok_weaker}
use Rattle.ibc_node_lines.specs.Told.{IsLineText}
use Rattle.ibc_node_lines.proofs.Texts.{added}
use Rattle.ibc_node_lines.proofs.lines.add_line.Goals as goal

pub returns : goal.returns
returns c =
    let more = c.as_str.result.now in
    on_ok_weaker c.push_str.result (λ is. (more, subst (IsLineText c.args.line.now) (sym c.as_str.ensures.value) c.in_ok-more.ensures, is))
    (added c.push_str.result (string_bytes c.args.text.now) more _ (string_bytes c.push_str.new.self) refl c.push_str.ensures.bytes)
