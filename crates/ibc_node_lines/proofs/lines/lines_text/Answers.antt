-- Line by line.
use Rattle.std.proofs.Common.{[], string_bytes, subst, arith, take_all}
use Rattle.ibc_node_lines.specs.Told.{AreLinesText}
use Rattle.ibc_node_lines.proofs.Texts.{lines_more}
use Rattle.ibc_node_lines.proofs.lines.lines_text.Goals as goal

pub loop-line-init : goal.loop-line-init
loop-line-init c = ([], tt, c.new-text.ensures.bytes)

pub loop-line-preserved : goal.loop-line-preserved
loop-line-preserved c =
    let at = c.loop-line in
    let more = c.in_ok-add_line.ensures in
    lines_more c.args.lines.now at.line-index c.line-item.result (string_bytes at.text) (string_bytes c.add_line.new.text) more.0 c.loop-line-test.true c.line-item.is at.invariant more.1 more.2

pub returns : goal.returns
returns c =
    let at = c.loop-line in
    subst (λ lines. AreLinesText lines (string_bytes at.text)) (take_all at.line-index c.args.lines.now (omega (arith, c.loop-line-test.false))) at.invariant
