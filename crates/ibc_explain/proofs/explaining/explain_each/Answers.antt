-- One line more is explained.
use Rattle.ibc_explain.specs.Explanations.{IsExplained}
use Rattle.ibc_explain.proofs.LinesExplained.{all_more, lines_more}
use Rattle.ibc_explain.proofs.explaining.explain_each.Goals as goal

pub loop-line-preserved : goal.loop-line-preserved
loop-line-preserved c =
    let at = c.loop-line in
    let done = c.in_ok-explained_line.field-0 in
    record {
      lines = lines_more c.args.lines.now at.explained.items c.push.new.self.items done at.line-index _ c.loop-line-test.true c.in_ok-push.ensures.items c.in_ok-explained_line.ensures.line at.invariant.lines;
      told = all_more (IsExplained c.args.run.now.world.ledgers) at.explained.items c.push.new.self.items done c.in_ok-push.ensures.items at.invariant.told c.in_ok-explained_line.ensures.told;
    }
