-- The lines so far are explained.
use Rattle.std.proofs.Common.{◌≡◌, All, map, take}
use Rattle.ibc_explain.specs.Explanations.{IsExplained}
use Rattle.ibc_explain.specs.declared.explaining.ExplainedLine.{ExplainedLine}
use Rattle.ibc_explain.proofs.explaining.explain_each.Given as goal

abbrev pub invariant-loop-line : goal.invariant-loop-line
invariant-loop-line l = record {
  lines : map (λ (x : ExplainedLine). x.line) l.explained.items ≡ take l.line-index l.lines;
  told : All (IsExplained l.run.world.ledgers) l.explained.items;
}
