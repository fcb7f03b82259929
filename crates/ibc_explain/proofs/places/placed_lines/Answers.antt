-- A line more is cut off the text, and its entry is counted.
use Rattle.std.proofs.Common.{◌≡◌, ◌∙◌, ◌++◌, ◌∷◌, [], List, ap, arith, rules, subst, sym}
use Rattle.std.proofs.lemmas.Grind.{common_steps}
use Rattle.ibc_ids.specs.Texts.{Text}
use Rattle.ibc_explain.specs.EntryLines.{text_of}
use Rattle.ibc_explain.specs.declared.places.PlacedLine.{PlacedLine}
use Rattle.ibc_explain.proofs.Counting.{AreCounted, counted_more, cut_more}
use Rattle.ibc_explain.proofs.places.placed_lines.Goals as goal

pub loop-line-preserved : goal.loop-line-preserved
loop-line-preserved c =
    let at = c.loop-line in
    let grown : c.push.new.self.items ≡ at.lines.items ++ c.in_ok-placed.field-0 ∷ [] = c.in_ok-push.ensures.items in
    record {
      placed = grind (arith, common_steps);
      long = c.in_ok-placed.ensures.long ∙ at.invariant.long;
      counted = subst (λ (l : List PlacedLine). AreCounted l c.placed.new.next.items) (sym grown)
          (counted_more at.lines.items c.in_ok-placed.field-0 at.next.items c.placed.new.next.items at.invariant.counted c.in_ok-placed.ensures.counted);
      cut = subst (λ (l : List PlacedLine). c.args.text.now ≡ text_of l ++ c.in-Some.behind.now) (sym grown)
          (cut_more c.args.text.now at.lines.items c.in_ok-placed.field-0 at.rest.now c.in-Some.behind.now at.invariant.cut
          (c.in-Some.ensures ∙ ap (λ (t : Text). t ++ 10 ∷ c.in-Some.behind.now) (sym c.in_ok-placed.ensures.text)));
      utf8 = search rules;
    }
