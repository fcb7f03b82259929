-- The lines so far have their places, their entries are counted, and they are the text but for the rest.
use Rattle.std.proofs.Common.{◌≡◌, ◌++◌, All, length}
use denote.Shadow.{shadow}
use denote.Text.{Utf8}
use Rattle.ibc_explain.specs.EntryLines.{IsPlaced, text_of}
use Rattle.ibc_explain.proofs.Counting.{AreCounted}
use Rattle.ibc_explain.proofs.places.placed_lines.Given as goal

abbrev pub invariant-loop-line : goal.invariant-loop-line
invariant-loop-line l = record {
  placed : All (IsPlaced l.names l.world.ledgers) l.lines.items;
  long : length l.next.items ≡ length l.names;
  counted : AreCounted l.lines.items l.next.items;
  cut : l.text ≡ text_of l.lines.items ++ l.rest;
  utf8 : shadow (Utf8 l.rest);
}

abbrev pub decreases-loop-line : goal.decreases-loop-line
decreases-loop-line l = length l.rest
