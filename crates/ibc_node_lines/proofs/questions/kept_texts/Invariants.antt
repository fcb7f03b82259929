use Rattle.std.proofs.Common.{◌≡◌, ◌+◌, List, length, map, string_bytes}
use Rattle.sqlite.specs.Held.{state}
use Rattle.ibc_journal.specs.Tables.{JournalItem}
use Rattle.ibc_node_lines.specs.Desks.{IsOnlyRead}
use Rattle.ibc_node_lines.specs.QuestionAnswers.{item_texts}
use Rattle.ibc_node_lines.proofs.questions.kept_texts.Given as goal

abbrev pub invariant-places : goal.invariant-places
invariant-places g l = record {
  read : IsOnlyRead (state g.S.Store) l.fn.desk.node l.desk.node;
  kept : (items : List JournalItem) × (map string_bytes l.texts.items ≡ item_texts l.fn.from items) × (l.fn.from + length items ≡ l.place);
}
