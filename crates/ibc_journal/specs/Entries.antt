-- Entries without where they lie in memory.
use Rattle.std.specs.Prelude.{List, map}
use Rattle.ibc_journal.specs.Tables.{JournalItem}
use Rattle.ibc_journal.specs.declared.entry.JournalEntry.{JournalEntry}

abbrev pub item : JournalEntry → JournalItem
item e = record { chain = e.chain; kind = e.kind; log_place = e.log_place; event = e.event.items; answer = e.answer.items; digest = e.digest.items }

abbrev pub items_of : List JournalEntry → List JournalItem
items_of = map item
