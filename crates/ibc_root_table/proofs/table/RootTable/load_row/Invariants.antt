use Rattle.std.proofs.Common.{◌≡◌, ℕ, ◌<◌, ◌≤◌, length, slice_get, Some, get_or}
use Rattle.ibc_root_table.specs.TableFields.{SamePlace}
use Rattle.ibc_ids.specs.Publications.{published_by}
use Rattle.ibc_root_table.specs.Publications.{row_words, IsRoot}
use Rattle.ibc_ids.specs.declared.publication.Publication.{Publication}
use Rattle.ibc_root_table.proofs.table.RootTable.load_row.Given as goal

abbrev pub invariant-loop-part : goal.invariant-loop-part
invariant-loop-part l =
    SamePlace l.initial.place l.place × (l.place.me ≡ (record l.initial.place.me.0 { floors = l.place.me.0.floors }, l.initial.place.me.1)) × (length l.words ≡ 5)
    × ((p : Publication) → slice_get (published_by l.chain l.initial.place.me.0.seen) l.row ≡ Some p
    → ((i : ℕ) → i < l.part → get_or l.place.me.0.floors l.chain 0 ≤ l.row → get_or l.words i 0 ≡ get_or (row_words p) i 0) × (0 < l.part → IsRoot p.root × (p.chain ≡ l.chain)))
