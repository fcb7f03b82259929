-- The pair that is held.
use Rattle.std.specs.Arc.{arc_value}
use Rattle.ibc_ids.specs.Texts.{Text}
use Rattle.ibc_forest.specs.declared.shared_entry.Hold.{Hold}
use Rattle.ibc_forest.specs.declared.shared_entry.Hold.TheVariants.{Shared, Own}

abbrev pub stored_pair : Hold → Text × Text
stored_pair (Shared entry) = arc_value entry
stored_pair (Own entry) = entry.value
