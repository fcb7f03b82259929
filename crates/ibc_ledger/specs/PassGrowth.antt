-- What a message does to a chain's pass of the table.
use mathlib.Core.List.{IsPrefix}
use Rattle.ibc_root_table.specs.Passes.{Sight, SamePass, KeepsOwn}

-- the pass is of the same table and chain; it has seen at least what it had seen, and of its own chain no more
abbrev pub SeesFurther : Sight → Sight → Type 0
SeesFurther old new = SamePass old new × IsPrefix old.seen new.seen × KeepsOwn old new
