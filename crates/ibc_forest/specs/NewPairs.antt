-- How a change of pairs changes how many of them are new.
use Rattle.std.specs.Prelude.{◌≡◌, ◌+◌, ◌≤◌}
use Rattle.ibc_ids.specs.Texts.{Text, text_cmp}
use Rattle.ibc_ids.specs.Maps.{with, without}
use Rattle.ibc_merkle.specs.Tree.{Pairs}
use Rattle.ibc_forest.specs.Leaves.{count_new}

-- a pair that is set is one more at most
abbrev pub SetAddsOneAtMost : Type 0
SetAddsOneAtMost =
    (last pairs : Pairs) (key value : Text) → count_new last (with text_cmp key value pairs) ≤ count_new last pairs + 1

-- a removal adds none
abbrev pub RemovalAddsNone : Type 0
RemovalAddsNone = (last pairs : Pairs) (key : Text) → count_new last (without text_cmp key pairs) ≤ count_new last pairs

-- where nothing changed, nothing is new
abbrev pub UnchangedIsNone : Type 0
UnchangedIsNone = (pairs : Pairs) → count_new pairs pairs ≡ 0
