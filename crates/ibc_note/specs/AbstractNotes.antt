-- The notes of a chain, in plain.
use Rattle.std.specs.Prelude.{List}
use Rattle.std.specs.Global.{Vec}
use Rattle.ibc_ids.specs.Texts.{Text}

-- the notes of one channel
abbrev pub abstract_notes : Text × Vec Text → Text × List Text
abstract_notes (channel, notes) = (channel, notes.items)
