-- The text of a name, wherever it stands. No public clause cites this module.
use Rattle.std.specs.Prelude.{◌≤◌, string_bytes, take}
use Rattle.std.specs.Str.{IsUtf8}
use Rattle.ibc_ids.specs.Texts.{Text}
use Rattle.ibc_ids.specs.declared.name_text.TextStorage.{TextStorage}
use Rattle.ibc_ids.specs.declared.name_text.TextStorage.TheVariants.{Here, Away}

abbrev pub stored_text : TextStorage → Text
stored_text (Here count places) = take count places
stored_text (Away text) = string_bytes text

-- no more bytes than there are places, and they are a text
abbrev pub IsText : TextStorage → Type 0
IsText (Here count places) = (count ≤ 30) × IsUtf8 (take count places)
IsText (Away text) = Unit {0}
