-- The text of a prefix or a suffix, wherever it stands.
use Rattle.std.specs.Prelude.{◌≤◌, take}
use Rattle.ibc_ids.specs.Texts.{Text}
use Rattle.ibc_merkle.specs.declared.affix.AffixStorage.{AffixStorage}
use Rattle.ibc_merkle.specs.declared.affix.AffixStorage.TheVariants.{Here, Away}

abbrev pub text_at : AffixStorage → Text
text_at (Here count bytes) = take count bytes
text_at (Away bytes) = bytes.items

-- no more bytes than there are places
abbrev pub IsSound : AffixStorage → Type 0
IsSound (Here count bytes) = count ≤ 33
IsSound (Away bytes) = Unit {0}
