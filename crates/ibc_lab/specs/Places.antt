-- Places in a script.
use Rattle.std.specs.Prelude.{ℕ, Option, Some, None}
use Rattle.ibc_lab.specs.declared.member.Member.{Member}
use Rattle.ibc_lab.specs.declared.place.ScriptPart.{ScriptPart}
use Rattle.ibc_lab.specs.declared.place.ScriptPlace.{ScriptPlace}

-- the place of an object
abbrev pub place_of : ScriptPart → ScriptPlace
place_of object = record { object = object; member = None; item = None; part = None }

-- the place of a member of the object that stands there
abbrev pub at_member : ScriptPlace → Member → ScriptPlace
at_member place name = record place { member = Some name }

-- a place in the list that stands there, or in the list that stands at a place of that list
abbrev pub inside_at : Option ℕ → ScriptPlace → ℕ → ScriptPlace
inside_at None place k = record place { item = Some k }
inside_at (Some item) place k = record place { item = Some item; part = Some k }

abbrev pub inside : ScriptPlace → ℕ → ScriptPlace
inside place k = inside_at place.item place k
