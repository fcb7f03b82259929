-- What is found first in a run.
use Rattle.std.specs.Prelude.{◌≡◌, Option, true}
use Rattle.std.specs.Option.{option_or}
use Rattle.ibc_machine.specs.declared.entry.Entry.{Entry}
use Rattle.ibc_refinement.specs.World.{WorldState}
use Rattle.ibc_law_checks.specs.declared.finding.Finding.{Finding}
use Rattle.ibc_law_checks.specs.ToldEntries.{AreTokensTold, IsToldOf}
use Rattle.ibc_run_notes.specs.declared.run_notes.RunNotes.{RunNotes}

-- what was found before stays, and else it is what is told now
abbrev pub KeepsFirst : (Option Finding → Type 0) → Option Finding → Option Finding → Type 0
KeepsFirst IsTold before after = (told : Option Finding) × IsTold told × (after ≡ option_or before told)

-- what is told of an entry
abbrev pub KeepsToldOf : WorldState → Entry → RunNotes → Option Finding → Type 0
KeepsToldOf world entry notes after =
    KeepsFirst (IsToldOf world notes.checks.places.items notes.checks.supplies.items entry.event entry.reply) notes.finding after

-- what is told of all tokens
abbrev pub KeepsTokensTold : WorldState → RunNotes → Option Finding → Type 0
KeepsTokensTold world notes after =
    KeepsFirst (AreTokensTold world true notes.checks.places.items notes.checks.supplies.items) notes.finding after
