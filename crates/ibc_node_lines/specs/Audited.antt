-- How the telling of what an audit found ends, and what is written.
use Rattle.std.specs.Prelude.{◌≡◌, ℕ, Option, Result, Err, ⊤}
use Rattle.std.specs.Io.KnownBytes.{Appends}
use Rattle.ibc_ids.specs.Texts.{Text}
use Rattle.ibc_replay.specs.declared.replaying.Difference.{Difference}
use Rattle.ibc_replay.specs.declared.replaying.Difference.TheVariants as difference
use Rattle.ibc_node.specs.declared.fault.NodeFault.{NodeFault}
use Rattle.ibc_node.specs.declared.fault.NodeFault.TheVariants as fault
use Rattle.ibc_node.specs.declared.auditing.JournalAudit.{JournalAudit}
use Rattle.ibc_node.specs.declared.auditing.JournalAudit.TheVariants as found
use Rattle.ibc_node_lines.specs.OtherLines.{lawful_text}

-- the fault that a difference is: it names the first place that differs
abbrev pub fault_of : Difference → NodeFault
fault_of (difference.At place due stored) = fault.OtherAnswer place
fault_of (difference.UnknownChain place stored) = fault.OtherAnswer place
fault_of difference.NoGenesis = fault.BadGenesis
fault_of difference.NoMemory = fault.NoMemory

-- Where a difference was found, the telling ends with its fault, whether or not the line could be written.
abbrev pub EndsAsFound : JournalAudit → Result ⊤ NodeFault → Type 0
EndsAsFound (found.Lawful entries) told = ⊤
EndsAsFound (found.Differs why) told = told ≡ Err (fault_of why)

-- A lawful run was found, and a line was written that says how many entries there are.
abbrev pub TellsLawful : JournalAudit → Option Text → Option Text → Type 0
TellsLawful (found.Lawful entries) before after = Appends before after (lawful_text entries)
TellsLawful (found.Differs why) before after = ⊥

-- a line was written that says of so many entries that they are a lawful run
abbrev pub TellsSomeLawful : Option Text → Option Text → Type 0
TellsSomeLawful before after = (entries : ℕ) × Appends before after (lawful_text entries)
