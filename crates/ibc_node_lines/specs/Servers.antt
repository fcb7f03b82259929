-- What a node does for its lines, by what its server and its output were before and are after.
use Rattle.std.specs.Prelude.{◌≡◌, ◌⊎◌, ℕ, List, [], Option, Result, MatchResult, String, IfOk, OnOk}
use Rattle.std.specs.Global.{Vec}
use Rattle.std.specs.Io.KnownBytes.{Appends}
use Rattle.std.specs.declared.alloc.Global.{Global}
use Rattle.sqlite.specs.Held.{Held}
use Rattle.sqlite.specs.State.{State, HasCleanDisk}
use Rattle.ibc_ids.specs.Texts.{Text}
use Rattle.ibc_machine.specs.declared.event.Event.{Event}
use Rattle.ibc_journal.specs.Tables.{JournalItem}
use Rattle.ibc_script.specs.declared.script.Step.{Step}
use Rattle.ibc_node.specs.Nodes.{HasAll, HasJournal, HasKept, TellsOn, node_end, node_journal, with_waiting}
use Rattle.ibc_node.specs.declared.node.KeptAnswer.{KeptAnswer}
use Rattle.ibc_node.specs.declared.node.Node.{Node}
use Rattle.ibc_node_lines.specs.Desks.{RunsStep, TellsEvent}
use Rattle.ibc_node_lines.specs.OtherLines.{IsMistakenLine}
use Rattle.ibc_node_lines.specs.Sessions.{HasTold, HasWritten, ServesOn}
use Rattle.ibc_node_lines.specs.Told.{answers_in, answers_of, resumed_text}
use Rattle.ibc_node_lines.specs.declared.line_fault.LineFault.{LineFault}
use Rattle.ibc_node_lines.specs.declared.lines.NodeLine.{NodeLine}
use Rattle.ibc_node_lines.specs.declared.lines.NodeLine.TheVariants as line
use Rattle.ibc_node_lines.specs.declared.serving.Server.{Server}

-- ---- what is told of events

-- the node stays beside its journal, and this alone is told
abbrev pub TellsJust : {S : Type 0} → (Held S → State) → Node S → Node S → Vec (ℕ × KeptAnswer) → Type 0
TellsJust shows old new = λ told. TellsOn shows old [] new told.items

-- the same of a line
abbrev pub TellsByLine : {S : Type 0} → (Held S → State) → Node S → Node S → NodeLine → Type 0
TellsByLine shows old new = λ told. TellsOn shows old [] new (answers_of told)

-- what is told of an event that a node was asked for
abbrev pub TellsTaken : {S E : Type 0} → ℕ → Node S → Event → Node S → Result (Vec (ℕ × KeptAnswer)) E → Type 0
TellsTaken log_place old event new result =
    (text : List ℕ) (items : List JournalItem) → HasKept text items old
    → IfOk result (λ told. TellsEvent log_place text items old event told.items new)

-- the same of a line
abbrev pub TellsTakenByLine : {S E : Type 0} → ℕ → Node S → Event → Node S → Result NodeLine E → Type 0
TellsTakenByLine log_place old event new result =
    (text : List ℕ) (items : List JournalItem) → HasKept text items old
    → IfOk result (λ told. TellsEvent log_place text items old event (answers_of told) new)

-- a step was run on the node of a server, and the line tells what came of it
abbrev pub RunsByLine : {S : Type 0} → (Held S → State) → ℕ → Step → Server S → Server S → NodeLine → Type 0
RunsByLine shows log_place step old new =
    λ told. RunsStep shows old.names.items log_place step old.desk.node (answers_of told) new.desk.node

-- the node of a server stays beside its journal, and what its lines tell then is of what its world keeps
abbrev pub TellsOnLines : {S : Type 0} → (Held S → State) → Server S → Server S → Type 0
TellsOnLines shows old new =
    TellsOn shows old.desk.node (answers_in old.told.items) new.desk.node (answers_in new.told.items)

-- a line that tells of no event: a text, or what is wrong with the line of this number
abbrev pub IsTextOrMistake : ℕ → Result (String Global) LineFault → NodeLine → Type 0
IsTextOrMistake number text = λ told. MatchResult text (λ it. told ≡ line.Other it) (λ why. IsMistakenLine number why told)

-- ---- what is written

-- the first line, with a last place of a log
abbrev pub WritesResumed : {S W : Type 0} → (W → Option Text) → Node S → W → W → Type 0
WritesResumed contents node before after =
    (log_place : ℕ) × Appends (contents before) (contents after) (resumed_text (node_end node).place log_place)

-- these lines, in their order, and nothing else
abbrev pub WritesLines : {W : Type 0} → (W → Option Text) → List NodeLine → W → W → Type 0
WritesLines contents lines before after = HasWritten lines (contents before) (contents after)

-- where it goes well, lines are written, and others wait
abbrev pub Serves : {S A E W : Type 0} → (Held S → State) → (W → Option Text) → Server S → W → Server S → W → Result A E → Type 0
Serves shows contents old before new after result =
    OnOk result (ServesOn shows old.desk.node old.told.items (contents before) new.desk.node new.told.items (contents after))

-- where it goes well and no lines waited, the first line is written, and then lines
abbrev pub Tells : {S A E W : Type 0} → (Held S → State) → (W → Option Text) → Server S → W → Server S → W → Result A E → Type 0
Tells shows contents old before new after result =
    OnOk result (old.told.items ≡ [] → HasTold shows old.desk.node (contents before) new.desk.node (contents after))

-- the same of a node
abbrev pub TellsFromStart : {S W : Type 0} → (Held S → State) → (W → Option Text) → Node S → W → W → Node S → Type 0
TellsFromStart shows contents old before after = λ new. HasTold shows old (contents before) new (contents after)

-- nothing is written before the journal has what waited
abbrev pub WritesBehind : {S W : Type 0} → (Held S → State) → (W → Option Text) → Server S → W → Server S → W → Type 0
WritesBehind shows contents old before new after =
    (text : List ℕ) (items : List JournalItem) → HasJournal shows text items old.desk.node
    → HasKept text (with_waiting items old.desk.node) old.desk.node
    → HasCleanDisk (node_journal shows new.desk.node) → (contents after ≡ contents before)
    ⊎ HasJournal shows text (with_waiting items old.desk.node) new.desk.node

-- ---- the end

-- at the end the journal has all that the world keeps
abbrev pub EndsWithAll : {S E : Type 0} → (Held S → State) → Node S → Result (Node S) E → Type 0
EndsWithAll shows node result =
    (text : List ℕ) (items : List JournalItem) → HasJournal shows text items node → HasKept text (with_waiting items node) node
    → IfOk result (λ after. HasCleanDisk (node_journal shows after) → HasAll shows text items after)
