-- What a node writes in answer to lines.
use Rattle.std.specs.Prelude.{◌≡◌, ◌⊎◌, ◌++◌, ℕ, Bool, true, false, List, [], ◌∷◌, Option, string_bytes, ⊤}
use Rattle.std.specs.List.{AllByRecursion}
use Rattle.std.specs.Io.KnownBytes.{Appends}
use Rattle.sqlite.specs.State.{State}
use Rattle.sqlite.specs.Held.{Held}
use Rattle.ibc_ids.specs.Texts.{Text}
use Rattle.ibc_refinement.specs.World.{WorldState}
use Rattle.ibc_node.specs.declared.node.Node.{Node}
use Rattle.ibc_node.specs.Nodes.{TellsOn, node_end}
use Rattle.ibc_node_lines.specs.declared.line_fault.LineFault.{LineFault}
use Rattle.ibc_node_lines.specs.declared.lines.NodeLine.{NodeLine}
use Rattle.ibc_node_lines.specs.declared.lines.NodeLine.TheVariants as line
use Rattle.ibc_node_lines.specs.declared.request.NodeQuestion.{NodeQuestion}
use Rattle.ibc_node_lines.specs.OtherLines.{fault_text, mistaken_text}
use Rattle.ibc_node_lines.specs.QuestionAnswers.{AnswersIn}
use Rattle.ibc_node_lines.specs.Told.{answers_in, resumed_text, AreLinesText}

-- a text says what is wrong with a line, or answers a question as some world stands
abbrev pub IsOtherText : Text → Type 0
IsOtherText text =
    ((number : ℕ) × (why : LineFault) × (text ≡ mistaken_text number (fault_text why)))
    ⊎ ((world : WorldState) × (count : ℕ) × (asked : NodeQuestion) × AnswersIn world count asked text)

-- a line that tells of no event has such a text
abbrev pub IsFairLine : NodeLine → Type 0
IsFairLine (line.Answers answers) = ⊤
IsFairLine (line.Other it) = IsOtherText (string_bytes it)

-- these lines are written, in their order, and nothing else
abbrev pub HasWritten : List NodeLine → Option Text → Option Text → Type 0
HasWritten lines before after = (text : Text) × AreLinesText lines text × Appends before after text

-- a line more waits behind the others, or none
abbrev pub HasOneMore : Bool → List NodeLine → List NodeLine → Type 0
HasOneMore true old new = (told : NodeLine) × IsFairLine told × (new ≡ old ++ told ∷ [])
HasOneMore false old new = new ≡ old

-- Lines are written, and others wait. Together they are those that waited, in their order, and perhaps more behind them.
-- What they tell is of what the world keeps, where so it was with what waited. Those behind tell of events, of mistakes or of questions.
pub record ServesOn {S : Type 0} (shows : Held S → State) (old : Node S) (waited : List NodeLine) (before : Option Text) (new : Node S) (waiting : List NodeLine) (after : Option Text) : Type 0 where
  pub lines : List NodeLine
  pub text : Text
  pub texts : AreLinesText lines text
  pub written : Appends before after text
  pub more : List NodeLine
  pub order : lines ++ waiting ≡ waited ++ more
  pub fair : AllByRecursion IsFairLine more
  pub tells : TellsOn shows old (answers_in waited) new (answers_in (lines ++ waiting))

-- The first line is written, and then lines. What they tell of events is of what the world keeps. Others tell of mistakes, or answer questions.
pub record HasTold {S : Type 0} (shows : Held S → State) (old : Node S) (before : Option Text) (new : Node S) (after : Option Text) : Type 0 where
  pub log_place : ℕ
  pub lines : List NodeLine
  pub text : Text
  pub texts : AreLinesText lines text
  pub written : Appends before after (resumed_text (node_end old).place log_place ++ text)
  pub tells : TellsOn shows old [] new (answers_in lines)
  pub fair : AllByRecursion IsFairLine lines
