-- A node and an audit, from what the files hold to what is written.
use Rattle.std.specs.Prelude.{◌≡◌, ◌++◌, ℕ, List, length, Option}
use Rattle.std.specs.Io.KnownBytes.{Appends}
use Rattle.std.specs.List.{AllByRecursion}
use Rattle.sqlite.specs.State.{State}
use Rattle.sqlite.specs.Held.{Held}
use Rattle.ibc_ids.specs.Texts.{Text}
use Rattle.ibc_journal.specs.Tables.{JournalItem}
use Rattle.ibc_journal.specs.Restarts.{IsAtRest}
use Rattle.ibc_node.specs.declared.node.Node.{Node}
use Rattle.ibc_node.specs.Nodes.{node_world, node_genesis, IsGiven, GoesOnWith, HasGrown, AreToldIn, HasAll}
use Rattle.ibc_node.specs.Audits.{IsLawfulJournal}
use Rattle.ibc_node_lines.specs.declared.lines.NodeLine.{NodeLine}
use Rattle.ibc_node_lines.specs.OtherLines.{lawful_text}
use Rattle.ibc_node_lines.specs.Sessions.{IsFairLine}
use Rattle.ibc_node_lines.specs.Told.{answers_in, resumed_text, AreLinesText}

-- A node of a journal that began so and had these entries has answered lines.
pub record HasServed {S : Type 0} (shows : Held S → State) (genesis : Option (List ℕ)) (text : List ℕ) (items : List JournalItem) (before : Option Text) (node : Node S) (after : Option Text) : Type 0 where
  pub given : IsGiven genesis text
  -- at its start its world was the replay of the entries
  pub start : Node S
  pub goes_on : GoesOnWith text items start
  -- the first line says how many there were, and lines stand behind it
  pub log_place : ℕ
  pub lines : List NodeLine
  pub told : Text
  pub texts : AreLinesText lines told
  pub written : Appends before after (resumed_text (length items) log_place ++ told)
  -- what they tell of events is of what the world keeps, and its journal has all of that
  pub answers : AreToldIn (node_world node) (answers_in lines)
  -- the others tell of mistakes, or answer questions
  pub fair : AllByRecursion IsFairLine lines
  pub grown : HasGrown (node_world start) (node_world node)
  pub genesis_is : node_genesis node ≡ text
  pub all : HasAll shows text items node

-- A journal is a lawful run from the genesis that is given, and it stays as it was. A line was written that says how many entries it has.
pub record HasAudited (genesis : Option (List ℕ)) (text : List ℕ) (items : List JournalItem) (s : State) (before after : Option Text) : Type 0 where
  pub given : IsGiven genesis text
  pub lawful : IsLawfulJournal text items (length items)
  pub rest : IsAtRest s text items
  pub written : Appends before after (lawful_text (length items))
