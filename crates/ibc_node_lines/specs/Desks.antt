-- A node as the chains of a script.
use Rattle.std.specs.Prelude.{◌≡◌, ◌++◌, ℕ, List, [], ◌∷◌, ⊤}
use Rattle.sqlite.specs.State.{State}
use Rattle.sqlite.specs.Held.{Held}
use Rattle.ibc_ids.specs.Texts.{Text}
use Rattle.ibc_machine.specs.declared.event.Event.{Event}
use Rattle.ibc_machine.specs.ledger.Ledgers.{chain_of}
use Rattle.ibc_journal.specs.Tables.{JournalItem}
use Rattle.ibc_refinement.specs.World.{WorldState}
use Rattle.ibc_script.specs.declared.script.Step.{Step}
use Rattle.ibc_script_cli.specs.Runs.{asking_acts, Reaches}
use Rattle.ibc_script_cli.specs.ScriptChains.{ChainAnswers, ScriptChains}
use Rattle.ibc_script_worlds.specs.WorldChains.{world_answers}
use Rattle.ibc_node.specs.declared.node.KeptAnswer.{KeptAnswer}
use Rattle.ibc_node.specs.declared.node.Node.{Node}
use Rattle.ibc_node.specs.Marks.{node_marks}
use Rattle.ibc_node.specs.Nodes.{node_end, node_world, HasKept, StaysBeside, TakesEvent, TellsOn}
use Rattle.ibc_node_lines.specs.declared.desk.Desk.{Desk}

-- A node was asked for an event, which came by a place of a log. What came of it is told, beside the number of its chain, and nothing else.
abbrev pub TellsEvent : {S : Type 0} → ℕ → List ℕ → List JournalItem → Node S → Event → List (ℕ × KeptAnswer) → Node S → Type 0
TellsEvent log_place text items old event told new =
    (answer : KeptAnswer) × (told ≡ (chain_of event, answer) ∷ []) × TakesEvent log_place text items old event answer new

-- what the world of a node answers to a look; of its blocks nothing is said
abbrev pub node_answers : WorldState → ChainAnswers
node_answers world = record {
  value = (world_answers world).value;
  packet = (world_answers world).packet;
  ack = (world_answers world).ack;
  proof = (world_answers world).proof;
  block = λ _ _ _. ⊤;
  working_time = (world_answers world).working_time;
  plans = (world_answers world).plans;
  totals = (world_answers world).totals;
  balances = (world_answers world).balances;
  notes = (world_answers world).notes;
}

-- A desk was asked for an event, and so was its node, by the desk's place of a log. What came of it is told behind what was told before.
pub record AsksNode {S : Type 0} (shows : Held S → State) (old : Desk S) (event : Event) (new : Desk S) : Type 0 where
  pub tells : TellsOn shows old.node old.told.items new.node new.told.items
  pub answer : KeptAnswer
  pub told : new.told.items ≡ old.told.items ++ (chain_of event, answer) ∷ []
  pub taken : (text : List ℕ) (items : List JournalItem) → HasKept text items old.node → TakesEvent old.log_place text items old.node event answer new.node
  pub stays : new.log_place ≡ old.log_place

-- asked for an event, it asks its node; to a look it answers what its world has
abbrev pub desk_chains : {S : Type 0} → (Held S → State) → ScriptChains (Desk S)
desk_chains shows = record {
  asked = λ old event given new. AsksNode shows old event new;
  answers = λ desk. node_answers (node_world desk.node);
}

-- A step was run on a node, by a place of a log. It asked for just the events that the step asks for, and what came of each is told, in order.
pub record RunsStep {S : Type 0} (shows : Held S → State) (names : List Text) (log_place : ℕ) (step : Step) (old : Node S) (told : List (ℕ × KeptAnswer)) (new : Node S) : Type 0 where
  pub before : Desk S
  pub after : Desk S
  pub begins : before.node ≡ old
  pub none : before.told.items ≡ []
  pub by : before.log_place ≡ log_place
  pub ends : after.node ≡ new
  pub all : after.told.items ≡ told
  pub count : ℕ
  pub text : Text
  pub reaches : Reaches (desk_chains shows) names count (asking_acts step) before text [] after

-- a node was only read: it stays beside its journal, and its world, its entries and the places of the log by which they came stay as they are
pub record IsOnlyRead {S : Type 0} (shows : Held S → State) (old new : Node S) : Type 0 where
  pub beside : StaysBeside shows old new
  pub world : node_world new ≡ node_world old
  pub end : node_end new ≡ node_end old
  pub marks : node_marks new ≡ node_marks old
