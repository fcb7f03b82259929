-- A world beside its journal, and a world that goes on where its journal ends.
use Rattle.std.specs.Prelude.{◌≡◌, ◌≤◌, ◌++◌, ℕ, Bool, true, List, [], ◌∷◌, Option, Some, None, IfSome, slice_get, bytes_eq}
use Rattle.std.specs.List.{AllByRecursion}
use Rattle.sqlite.specs.Recovery.{Image}
use Rattle.sqlite.specs.Effect.{Database, IsDatabase}
use Rattle.sqlite.specs.State.{State, HasCleanDisk}
use Rattle.sqlite.specs.View.{doubt}
use Rattle.sqlite.specs.Tree.{Trees}
use Rattle.sqlite.specs.Files.{HoldsDatabase}
use Rattle.sqlite.specs.Held.{Held}
use Rattle.ibc_ids.specs.declared.refusal.Refusal.{Refusal}
use Rattle.ibc_machine.specs.declared.event.Event.{Event}
use Rattle.ibc_machine.specs.declared.entry.Entry.{Entry}
use Rattle.ibc_machine.specs.declared.reply.Reply.{Reply}
use Rattle.ibc_machine.specs.declared.reply.Reply.TheVariants.{No}
use Rattle.ibc_machine.specs.ledger.Ledgers.{chain_of}
use Rattle.ibc_machine.specs.chain.Genesis.{GenesisState}
use Rattle.ibc_refinement.specs.World.{WorldState, kept_entries}
use Rattle.ibc_refinement.specs.Steps.{AreSteps}
use Rattle.ibc_replay.specs.Replays.{IsReplay, IsBeginning}
use Rattle.ibc_script.specs.ScriptValues.{ScriptContent, IsScriptText}
use Rattle.ibc_journal.specs.Tables.{JournalItem, HasRows, IsJournal}
use Rattle.ibc_journal.specs.Digests.{HasReadAll}
use Rattle.ibc_journal.specs.Entries.{items_of}
use Rattle.ibc_journal.specs.Crashes.{Lasts}
use Rattle.ibc_journal.specs.Restarts.{IsAtRest}
use Rattle.ibc_journal.specs.declared.cursor.Cursor.{Cursor}
use Rattle.ibc_journal.specs.declared.entry.JournalEntry.{JournalEntry}
use Rattle.ibc_node.specs.declared.node.KeptAnswer.{KeptAnswer}
use Rattle.ibc_node.specs.declared.node.Node.{Node}
use Rattle.ibc_node.specs.Kept.{IsKeptAs, AreKeptAs, WhyNotKept, IsAskedInVain}
use Rattle.ibc_node.specs.Marks.{IsMarked}

-- The items are what is kept of the world's entries. Each has the digest that is due, and the cursor stands behind the last.
pub record IsBeside (genesis : List ℕ) (world : WorldState) (items : List JournalItem) (end : Cursor) : Type 0 where
  pub kept : AreKeptAs (kept_entries world) items
  pub read : HasReadAll genesis items end

-- a text is a script with no steps, whose worlds begin so
pub record IsGenesisText (text : List ℕ) (genesis : GenesisState) : Type 0 where
  pub content : ScriptContent
  pub is : IsScriptText text content
  pub no_steps : content.steps ≡ []
  pub begins : content.genesis ≡ genesis

-- The world is the replay of the entries that it keeps, from the genesis that the text says. They are those that the items are kept of.
pub record IsRestarted (text : List ℕ) (items : List JournalItem) (world : WorldState) (end : Cursor) : Type 0 where
  pub genesis : GenesisState
  pub text_is : IsGenesisText text genesis
  pub replay : IsReplay genesis (kept_entries world) world
  pub beside : IsBeside text world items end

-- the world of the genesis that the text says, in the beginning
pub record IsBegun (text : List ℕ) (world : WorldState) (end : Cursor) : Type 0 where
  pub genesis : GenesisState
  pub text_is : IsGenesisText text genesis
  pub world_is : IsBeginning genesis world
  pub beside : IsBeside text world [] end

-- ---- the genesis that is given

-- whether a text is the one that is given, where one is
abbrev pub is_given : Option (List ℕ) → List ℕ → Bool
is_given None text = true
is_given (Some given) text = bytes_eq given text

abbrev pub IsGiven : Option (List ℕ) → List ℕ → Type 0
IsGiven genesis text = IfSome genesis (λ given. given ≡ text)

-- ---- restarts

-- the two files hold a sound database, which is a journal that began so and has these entries
pub record HoldsWholeJournal (image : Image) (text : List ℕ) (items : List JournalItem) : Type 0 where
  pub db : Database
  pub holds : HoldsDatabase image db.trees
  pub sound : IsDatabase db
  pub journal : IsJournal db text items

-- ---- what calls leave

-- What is told of an event, beside what its journal gets: of one that isn't kept why, else the next place, and the reply of its entry.
abbrev pub IsTold : WorldState → Event → ℕ → KeptAnswer → List JournalItem → Type 0
IsTold old event place answer [] = (answer.place ≡ None) × (refusal : Refusal) × (answer.reply ≡ No refusal) × WhyNotKept old event refusal
IsTold old event place answer (it ∷ its) =
    (answer.place ≡ Some place) × (its ≡ []) × (entry : Entry) × (entry.event ≡ event) × (entry.reply ≡ answer.reply) × IsKeptAs entry it

-- How the world that is asked for an event went on: by that event, with this reply, where its journal gets an entry.
abbrev pub WasAsked : WorldState → Event → Reply → List JournalItem → WorldState → Type 0
WasAsked old event given [] new = IsAskedInVain old event new
WasAsked old event given (it ∷ its) new = AreSteps old (event ∷ []) (given ∷ []) new

-- The world has gone on, and so have the entries that wait: by just those that its journal is to get. They have the place of the log.
pub record TakesOn (log_place : ℕ) (genesis : List ℕ) (items waited : List JournalItem) (old : WorldState) (before : Cursor) (event : Event) (answer : KeptAnswer)
    (world : WorldState) (waiting : List JournalItem) (end : Cursor) : Type 0 where
  pub more : List JournalItem
  pub waits : waiting ≡ waited ++ more
  pub told : IsTold old event before.place answer more
  pub asked : WasAsked old event answer.reply more world
  pub by : AllByRecursion (λ it. it.log_place ≡ log_place) more
  pub beside : IsBeside genesis world (items ++ more) end

-- of a journal beside its world: all of its entries, and behind them those that waited
abbrev pub LeavesWaiting : State → WorldState → List JournalItem → Cursor → Trees → Type 0
LeavesWaiting old world waiting end trees =
    (genesis : List ℕ) (items : List JournalItem) → IsJournal old.now genesis items → IsBeside genesis world (items ++ waiting) end
    → HasRows genesis (items ++ waiting) trees

-- ---- what a node has

abbrev pub node_connection : {S : Type 0} → Node S → Held S
node_connection node = node.conn

-- what its connection shows
abbrev pub node_journal : {S : Type 0} → (Held S → State) → Node S → State
node_journal shows node = shows node.conn

abbrev pub node_world : {S : Type 0} → Node S → WorldState
node_world node = node.world

-- how many entries there are, and the digest of the last
abbrev pub node_end : {S : Type 0} → Node S → Cursor
node_end node = node.end

abbrev pub node_genesis : {S : Type 0} → Node S → List ℕ
node_genesis node = node.genesis.items

-- the entries that wait to be put in
abbrev pub node_waiting : {S : Type 0} → Node S → List JournalEntry
node_waiting node = node.waiting.items

-- its journal is at rest with these items
abbrev pub HasJournal : {S : Type 0} → (Held S → State) → List ℕ → List JournalItem → Node S → Type 0
HasJournal shows text items node = IsAtRest (node_journal shows node) text items

-- its world is the replay of these items
abbrev pub GoesOnWith : {S : Type 0} → List ℕ → List JournalItem → Node S → Type 0
GoesOnWith text items node = IsRestarted text items (node_world node) (node_end node)

-- its world is in the beginning
abbrev pub IsFirstStart : {S : Type 0} → Node S → Type 0
IsFirstStart node = IsBegun (node_genesis node) (node_world node) (node_end node)

-- so it is, with the genesis that is given
abbrev pub BeginsAsGiven : {S : Type 0} → Option (List ℕ) → Node S → Type 0
BeginsAsGiven genesis node = IsFirstStart node × (genesis ≡ Some (node_genesis node))

-- the items are what is kept of its world's entries
abbrev pub HasKept : {S : Type 0} → List ℕ → List JournalItem → Node S → Type 0
HasKept text items node = IsBeside text (node_world node) items (node_end node)

-- the items, and behind them what waits
abbrev pub with_waiting : {S : Type 0} → List JournalItem → Node S → List JournalItem
with_waiting items node = items ++ items_of (node_waiting node)

-- it was asked for an event, and has gone on
abbrev pub TakesEvent : {S : Type 0} → ℕ → List ℕ → List JournalItem → Node S → Event → KeptAnswer → Node S → Type 0
TakesEvent log_place text items old event answer new =
    TakesOn log_place text items (items_of (node_waiting old)) (node_world old) (node_end old) event answer (node_world new) (items_of (node_waiting new)) (node_end new)

-- what a crash may leave besides, where what waits is put in
abbrev pub LeavesAll : {S : Type 0} → (Held S → State) → Node S → Trees → Type 0
LeavesAll shows node = LeavesWaiting (node_journal shows node) (node_world node) (items_of (node_waiting node)) (node_end node)

-- ---- what is told

-- the world is of the same genesis, and has kept what it had, and perhaps more behind that
pub record HasGrown (old new : WorldState) : Type 0 where
  pub genesis : new.genesis ≡ old.genesis
  pub more : List Entry
  pub kept : kept_entries new ≡ kept_entries old ++ more

-- the entry at a place is of this chain, and has this reply
pub record HasAnswerAt (world : WorldState) (place chain : ℕ) (reply : Reply) : Type 0 where
  pub entry : Entry
  pub there : slice_get (kept_entries world) place ≡ Some entry
  pub chain_is : chain_of entry.event ≡ chain
  pub reply_is : entry.reply ≡ reply

-- what came of an event, beside the number of its chain: where that names a place, the entry there has the reply
abbrev pub IsToldIn : WorldState → ℕ × KeptAnswer → Type 0
IsToldIn world told = IfSome told.1.place (λ place. HasAnswerAt world place told.0 told.1.reply)

abbrev pub AreToldIn : WorldState → List (ℕ × KeptAnswer) → Type 0
AreToldIn world = AllByRecursion (IsToldIn world)

-- this is told of the entry that is kept so at a place
pub record IsToldOf (place : ℕ) (it : JournalItem) (told : ℕ × KeptAnswer) : Type 0 where
  pub entry : Entry
  pub kept : IsKeptAs entry it
  pub place_is : told.1.place ≡ Some place
  pub chain_is : chain_of entry.event ≡ told.0
  pub reply_is : entry.reply ≡ told.1.reply

-- ---- how a node goes on

-- What its journal has and what waits are all that its world keeps. So it was, and the journal has the items of before, and perhaps more behind them.
-- Where their places of a log were marked, they are. Its genesis stays.
pub record StaysBeside {S : Type 0} (shows : Held S → State) (old new : Node S) : Type 0 where
  pub calm : doubt (node_journal shows old).is_clean ≤ doubt (node_journal shows new).is_clean
  pub grown : HasGrown (node_world old) (node_world new)
  pub genesis : node_genesis new ≡ node_genesis old
  pub keeps : (text : List ℕ) (items : List JournalItem) → HasJournal shows text items old → HasKept text (with_waiting items old) old → HasCleanDisk (node_journal shows new)
      → (more : List JournalItem) × HasJournal shows text (items ++ more) new × HasKept text (with_waiting (items ++ more) new) new
      × (IsMarked (with_waiting items old) old → IsMarked (with_waiting (items ++ more) new) new)

-- It stays beside its journal. What is told then is of what its world keeps, where so it was with what was told before.
pub record TellsOn {S : Type 0} (shows : Held S → State) (old : Node S) (before : List (ℕ × KeptAnswer)) (new : Node S) (after : List (ℕ × KeptAnswer)) : Type 0 where
  pub stays : StaysBeside shows old new
  pub told : (text : List ℕ) (items : List JournalItem) → HasJournal shows text items old → HasKept text (with_waiting items old) old → HasCleanDisk (node_journal shows new)
      → AreToldIn (node_world old) before → AreToldIn (node_world new) after

-- Nothing waits, and its journal has all that its world keeps: the items of before, and perhaps more behind them. A crash leaves all of them.
pub record HasAll {S : Type 0} (shows : Held S → State) (text : List ℕ) (items : List JournalItem) (node : Node S) : Type 0 where
  pub more : List JournalItem
  pub journal : HasJournal shows text (items ++ more) node
  pub lasts : Lasts (node_journal shows node) text (items ++ more)
  pub kept : HasKept text (items ++ more) node
  pub none : node_waiting node ≡ []
