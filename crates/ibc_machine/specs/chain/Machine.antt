-- The machine: chains that look straight at what the others had committed (ICS 2, "Client state verification
-- functions", with the plain records in place of roots and proofs).
use Rattle.std.specs.Prelude.{◌≡◌, ◌⊎◌, ℕ, zero, suc, ◌+◌, Bool, true, false, ◌&&◌, ◌||◌, not, ◌==◌, nat_le, List, [], ◌∷◌, length, slice_get, slice_set, Option, Some, None, is_some, if◌then◌else◌}
use Rattle.std.specs.Option.{option_map_or, option_and_then}
use Rattle.ibc_ids.specs.Texts.{Text, same_text}
use Rattle.ibc_ids.specs.Paths.{path}
use Rattle.ibc_ids.specs.declared.key.Key.{Key}
use Rattle.ibc_ids.specs.declared.refusal.Refusal.TheVariants.{NoMemory, UnknownChain}
use Rattle.ibc_merkle.specs.Written.{written_proof}
use Rattle.ibc_wire.specs.Spelling.{proof_bytes}
use Rattle.ibc_wire.specs.Reading.{proof_of}
use Rattle.ibc_wire.specs.declared.header.Header.{Header}
use Rattle.ibc_machine.specs.declared.event.Event.{Event}
use Rattle.ibc_machine.specs.declared.event.Event.TheVariants as event
use Rattle.ibc_machine.specs.declared.reply.Reply.{Reply}
use Rattle.ibc_machine.specs.declared.reply.Reply.TheVariants as reply
use Rattle.ibc_machine.specs.chain.Records.{Core, Block, MachineChain, client_at}
use Rattle.ibc_machine.specs.ics24.Values.{Claim, value_at, same_value}
use Rattle.ibc_machine.specs.ics24.Image.{image, core_root}
use Rattle.ibc_machine.specs.ics24.Evidence.{Evidence, PublishedRow, Same, Different, Gone}
use Rattle.ibc_machine.specs.chain.Genesis.{GenesisState}
use Rattle.ibc_machine.specs.chain.Handlers.{message_answer, block_answer}

-- the chains by their numbers
abbrev pub World : Type 0
World = List MachineChain

-- ---- what the others had committed

-- the block of a height, from 1
abbrev pub block_of : ℕ → List Block → Option Block
block_of zero blocks = None
block_of (suc k) blocks = slice_get blocks k

abbrev pub committed_of : World → ℕ → List Block
committed_of world chain = option_map_or (λ (c : MachineChain). c.committed) (slice_get world chain) []

abbrev pub block_at : World → ℕ → ℕ → Option Block
block_at world chain height = block_of height (committed_of world chain)

-- the block at a height of the chain that a client tracks
abbrev pub block_seen : World → Core → Text → ℕ → Option Block
block_seen world core client height =
    option_and_then (λ found. block_at world found.state.chain height) (client_at core client)

-- ---- marks

-- What the bytes in a message are: a header's root is the root of the core or not; a proof is no proof, the
-- written one of a key over the core, or another
pub record Marks : Type 0 where
  pub is_root : Core → Text → Bool
  pub is_proof : Text → Bool
  pub is_written : Core → Key → Text → Bool

abbrev pub true_marks : Marks
true_marks = record {
  is_root = λ core root. same_text root (core_root core);
  is_proof = λ bytes. is_some (proof_of bytes);
  is_written = λ core key bytes. same_text bytes (proof_bytes (written_proof (image core) (path key)));
}

-- ---- rows in a window

-- Of a chain that published so many heights, a height of the last `window` is there, and one below is gone.
-- The oldest of the window may be gone already: a chain that is about to publish drops its row first.
abbrev pub is_gone : ℕ → ℕ → Bool → ℕ → Bool
is_gone window published oldest_is_there height =
    nat_le (height + window) published || ((height + window == published + 1) && not oldest_is_there)

abbrev pub row_if : Bool → PublishedRow
row_if true = Same
row_if false = Different

-- ---- looking

-- the header has the time and the root of the block
abbrev pub is_header_of : Marks → Header → Block → Bool
is_header_of marks header block = (header.time == block.time) && marks.is_root block.records.core header.root

abbrev pub row_seen : Marks → ℕ → Bool → World → Header → PublishedRow
row_seen marks window oldest_is_there world header =
    if is_gone window (length (committed_of world header.chain)) oldest_is_there header.height then Gone
    else row_if (option_map_or (is_header_of marks header) (block_at world header.chain header.height) false)

-- the block has what is claimed, and the proof is the written one
abbrev pub is_shown_in : Marks → Claim → Text → Block → Bool
is_shown_in marks claim proof block =
    same_value (value_at block.records.core claim.key) claim.value && marks.is_written block.records.core claim.key proof

-- a chain with this core looks straight at what the others had committed
abbrev pub direct_evidence : Marks → ℕ → Bool → World → Core → Evidence
direct_evidence marks window oldest_is_there world core = record {
  published = λ chain. length (committed_of world chain);
  row = row_seen marks window oldest_is_there world;
  time_at = λ client height. option_map_or (λ block. block.time) (block_seen world core client height) 0;
  is_proof = marks.is_proof;
  shows = λ client height claim proof.
      option_map_or (is_shown_in marks claim proof) (block_seen world core client height) false;
}

-- ---- steps and runs

-- chain k answers and changes; a chain that isn't there is unknown
abbrev pub at_chain : World → ℕ → (MachineChain → Reply × MachineChain) → Option MachineChain → Reply × World
at_chain world k answer_of (Some chain) = let (reply, after) = answer_of chain in (reply, slice_set world k after)
at_chain world k answer_of None = (reply.No UnknownChain, world)

-- the reply to an event, and the world after it
unfoldable pub answer : Marks → GenesisState → Bool → World → Event → Reply × World
answer marks genesis oldest_is_there world (event.Message k m) =
    at_chain world k
    (λ chain. message_answer (direct_evidence marks genesis.window oldest_is_there world chain.records.core)
    (length genesis.chains) k chain m)
    (slice_get world k)
answer marks genesis oldest_is_there world (event.Block k next_time) =
    at_chain world k (λ chain. block_answer genesis.capacity chain next_time) (slice_get world k)

-- memory ran out, and nothing changed
abbrev pub RunsOutOfMemory : World → Reply → World → Type 0
RunsOutOfMemory old given new = (given ≡ reply.No NoMemory) × (new ≡ old)

-- the machine answers, and has chosen whether the oldest row of a window is there
abbrev pub Answers : GenesisState → World → Event → Reply → World → Type 0
Answers genesis old event given new =
    (oldest_is_there : Bool) × (answer true_marks genesis oldest_is_there old event ≡ (given, new))

-- from old the machine may give this reply to the event and go on to new
abbrev pub Step : GenesisState → World → Event → Reply → World → Type 0
Step genesis old event given new = RunsOutOfMemory old given new ⊎ Answers genesis old event given new

-- the machine may give these replies to these events, one step after another
abbrev pub IsRun : GenesisState → World → List Event → List Reply → World → Type 0
IsRun genesis old [] [] new = new ≡ old
IsRun genesis old (event ∷ events) (given ∷ replies) new =
    (mid : World) × Step genesis old event given mid × IsRun genesis mid events replies new
IsRun genesis old [] (given ∷ replies) new = ⊥
IsRun genesis old (event ∷ events) [] new = ⊥
