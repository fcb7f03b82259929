-- The chains of a script as a world: how it goes on by an event, and what its ledgers have at a look.
use Rattle.std.specs.Prelude.{◌≡◌, ◌⊎◌, ℕ, List, [], map, slice_get, Option, Some, option_map, option_and_then, Result, Ok, Err, IfOk, IfErr}
use Rattle.std.specs.Borrow.{Bor}
use Rattle.std.specs.Global.{Vec}
use Rattle.std.specs.Option.{option_map_or}
use Rattle.ibc_ids.specs.Maps.{at}
use Rattle.ibc_ids.specs.Paths.{path}
use Rattle.ibc_ids.specs.Texts.{Text, text_cmp}
use Rattle.ibc_ids.specs.declared.key.Key.{Key}
use Rattle.ibc_ids.specs.declared.refusal.Refusal.{Refusal}
use Rattle.ibc_ids.specs.declared.refusal.Refusal.TheVariants.{NoMemory}
use Rattle.ibc_merkle.specs.Written.{written_proof}
use Rattle.ibc_merkle.specs.declared.proof.Proof.{Proof}
use Rattle.ibc_machine.specs.chain.Genesis.{ChainState, GenesisState}
use Rattle.ibc_machine.specs.chain.Records.{Block}
use Rattle.ibc_machine.specs.declared.totals.Totals.{Totals}
use Rattle.ibc_machine.specs.ics18.Relay.{plan}
use Rattle.ibc_machine.specs.ics24.Image.{core_root, image}
use Rattle.ibc_machine.specs.ledger.Ledgers.{Ledger, machine_of, state_of}
use Rattle.ibc_machine.specs.promises.Totals.{totals}
use Rattle.ibc_wire.specs.declared.messages.Message.{Message}
use Rattle.ibc_ledger.specs.LedgerModel.{LedgerModel}
use Rattle.ibc_ledger.specs.ReplayedState.{provable_block}
use Rattle.ibc_ledger.specs.SentPackets.{ack_on, packet_on}
use Rattle.ibc_refinement.specs.Steps.{IsStep}
use Rattle.ibc_refinement.specs.World.{AreNew, WorldState}
use Rattle.ibc_world_core.specs.Totals.{abstract_totals}
use Rattle.ibc_world_core.specs.WorldAudits.{balances_of, notes_of}
use Rattle.ibc_script_cli.specs.ScriptChains.{ChainAnswers, ScriptChains}
use Rattle.ibc_script_cli.specs.declared.chains.CommittedBlock.{CommittedBlock}
use Rattle.ibc_script_worlds.specs.Relaying.{view_of_ledger}
use Rattle.ibc_script_worlds.specs.declared.blocks.ChainStarts.{ChainStarts}

-- the world of a genesis in the beginning
abbrev pub IsNewWorld : GenesisState → WorldState → Type 0
IsNewWorld genesis world = (world.genesis ≡ genesis) × AreNew genesis world.ledgers × (world.order ≡ [])

-- how the chains of a genesis begin
abbrev pub AreStartsOf : GenesisState → ChainStarts → Type 0
AreStartsOf genesis starts =
    (starts.window ≡ genesis.window) × (starts.times.items ≡ map (λ (chain : ChainState). chain.time) genesis.chains)

-- ---- what one ledger tells

-- what stands at a key in the working block
abbrev pub value_in : Key → Ledger → Option Text
value_in k ledger = at text_cmp (path k) (image (state_of ledger).chain.records.core)

-- the block of a height, where it is one of the last that the ledger keeps
abbrev pub kept_block : ℕ → Ledger → Option Block
kept_block height ledger = provable_block ledger.genesis.window (state_of ledger).chain.committed height

-- the written proof of what the block of a height has at a key
abbrev pub proof_in : ℕ → Key → Ledger → Option Proof
proof_in height k ledger =
    option_map (λ (block : Block). written_proof (image block.records.core) (path k)) (kept_block height ledger)

abbrev pub committed_block : Block → CommittedBlock
committed_block block = record { root = core_root block.records.core; time = block.time }

-- the root and the time of a height
abbrev pub block_in : ℕ → Ledger → Option CommittedBlock
block_in height ledger = option_map committed_block (kept_block height ledger)

-- ---- what a world tells

-- what the ledger of a number tells, nothing where there is none
abbrev pub by_ledger : {A : Type 0} → (Ledger → Option A) → WorldState → ℕ → Option A
by_ledger tells world on = option_and_then tells (slice_get world.ledgers on)

-- relayers' messages for the second ledger, and those for the first
abbrev pub plans_of : Option Ledger → Option Ledger → List Message × List Message
plans_of (Some first) (Some second) =
    (plan (view_of_ledger first) (view_of_ledger second), plan (view_of_ledger second) (view_of_ledger first))
plans_of _ _ = ([], [])

-- the ledger behind a reference, where there is one
abbrev pub ledger_behind : Option (Bor LedgerModel) → Option Ledger
ledger_behind held = option_map (λ ledger. ledger.now.ledger) held

-- the messages that are owed two ledgers behind references
abbrev pub ArePlansOf : Option (Bor LedgerModel) → Option (Bor LedgerModel) → Vec Message × Vec Message → Type 0
ArePlansOf first second = λ plans. (plans.0.items, plans.1.items) ≡ plans_of (ledger_behind first) (ledger_behind second)

-- what the world tells of a channel, or that memory ran out
abbrev pub TellsTotals : WorldState → ℕ → Text → Text → Result Totals Refusal → Type 0
TellsTotals world on channel denom result =
    IfOk result (λ t. totals (machine_of world.ledgers) on channel denom ≡ Ok (abstract_totals t))
    × IfErr result (λ refusal. (refusal ≡ NoMemory) ⊎ (totals (machine_of world.ledgers) on channel denom ≡ Err refusal))

abbrev pub world_answers : WorldState → ChainAnswers
world_answers world = record {
  value = λ on k found. found ≡ by_ledger (value_in k) world on;
  packet = λ on port channel n found. found ≡ by_ledger (λ (ledger : Ledger). packet_on ledger port channel n) world on;
  ack = λ on port channel n found. found ≡ by_ledger (λ (ledger : Ledger). ack_on ledger port channel n) world on;
  proof = λ on height k found. found ≡ by_ledger (proof_in height k) world on;
  block = λ on height found. found ≡ by_ledger (block_in height) world on;
  working_time = λ on time. time ≡ option_map_or (λ (ledger : Ledger). (state_of ledger).chain.time) (slice_get world.ledgers on) 0;
  plans = λ first second plans. plans ≡ plans_of (slice_get world.ledgers first) (slice_get world.ledgers second);
  totals = TellsTotals world;
  balances = λ on list. list ≡ option_map_or balances_of (slice_get world.ledgers on) [];
  notes = λ on list. list ≡ option_map_or notes_of (slice_get world.ledgers on) [];
}

-- a world, as the chains of a script
abbrev pub world_chains : ScriptChains WorldState
world_chains = record { asked = IsStep; answers = world_answers }
