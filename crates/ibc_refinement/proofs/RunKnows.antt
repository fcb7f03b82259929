-- What clients know stays so while others go on, and through the own blocks.
use Rattle.std.proofs.Common.{◌≡◌, ℕ, zero, suc, true, false, eqb, List, [], ◌++◌, refl, sym, ap, ◌∙◌, Some, None, Option, option_and_then, slice_get, slice_set, Ok, Err, eqb-true, eq-eqb}
use Rattle.std.specs.Prelude.{⊤}
use Rattle.std.specs.Option.{option_map_or}
use Rattle.std.proofs.lemmas.Bool.{false≢true}
use Rattle.ibc_ids.specs.Texts.{Text}
use Rattle.ibc_ids.specs.Maps.{Map}
use Rattle.ibc_ids.specs.declared.publication.Publication.{Publication}
use Rattle.ibc_machine.specs.declared.event.Event.{Event}
use Rattle.ibc_machine.specs.declared.event.Event.TheVariants as event
use Rattle.ibc_machine.specs.declared.entry.Reading.{Reading}
use Rattle.ibc_machine.specs.chain.Records.{Core, MachineChain, Block, Client, client_at}
use Rattle.ibc_machine.specs.chain.Checks.{Checked}
use Rattle.ibc_machine.specs.chain.Genesis.{GenesisState}
use Rattle.ibc_machine.specs.chain.Handlers.{may_commit, after_block}
use Rattle.ibc_machine.specs.chain.Machine.{World, block_of, block_at}
use Rattle.ibc_machine.specs.ledger.Replay.{LedgerState, Consensus, with_chain, ledger_answer}
use Rattle.ibc_machine.specs.ledger.Ledgers.{is_typed}
use Rattle.ibc_refinement.proofs.ChangedPlaces.{get_set, get_set_other, get_more, get_within}
use Rattle.ibc_refinement.proofs.LedgerSteps.{Knows, KnowsBlocks, SeesForMessage}
use Rattle.ibc_refinement.proofs.Typed.{IsTyped}
use Rattle.ibc_refinement.proofs.TypedMessages.{message_typed}
use Rattle.ibc_refinement.proofs.MessageKnows.{message_knows}

-- ---- a world that goes on

-- each block that stood stands
abbrev pub Extends : World → World → Type 0
Extends old new = (chain height : ℕ) (block : Block) → block_at old chain height ≡ Some block → block_at new chain height ≡ Some block

pub knows_on : (old new : World) (core : Core) (consensus : Map (Text × ℕ) Consensus) → Extends old new → Knows old core consensus → Knows new core consensus
knows_on old new core consensus extends known client height is =
    let w = known client height is in
    (w.0, seen_on (client_at core client) w.1, w.2)
  where
    seen_on : {block : Block} (o : Option Client) → option_and_then (λ found. block_at old found.state.chain height) o ≡ Some block
        → option_and_then (λ found. block_at new found.state.chain height) o ≡ Some block
    seen_on None e = absurd (cc)
    seen_on {block} (Some c) e = extends c.state.chain height block e

-- one chain has more blocks, and the others are as they were
pub extends_at : (world : World) (k : ℕ) (before after : MachineChain) (more : List Block) → slice_get world k ≡ Some before → after.committed ≡ before.committed ++ more
    → Extends world (slice_set world k after)
extends_at world k before after more there grows chain zero block e = absurd (cc)
extends_at world k before after more there grows chain (suc i) block e =
    elim (eqb k chain) as (λ b. eqb k chain ≡ b → block_at (slice_set world k after) chain (suc i) ≡ Some block) [
      | true ↦ λ is.
          let same = eqb-true k chain is in
          let here = ap (λ j. slice_get (slice_set world k after) j) (sym same) ∙ get_set world k after (get_within world k before there) in
          let was = ap (slice_get world) (sym same) ∙ there in
          ap (λ o. block_of (suc i) (option_map_or (λ (c : MachineChain). c.committed) o [])) here ∙ ap (block_of (suc i)) grows
          ∙ get_more before.committed more i block (sym (ap (λ o. block_of (suc i) (option_map_or (λ (c : MachineChain). c.committed) o [])) was) ∙ e)
      | false ↦ λ is.
          ap (λ o. block_of (suc i) (option_map_or (λ (c : MachineChain). c.committed) o [])) (get_set_other world k chain after (λ same. false≢true (sym is ∙ eq-eqb k chain same))) ∙ e
    ] refl

-- ---- an event

-- what an event that looks has read
abbrev pub SeesForEvent : ℕ → World → List Publication → Option Reading → LedgerState → Event → Type 0
SeesForEvent window world seen reading state (event.Message k m) = SeesForMessage window world seen reading state m
SeesForEvent window world seen reading state (event.Block k next_time) = ⊤

block_knows : (world : World) (state : LedgerState) (next_time : ℕ) (x : Checked ⊤) → KnowsBlocks world state → KnowsBlocks world (with_chain state (after_block state.chain next_time x)).1
block_knows world state next_time (Ok w) known = known
block_knows world state next_time (Err r) known = known

pub answer_knows : (genesis : GenesisState) (k : ℕ) (world : World) (seen : List Publication) (reading : Option Reading) (state : LedgerState) (e : Event)
    → IsTyped state.chain.records.core → is_typed e ≡ true → SeesForEvent genesis.window world seen reading state e → KnowsBlocks world state
    → KnowsBlocks world (ledger_answer genesis k seen reading state e).1
unfolding ledger_answer
answer_knows genesis k world seen reading state (event.Message chain m) typed t sees known = message_knows genesis k chain world seen reading state m typed (message_typed m t) sees known
answer_knows genesis k world seen reading state (event.Block chain next_time) typed t sees known = block_knows world state next_time (may_commit genesis.capacity state.chain next_time) known
