-- A step of a ledger is a step of the machine, where what it knows of others is what they committed.
use Rattle.std.proofs.Common.{◌≡◌, ℕ, ◌+◌, Bool, true, false, ◌&&◌, ◌||◌, not, eqb, cond, nat_le, nat_lt, List, length, refl, sym, ap, ◌∙◌, Some, None, Option, option_map, option_and_then, slice_get, slice_set, arith, eqb-true, leb-true, le-leb, ltb-true, subst, ◌≤◌}
use Rattle.std.specs.Prelude.{⊤, ◌==◌}
use Rattle.std.specs.Option.{option_map_or}
use Rattle.std.proofs.lemmas.Bool.{and_parts}
use Rattle.ibc_ids.specs.Texts.{Text}
use Rattle.ibc_ids.specs.Maps.{Map, at}
use Rattle.ibc_ids.specs.Publications.{row_at}
use Rattle.ibc_ids.specs.declared.publication.Publication.{Publication}
use Rattle.ibc_wire.specs.declared.header.Header.{Header}
use Rattle.ibc_wire.specs.declared.messages.Message.{Message}
use Rattle.ibc_wire.specs.declared.messages.Message.TheVariants as message
use Rattle.ibc_machine.specs.declared.event.Event.TheVariants as event
use Rattle.ibc_machine.specs.declared.reply.Reply.{Reply}
use Rattle.ibc_machine.specs.declared.reply.Reply.TheVariants as reply
use Rattle.ibc_machine.specs.declared.entry.Reading.{Reading}
use Rattle.ibc_machine.specs.chain.Genesis.{GenesisState}
use Rattle.ibc_machine.specs.chain.Records.{Core, Block, MachineChain, Client, client_at, is_known_height}
use Rattle.ibc_machine.specs.ics24.Image.{core_root}
use Rattle.ibc_machine.specs.ics24.Evidence.{Gone}
use Rattle.ibc_machine.specs.chain.Handlers.{after_message, message_answer, block_answer, host_of}
use Rattle.ibc_machine.specs.ics02.Clients.{is_of_client}
use Rattle.ibc_machine.specs.chain.Machine.{World, answer, at_chain, block_at, block_seen, committed_of, direct_evidence, true_marks, is_gone, row_if, is_header_of, is_shown_in}
use Rattle.ibc_machine.specs.ledger.Replay.{Consensus, LedgerState, consensus_cmp, is_published_as, is_shown, proof_evidence, after_answer, ledger_answer}
use Rattle.ibc_machine.specs.ledger.Ledgers.{published_as, fits, reading_fits}
use Rattle.ibc_refinement.proofs.Agreeing.{Asked, Agree, AgreeOn}
use Rattle.ibc_refinement.proofs.SameAnswers.{AgreeOnHeader, AllAsked, handle_same}
use Rattle.ibc_refinement.proofs.Shown.{AreClear, shown_same}

-- what a client knows of a height is what the chain that it tracks committed there
abbrev pub consensus_of : Block → Consensus
consensus_of block = record { root = core_root block.records.core; time = block.time }

abbrev pub Knows : World → Core → Map (Text × ℕ) Consensus → Type 0
Knows world core consensus =
    (client : Text) (height : ℕ) → is_known_height core client height ≡ true
    → (block : Block) × (block_seen world core client height ≡ Some block) × (at consensus_cmp (client, height) consensus ≡ Some (consensus_of block))

abbrev pub KnowsBlocks : World → LedgerState → Type 0
KnowsBlocks world state = Knows world state.chain.records.core state.consensus

-- of each block that stands in the world, the claim and the proof clash with nothing
abbrev pub ClearIn : World → Asked
ClearIn world claim bytes = (chain height : ℕ) (block : Block) → block_at world chain height ≡ Some block → AreClear block.records.core claim bytes

pub seen_at : (world : World) (height : ℕ) (o : Option Client) (block : Block) → option_and_then (λ c. block_at world c.state.chain height) o ≡ Some block
    → (chain : ℕ) × (block_at world chain height ≡ Some block)
seen_at world height None block e = absurd (cc)
seen_at world height (Some c) block e = (c.state.chain, e)

-- ---- proofs

pub proves_looks : (window : ℕ) (oldest : Bool) (world : World) (seen : List Publication) (reading : Option Reading) (state : LedgerState) → KnowsBlocks world state
    → Agree (ClearIn world) (proof_evidence seen reading state) (direct_evidence true_marks window oldest world state.chain.records.core) state.chain.records.core
proves_looks window oldest world seen reading state known = record {
  is_proof = λ bytes. refl;
  time_at = λ client height is.
      let w = known client height is in
      ap (λ o. option_map_or (λ (c : Consensus). c.time) o 0) w.2 ∙ sym (ap (λ o. option_map_or (λ (b : Block). b.time) o 0) w.1);
  shows = λ client height claim bytes is clear.
      let w = known client height is in
      let at_chain = seen_at world height (client_at state.chain.records.core client) w.0 w.1 in
      ap (λ o. option_map_or (is_shown claim bytes) o false) w.2
      ∙ shown_same w.0.records.core claim bytes (clear at_chain.0 height w.0 at_chain.1) w.0 refl w.0.time
      ∙ sym (ap (λ o. option_map_or (is_shown_in true_marks claim bytes) o false) w.1);
}

-- ---- headers

-- whether the machine takes the oldest row of a window to be there: just as the ledger found it
abbrev pub oldest_if : Option Bool → Bool
oldest_if None = true
oldest_if (Some there) = there

abbrev pub oldest_of : Option Reading → Bool
oldest_of None = true
oldest_of (Some r) = oldest_if r.row_was_there

-- what was read fits what the chain has committed by now, and a row that was there is of its block
pub record SeesRow (window : ℕ) (world : World) (seen : List Publication) (header : Header) (r : Reading) : Type 0 where
  pub fits_now : reading_fits window (length (committed_of world header.chain)) header.height r ≡ true
  pub row : r.row_was_there ≡ Some true
      → row_at seen header.chain header.height ≡ option_map (published_as header.chain) (block_at world header.chain header.height)

header_same : (header : Header) (o : Option Block) → option_map_or (is_published_as header) (option_map (published_as header.chain) o) false ≡ option_map_or (is_header_of true_marks header) o false
header_same header None = refl
header_same header (Some block) = refl

not_gone : (window published height : ℕ) → nat_lt published (height + window) ≡ true → is_gone window published true height ≡ false
not_gone window published height low =
    elim (nat_le (height + window) published) as (λ b. nat_le (height + window) published ≡ b → (b || (eqb (height + window) (published + 1) && not true)) ≡ false) [
      | true ↦ λ is. let h = leb-true (height + window) published is in let g = ltb-true published (height + window) low in absurd (omega arith)
      | false ↦ λ _. elim (eqb (height + window) (published + 1)) as (λ b. (b && not true) ≡ false) [ true ↦ refl | false ↦ refl ]
    ] refl

gone : (window published height : ℕ) → nat_le (height + window) (published + 1) ≡ true → is_gone window published false height ≡ true
gone window published height low =
    elim (nat_le (height + window) published) as (λ b. nat_le (height + window) published ≡ b → (b || (eqb (height + window) (published + 1) && not false)) ≡ true) [
      | true ↦ λ _. refl
      | false ↦ λ is.
          let h = leb-true (height + window) (published + 1) low in
          elim (eqb (height + window) (published + 1)) as (λ b. eqb (height + window) (published + 1) ≡ b → (b && not false) ≡ true) [
            | true ↦ λ _. refl
            | false ↦ λ differ. absurd (apart is differ h)
          ] refl
    ] refl
  where
    apart : nat_le (height + window) published ≡ false → eqb (height + window) (published + 1) ≡ false → height + window ≤ published + 1 → ⊥
    apart is differ h = grind (arith)

module _ (window : ℕ) (world : World) (seen : List Publication) (state : LedgerState) (header : Header) where
  abbrev now : ℕ
  now = length (committed_of world header.chain)

  agree_by : (published : ℕ) (o : Option Bool) → fits window now header.height published o ≡ true
      → (o ≡ Some true → row_at seen header.chain header.height ≡ option_map (published_as header.chain) (block_at world header.chain header.height))
      → AgreeOn (proof_evidence seen (Some (record { published = published; row_was_there = o })) state) (direct_evidence true_marks window (oldest_if o) world state.chain.records.core) header
  agree_by published None fit row =
      let parts = and_parts (published == now) (nat_lt published header.height) fit in
      let same = eqb-true published now parts.0 in
      let above = ltb-true published header.height parts.1 in
      record {
        published = ap (nat_le header.height) same;
        row = λ within. let low = leb-true header.height now within in absurd (omega arith);
      }
  agree_by published (Some true) fit row =
      let parts = and_parts (nat_le header.height published && nat_le published now) (nat_lt now (header.height + window)) fit in
      let both = and_parts (nat_le header.height published) (nat_le published now) parts.0 in
      let low = leb-true header.height published both.0 in
      let high = leb-true published now both.1 in
      record {
        published = both.0 ∙ sym (le-leb header.height now (omega arith));
        row = λ within. ap (λ o. row_if (option_map_or (is_published_as header) o false)) (row refl) ∙ ap row_if (header_same header (block_at world header.chain header.height))
            ∙ ap (λ b. cond b Gone (row_if (option_map_or (is_header_of true_marks header) (block_at world header.chain header.height) false))) (sym (not_gone window now header.height parts.1));
      }
  agree_by published (Some false) fit row =
      let parts = and_parts (nat_le header.height published && nat_le published now) (nat_le (header.height + window) (now + 1)) fit in
      let both = and_parts (nat_le header.height published) (nat_le published now) parts.0 in
      let low = leb-true header.height published both.0 in
      let high = leb-true published now both.1 in
      record {
        published = both.0 ∙ sym (le-leb header.height now (omega arith));
        row = λ within. ap (λ b. cond b Gone (row_if (option_map_or (is_header_of true_marks header) (block_at world header.chain header.height) false))) (sym (gone window now header.height parts.1));
      }

  pub headers_agree : (r : Reading) → SeesRow window world seen header r
      → AgreeOn (proof_evidence seen (Some r) state) (direct_evidence true_marks window (oldest_if r.row_was_there) world state.chain.records.core) header
  headers_agree r sees = agree_by r.published r.row_was_there sees.fits_now sees.row

-- what an update that looks has read
abbrev pub SeesForMessage : ℕ → World → List Publication → Option Reading → LedgerState → Message → Type 0
SeesForMessage window world seen reading state (message.UpdateClient m) =
    (client : Client) → client_at state.chain.records.core m.client ≡ Some client → is_of_client client m.header ≡ true
    → (r : Reading) × (reading ≡ Some r) × SeesRow window world seen m.header r
SeesForMessage window world seen reading state m = ⊤

header_of_message : (window : ℕ) (world : World) (seen : List Publication) (reading : Option Reading) (state : LedgerState) (m : Message) → SeesForMessage window world seen reading state m
    → AgreeOnHeader (proof_evidence seen reading state) (direct_evidence true_marks window (oldest_of reading) world state.chain.records.core) state.chain.records.core m
header_of_message window world seen None state (message.UpdateClient m) sees = λ client there ours. let w = sees client there ours in absurd (none (w.1))
  where
    none : {r : Reading} → ◌≡◌ {A = Option Reading} None (Some r) → ⊥
    none e = absurd (cc)
header_of_message window world seen (Some r) state (message.UpdateClient m) sees =
    λ client there ours. let w = sees client there ours in
    let same : w.0 ≡ r = cc in
    headers_agree window world seen state m.header r (subst (SeesRow window world seen m.header) same w.2)
header_of_message window world seen reading state m sees = tt

-- ---- one step

after_answer-keeps : (m : Message) (state : LedgerState) (r : Reply × MachineChain) → ((after_answer m state r).0 ≡ r.0) × ((after_answer m state r).1.chain ≡ r.1)
after_answer-keeps m state (reply.Ok effect, chain) = (refl, refl)
after_answer-keeps m state (reply.No refusal, chain) = (refl, refl)

answer_at : (genesis : GenesisState) (oldest : Bool) (world : World) (k : ℕ) (chain : MachineChain) (m : Message) → slice_get world k ≡ Some chain
    → answer true_marks genesis oldest world (event.Message k m)
    ≡ at_chain world k (λ chain. message_answer (direct_evidence true_marks genesis.window oldest world chain.records.core) (length genesis.chains) k chain m) (Some chain)
unfolding answer
answer_at genesis oldest world k chain m there =
    ap (at_chain world k (λ chain. message_answer (direct_evidence true_marks genesis.window oldest world chain.records.core) (length genesis.chains) k chain m)) there

pub message_step : (genesis : GenesisState) (world : World) (k : ℕ) (seen : List Publication) (reading : Option Reading) (state : LedgerState) (m : Message)
    → slice_get world k ≡ Some state.chain → KnowsBlocks world state → SeesForMessage genesis.window world seen reading state m → AllAsked (ClearIn world) state.chain.records.core m
    → answer true_marks genesis (oldest_of reading) world (event.Message k m)
    ≡ ((ledger_answer genesis k seen reading state (event.Message k m)).0, slice_set world k (ledger_answer genesis k seen reading state (event.Message k m)).1.chain)
unfolding ledger_answer
message_step genesis world k seen reading state m there known sees asked =
    let same = handle_same (ClearIn world) (proof_evidence seen reading state) (direct_evidence true_marks genesis.window (oldest_of reading) world state.chain.records.core)
    (host_of (length genesis.chains) k state.chain) state.chain.records.core state.chain.records.apps
    (proves_looks genesis.window (oldest_of reading) world seen reading state known) m (header_of_message genesis.window world seen reading state m sees) asked
    in
    let mine : Reply × MachineChain = message_answer (proof_evidence seen reading state) (length genesis.chains) k state.chain m in
    let keeps = after_answer-keeps m state mine in
    answer_at genesis (oldest_of reading) world k state.chain m there
    ∙ ap (λ checked. let w = after_message state.chain checked in (w.0, slice_set world k w.1)) (sym same)
    ∙ (λ i. (sym keeps.0 i, slice_set world k (sym keeps.1 i)))

pub block_step : (genesis : GenesisState) (oldest : Bool) (world : World) (k : ℕ) (seen : List Publication) (reading : Option Reading) (state : LedgerState) (next_time : ℕ)
    → slice_get world k ≡ Some state.chain
    → answer true_marks genesis oldest world (event.Block k next_time)
    ≡ ((ledger_answer genesis k seen reading state (event.Block k next_time)).0, slice_set world k (ledger_answer genesis k seen reading state (event.Block k next_time)).1.chain)
unfolding ledger_answer answer
block_step genesis oldest world k seen reading state next_time there = ap (at_chain world k (λ chain. block_answer genesis.capacity chain next_time)) there
