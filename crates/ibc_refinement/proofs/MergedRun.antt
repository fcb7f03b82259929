-- A list that merges the histories of ledgers is a run of the machine since genesis, to the ledgers' states.
use Rattle.std.proofs.Common.{◌≡◌, ℕ, zero, suc, true, nat_lt, List, [], ◌∷◌, ◌++◌, length, map, refl, sym, ap, ◌∙◌, subst, Some, option_map, unwrap_or, slice_get, arith, ltb-true, inr}
use Rattle.std.specs.List.{list_all}
use Rattle.std.proofs.lemmas.Bool.{and_parts, false≢true}
use Rattle.std.proofs.lemmas.Option.{slice_get-map}
use Rattle.std.proofs.lemmas.List.{length-map}
use Rattle.ibc_ids.specs.declared.publication.Publication.{Publication}
use Rattle.ibc_machine.specs.declared.event.Event.{Event}
use Rattle.ibc_machine.specs.declared.reply.Reply.{Reply}
use Rattle.ibc_machine.specs.declared.entry.Entry.{Entry}
use Rattle.ibc_machine.specs.chain.Records.{MachineChain, Block, is_known_height}
use Rattle.ibc_machine.specs.chain.Genesis.{GenesisState, start, starting_chain, empty_core}
use Rattle.ibc_machine.specs.chain.Machine.{World, IsRun, block_of}
use Rattle.ibc_machine.specs.ledger.Replay.{LedgerState, StampedEntry, replay, starting_state, empty_chain}
use Rattle.ibc_machine.specs.ledger.Ledgers.{Ledger, chain_of, machine_of, state_of}
use Rattle.ibc_machine.specs.ics23.HashedTexts.{HasNoClash}
use Rattle.ibc_machine.specs.ledger.Merge.{ReadingFitsBefore, EachWithEarlier, Merges}
use Rattle.ibc_machine.specs.promises.Worlds.{entries}
use Rattle.ibc_refinement.proofs.ChangedPlaces.{get_there, get_within, same_places}
use Rattle.ibc_refinement.proofs.Typed.{IsTyped}
use Rattle.ibc_refinement.proofs.EntrySteps.{ledger_of}
use Rattle.ibc_refinement.proofs.RunStates.{AllRun, AreOfWorld, ledger_at, ledger_from}
use Rattle.ibc_refinement.proofs.RunForward.{next_step}

abbrev pub events_of : List Entry → List Event
events_of list = map (λ (e : Entry). e.event) list

abbrev pub replies_of : List Entry → List Reply
replies_of list = map (λ (e : Entry). e.reply) list

-- each entry is of one of so many chains
abbrev pub AreWithin : ℕ → List Entry → Type 0
AreWithin n list = list_all (λ (entry : Entry). nat_lt (chain_of entry.event) n) list ≡ true

-- ---- the end

-- where no entry is left, the world is that of the ledgers
pub ends_there : (genesis : GenesisState) (ledgers : List Ledger) (publications : List Publication) → AreOfWorld genesis ledgers publications
    → (world : World) (before : List Entry) → AllRun genesis ledgers world before [] → world ≡ machine_of ledgers
ends_there genesis ledgers publications are world before run =
    same_places world (machine_of ledgers) (run.as_many ∙ sym (length-map ledgers (λ (l : Ledger). (state_of l).chain))) (λ k x y is there.
    let at = ledger_at genesis ledgers are.of k (omega (arith, get_within world k x is, run.as_many)) in
    let r = run.each k at.history at.seen at.there in
    let L = ledger_of genesis k at.history at.seen in
    let done = nothing_left r.left r.remaining in
    let last = ap (λ l. (replay genesis k at.seen r.state l).chain) (sym done) ∙ ap (λ (s : LedgerState). s.chain) r.ends in
    let mine : Some r.state.chain ≡ Some x = sym r.there ∙ is in
    let theirs : Some (state_of L).chain ≡ Some y = sym (slice_get-map (λ (l : Ledger). (state_of l).chain) ledgers k ∙ ap (option_map (λ (l : Ledger). (state_of l).chain)) at.there) ∙ there in
    let one : r.state.chain ≡ x = cc in
    let two : (state_of L).chain ≡ y = cc in
    sym one ∙ last ∙ two)
  where
    nothing_left : (left : List StampedEntry) → map (λ (s : StampedEntry). s.entry) left ≡ [] → left ≡ []
    nothing_left [] e = refl
    nothing_left (s ∷ left) e = absurd (cc)

-- ---- from the middle to the end

pub runs_on : (genesis : GenesisState) (ledgers : List Ledger) (publications : List Publication) → AreOfWorld genesis ledgers publications → HasNoClash ledgers
    → (rest : List Entry) (world : World) (before : List Entry) → AllRun genesis ledgers world before rest → EachWithEarlier (ReadingFitsBefore genesis.window) before rest → AreWithin (length ledgers) rest
    → IsRun genesis world (events_of rest) (replies_of rest) (machine_of ledgers)
runs_on genesis ledgers publications are clash [] world before run reads within = sym (ends_there genesis ledgers publications are world before run)
runs_on genesis ledgers publications are clash (e ∷ rest) world before run reads within =
    let parts = and_parts (nat_lt (chain_of e.event) (length ledgers)) (list_all (λ (entry : Entry). nat_lt (chain_of entry.event) (length ledgers)) rest) within in
    let step = next_step genesis ledgers publications are clash world before rest e run reads.0 (ltb-true (chain_of e.event) (length ledgers) parts.0) in
    (step.after, inr step.answers, runs_on genesis ledgers publications are clash rest step.after (before ++ e ∷ []) step.run reads.1 parts.1)

-- ---- the beginning

pub typed_start : IsTyped empty_core
typed_start = record { clients = tt; connections = tt; channels = tt; next_client = omega arith; next_connection = omega arith; next_channel = omega arith }

pub all_start : (genesis : GenesisState) (ledgers : List Ledger) (publications : List Publication) → AreOfWorld genesis ledgers publications
    → (times : List ℕ) (list : List Entry) → Merges genesis.window times (map entries ledgers) publications list → AllRun genesis ledgers (start genesis) [] list
all_start genesis ledgers publications are times list merges = record {
  as_many = length-map genesis.chains starting_chain ∙ sym are.of.all;
  each = λ k history seen there.
      let L = ledger_of genesis k history seen in
      let f = ledger_from genesis ledgers are.of k L there in
      let c = get_there genesis.chains k f.1.number in
      let first : slice_get (start genesis) k ≡ Some (starting_chain c.0) = slice_get-map starting_chain genesis.chains k ∙ ap (option_map starting_chain) c.1 in
      let chain : (starting_state genesis k).chain ≡ starting_chain c.0 = ap (λ o. unwrap_or o empty_chain) first in
      record {
        state = starting_state genesis k;
        done = [];
        left = history;
        whole = refl;
        replayed = refl;
        consumed = refl;
        there = first ∙ ap Some (sym chain);
        remaining = sym (merges.each k (entries L) (slice_get-map entries ledgers k ∙ ap (option_map entries) there));
        own = f.1.entries;
        met = λ at i. i;
        ends = refl;
        typed = subst (λ (x : MachineChain). IsTyped x.records.core) (sym chain) typed_start;
        fit = λ height block e. absurd (nothing height block (ap (λ (x : MachineChain). block_of height x.committed) (sym chain) ∙ e));
        blocks = ap (λ (x : MachineChain). length x.committed) chain;
        knows = λ client height is. absurd (false≢true (ap (λ (x : MachineChain). is_known_height x.records.core client height) (sym chain) ∙ is));
      };
  others = λ k past. refl;
}
  where
    nothing : (height : ℕ) (block : Block) → block_of height [] ≡ Some block → ⊥
    nothing zero block e = absurd (cc)
    nothing (suc i) block e = absurd (cc)
