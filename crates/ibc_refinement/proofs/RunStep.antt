-- In the middle of a merged list, the next entry is a step of the machine.
use Rattle.std.proofs.Common.{◌≡◌, ℕ, zero, suc, ◌+◌, ◌≤◌, Bool, true, false, cond, ◌&&◌, List, [], ◌∷◌, ◌++◌, length, refl, sym, ap, ◌∙◌, subst, Some, None, Option, slice_get, slice_set, arith, inl, inr, is_some}
use Rattle.std.specs.Prelude.{IfSome}
use Rattle.std.specs.Option.{option_map_or}
use Rattle.std.proofs.lemmas.Bool.{cases_lt, false≢true}
use Rattle.std.proofs.lemmas.List.Sums.{sum_by-append}
use Rattle.std.proofs.lemmas.Option.{slice_get_past}
use Rattle.ibc_ids.specs.Texts.{Text}
use Rattle.ibc_ids.specs.Publications.{height_among}
use Rattle.ibc_ids.specs.declared.publication.Publication.{Publication}
use Rattle.ibc_wire.specs.declared.header.Header.{Header}
use Rattle.ibc_wire.specs.declared.messages.Message.TheVariants as message
use Rattle.ibc_machine.specs.declared.event.Event.{Event}
use Rattle.ibc_machine.specs.declared.event.Event.TheVariants as event
use Rattle.ibc_machine.specs.declared.entry.Entry.{Entry}
use Rattle.ibc_machine.specs.declared.entry.Reading.{Reading}
use Rattle.ibc_machine.specs.chain.Records.{MachineChain, Client}
use Rattle.ibc_machine.specs.ics02.Clients.{is_of_client}
use Rattle.ibc_machine.specs.chain.Genesis.{GenesisState}
use Rattle.ibc_machine.specs.chain.Machine.{World, answer, block_of, true_marks}
use Rattle.ibc_machine.specs.ledger.Replay.{LedgerState, StampedEntry, ledger_answer}
use Rattle.ibc_machine.specs.ledger.Ledgers.{Ledger, IsReading, is_looking, header_in, is_typed, chain_of, is_accepted_block, reading_fits}
use Rattle.ibc_machine.specs.ics23.HashedTexts.{event_texts, HasNoClash}
use Rattle.ibc_machine.specs.ledger.Merge.{is_of_chain, blocks_of, ReadingFitsBefore}
use Rattle.ibc_machine.proofs.Members.{Is_in}
use Rattle.ibc_refinement.proofs.LedgerSteps.{KnowsBlocks, oldest_of, block_step}
use Rattle.ibc_refinement.proofs.Typed.{IsTyped}
use Rattle.ibc_refinement.proofs.TypedMessages.{message_typed}
use Rattle.ibc_refinement.proofs.FitSteps.{AllFit, fit_step}
use Rattle.ibc_refinement.proofs.Hashed.{Among, among_clear}
use Rattle.ibc_refinement.proofs.RunStates.{AllRun, AreOfWorld, ledger_at}
use Rattle.ibc_refinement.proofs.RunRows.{runs_at, committed_is, sees_row}
use Rattle.ibc_refinement.proofs.RunKnows.{SeesForEvent}

-- ---- counting blocks

pub blocks_more : (k : ℕ) (before : List Entry) (e : Entry) (b : Bool) → (is_of_chain k e && is_accepted_block e) ≡ b → blocks_of k (before ++ e ∷ []) ≡ blocks_of k before + cond b 1 0
blocks_more k before e b is =
    let parts = sum_by-append (λ (entry : Entry). cond (is_of_chain k entry && is_accepted_block entry) 1 0) before (e ∷ []) in
    let one : cond (is_of_chain k e && is_accepted_block e) 1 0 ≡ cond b 1 0 = ap {B = ℕ} (λ x. cond x 1 0) is in
    omega (arith, parts, one)

pub blocks_apart : (k : ℕ) (before : List Entry) (e : Entry) → is_of_chain k e ≡ false → blocks_of k (before ++ e ∷ []) ≡ blocks_of k before
blocks_apart k before e apart = let w = blocks_more k before e false (ap (λ b. b && is_accepted_block e) apart) in omega (arith, w)

module _ (genesis : GenesisState) (ledgers : List Ledger) (publications : List Publication) (are : AreOfWorld genesis ledgers publications) (clash : HasNoClash ledgers) where
  module _ (world : World) (before rest : List Entry) (run : AllRun genesis ledgers world before rest) where
    -- all that stands is fit
    pub all_fit : AllFit (Among ledgers) world
    all_fit chain height block is =
        elim (cases_lt chain (length ledgers)) [
          | inl within ↦
              let at = ledger_at genesis ledgers are.of chain within in
              (runs_at genesis ledgers publications world before rest are run chain at).fit height block
              (ap (block_of height) (sym (committed_is genesis ledgers publications world before rest are run chain at)) ∙ is)
          | inr past ↦ absurd (nothing height (ap (λ o. block_of height (option_map_or (λ (c : MachineChain). c.committed) o [])) (sym (slice_get_past world chain (omega (arith, run.as_many)))) ∙ is))
        ]
      where
        nothing : (height : ℕ) → block_of height [] ≡ Some block → ⊥
        nothing zero e = absurd (cc)
        nothing (suc i) e = absurd (cc)

    -- ---- what an entry sees

    read_there : (o : Option Reading) → is_some o ≡ true → (r : Reading) × (o ≡ Some r)
    read_there None e = absurd (false≢true e)
    read_there (Some r) e = (r, refl)

    pub sees_for : (k : ℕ) (ledger : Ledger) (state : LedgerState) (s : StampedEntry) → slice_get ledgers k ≡ Some ledger → is_some s.entry.reading ≡ is_looking state s.entry.event
        → IsReading genesis.window ledger.seen s → ReadingFitsBefore genesis.window before s.entry
        → (e : Event) → s.entry.event ≡ e → SeesForEvent genesis.window world ledger.seen s.entry.reading state e
    sees_for k ledger state s there looking reading reads (event.Message chain (message.UpdateClient m)) is = λ client known ours.
        let looks : is_looking state s.entry.event ≡ true =
        ap (is_looking state) is ∙ ap (λ o. option_map_or (λ (c : Client). is_of_client c m.header) o false) known ∙ ours
        in
        let r = read_there s.entry.reading (looking ∙ looks) in
        let was = subst (λ o. IfSome o (λ r.
        (header : Header) × (n : ℕ) × (header_in s.entry.event ≡ Some header) × (s.stamp ≡ Some n) × (n ≤ length ledger.seen)
        × (reading_fits genesis.window (height_among header.chain n ledger.seen) header.height r ≡ true))) r.1 reading
        in
        let now = subst (λ o. IfSome o (λ r. IfSome (header_in s.entry.event) (λ header. reading_fits genesis.window (blocks_of header.chain before) header.height r ≡ true))) r.1 reads in
        let headers : Some was.0 ≡ Some m.header = sym was.2 ∙ ap header_in is in
        let same : was.0 ≡ m.header = cc in (
          r.0,
          r.1,
          sees_row genesis ledgers publications world before rest are run k ledger m.header r.0 was.1 there
              (subst (λ (h : Header). reading_fits genesis.window (height_among h.chain was.1 ledger.seen) h.height r.0 ≡ true) same was.5)
              (subst (λ o. IfSome o (λ (header : Header). reading_fits genesis.window (blocks_of header.chain before) header.height r.0 ≡ true)) (ap header_in is) now),
        )
    sees_for k ledger state s there looking reading reads (event.Message chain m) is = tt
    sees_for k ledger state s there looking reading reads (event.Block chain next_time) is = tt

    -- ---- the machine's answer

    pub answers : (k : ℕ) (seen : List Publication) (reading : Option Reading) (state : LedgerState) (e : Event) → chain_of e ≡ k → slice_get world k ≡ Some state.chain
        → KnowsBlocks world state → IsTyped state.chain.records.core → is_typed e ≡ true → SeesForEvent genesis.window world seen reading state e
        → ((x : Text) → Is_in x (event_texts e) → Among ledgers x)
        → answer true_marks genesis (oldest_of reading) world e ≡ ((ledger_answer genesis k seen reading state e).0, slice_set world k (ledger_answer genesis k seen reading state e).1.chain)
    unfolding ledger_answer
    answers k seen reading state (event.Message chain m) c there known typed t sees texts =
        subst (λ j. answer true_marks genesis (oldest_of reading) world (event.Message j m)
        ≡ ((ledger_answer genesis k seen reading state (event.Message j m)).0, slice_set world k (ledger_answer genesis k seen reading state (event.Message j m)).1.chain)) (sym c)
        (fit_step (Among ledgers) (among_clear ledgers clash) genesis world k seen reading state m all_fit there known sees typed (message_typed m t) texts)
    answers k seen reading state (event.Block chain next_time) c there known typed t sees texts =
        subst (λ j. answer true_marks genesis (oldest_of reading) world (event.Block j next_time)
        ≡ ((ledger_answer genesis k seen reading state (event.Block j next_time)).0, slice_set world k (ledger_answer genesis k seen reading state (event.Block j next_time)).1.chain)) (sym c)
        (block_step genesis (oldest_of reading) world k seen reading state next_time there)
