-- After an entry of a merged list each ledger has gone on: that of the entry's chain by the entry, and the
-- others not.
use Rattle.std.proofs.Common.{◌≡◌, ℕ, zero, suc, ◌<◌, ◌^◌, Bool, true, false, cond, ◌&&◌, List, [], ◌∷◌, ◌++◌, length, map, filter, refl, sym, ap, ◌∙◌, subst, Some, slice_get, slice_set, arith, inl, inr, length-append, append-nil}
use Rattle.std.specs.List.{AllByRecursion}
use Rattle.std.proofs.lemmas.List.Elements.{filter-append}
use Rattle.ibc_ids.specs.Texts.{Text}
use Rattle.ibc_ids.specs.declared.publication.Publication.{Publication}
use Rattle.ibc_machine.specs.declared.entry.Entry.{Entry}
use Rattle.ibc_machine.specs.chain.Records.{Block}
use Rattle.ibc_machine.specs.ics24.Image.{image}
use Rattle.ibc_machine.specs.chain.Genesis.{GenesisState}
use Rattle.ibc_machine.specs.chain.Machine.{World, block_of}
use Rattle.ibc_machine.specs.ledger.Replay.{LedgerState, StampedEntry, entry_answer, replay, met_states, starting_state}
use Rattle.ibc_machine.specs.ledger.Ledgers.{Ledger, IsOwnEntry, is_block_reply, is_accepted_block, met_by, state_of}
use Rattle.ibc_machine.specs.ics23.HashedTexts.{event_texts, ledger_texts, HasNoClash}
use Rattle.ibc_machine.specs.ledger.Merge.{is_of_chain, blocks_of}
use Rattle.ibc_machine.proofs.Members.{Is_in, in_left, in_right, in_flat_map}
use Rattle.ibc_refinement.proofs.ChangedPlaces.{get_cases, get_in, all_in}
use Rattle.ibc_refinement.proofs.Clear.{AreFit}
use Rattle.ibc_refinement.proofs.Typed.{IsTyped}
use Rattle.ibc_refinement.proofs.TypedLook.{fit_from}
use Rattle.ibc_refinement.proofs.EntrySteps.{working, Commits, answer_commits, ledger_of, own_typed, replay_grows}
use Rattle.ibc_refinement.proofs.Hashed.{met_hashed, block_hashed, event_hashed, met_in_history, Among}
use Rattle.ibc_refinement.proofs.RunStates.{AllRun, AreOfWorld, IsLedgerAt}
use Rattle.ibc_refinement.proofs.RunKnows.{Extends, extends_at}
use Rattle.ibc_refinement.proofs.RunStep.{blocks_more}

-- ---- what is left of a history begins with the entry

pub record BeginsWith (e : Entry) (rest : List Entry) (left : List StampedEntry) : Type 0 where
  pub first : StampedEntry
  pub later : List StampedEntry
  pub whole : left ≡ first ∷ later
  pub entry : first.entry ≡ e
  pub remaining : map (λ (s : StampedEntry). s.entry) later ≡ rest

pub begins_with : (e : Entry) (rest : List Entry) (left : List StampedEntry) → map (λ (s : StampedEntry). s.entry) left ≡ e ∷ rest → BeginsWith e rest left
begins_with e rest [] is = absurd (cc)
begins_with e rest (s ∷ left) is = record { first = s; later = left; whole = refl; entry = cc; remaining = cc }

pub own_first : (k : ℕ) (e : Entry) (rest : List Entry) → is_of_chain k e ≡ true → filter (is_of_chain k) (e ∷ rest) ≡ e ∷ filter (is_of_chain k) rest
own_first k e rest is = ap (λ b. cond b (e ∷ filter (is_of_chain k) rest) (filter (is_of_chain k) rest)) is

pub other_first : (k : ℕ) (e : Entry) (rest : List Entry) → is_of_chain k e ≡ false → filter (is_of_chain k) (e ∷ rest) ≡ filter (is_of_chain k) rest
other_first k e rest is = ap (λ b. cond b (e ∷ filter (is_of_chain k) rest) (filter (is_of_chain k) rest)) is

pub own_last : (k : ℕ) (before : List Entry) (e : Entry) → is_of_chain k e ≡ true → filter (is_of_chain k) (before ++ e ∷ []) ≡ filter (is_of_chain k) before ++ e ∷ []
own_last k before e is = filter-append (is_of_chain k) before (e ∷ []) ∙ ap (λ xs. filter (is_of_chain k) before ++ xs) (own_first k e [] is)

pub other_last : (k : ℕ) (before : List Entry) (e : Entry) → is_of_chain k e ≡ false → filter (is_of_chain k) (before ++ e ∷ []) ≡ filter (is_of_chain k) before
other_last k before e is = filter-append (is_of_chain k) before (e ∷ []) ∙ ap (λ xs. filter (is_of_chain k) before ++ xs) (other_first k e [] is) ∙ append-nil (filter (is_of_chain k) before)

module _ (genesis : GenesisState) (ledgers : List Ledger) (publications : List Publication) (are : AreOfWorld genesis ledgers publications) (clash : HasNoClash ledgers)
    (world : World) (before rest : List Entry) (k : ℕ) (s : StampedEntry) (later : List StampedEntry) (run : AllRun genesis ledgers world before (s.entry ∷ rest)) (at : IsLedgerAt genesis ledgers k) where
  abbrev pub ledger : Ledger
  ledger = ledger_of genesis k at.history at.seen

  -- where ledger k meets the entry
  module _ (state : LedgerState) (there : slice_get world k ≡ Some state.chain) (own : AllByRecursion (IsOwnEntry ledger) (met_states genesis k at.seen state (s ∷ later)))
      (met : (x : LedgerState × StampedEntry) → Is_in x (met_states genesis k at.seen state (s ∷ later)) → Is_in x (met_by ledger))
      (ends : replay genesis k at.seen state (s ∷ later) ≡ state_of ledger) (typed : IsTyped state.chain.records.core) where
    abbrev pub next : LedgerState
    next = (entry_answer genesis k at.seen state s).1

    pub commits : Commits (entry_answer genesis k at.seen state s).0 state.chain next.chain
    commits = answer_commits genesis k at.seen s.entry.reading state s.entry.event typed (own_typed ledger state s own.0)

    -- all that the ledger hashes
    among : (x : Text) → Is_in x (ledger_texts ledger) → Among ledgers x
    among x i = in_flat_map ledger_texts ledger x ledgers (get_in ledgers k ledger at.there) i

    pub events_among : (x : Text) → Is_in x (event_texts s.entry.event) → Among ledgers x
    events_among x i = among x (event_hashed ledger x s (met_in_history genesis k at.seen (starting_state genesis k) at.history (state, s) (met (state, s) (inl refl))) i)

    -- a working block that is committed is among the blocks in the end
    stays_committed : next.chain.committed ≡ state.chain.committed ++ working state.chain ∷ [] → Is_in (working state.chain) (state_of ledger).chain.committed
    stays_committed grows =
        let more = replay_grows ledger genesis k at.seen next later commits.typed own.1 in
        subst (Is_in (working state.chain)) (ap (λ xs. xs ++ more.0) (sym grows) ∙ sym more.1 ∙ ap (λ (w : LedgerState). w.chain.committed) ends)
        (in_left (working state.chain) (state.chain.committed ++ working state.chain ∷ []) more.0 (in_right (working state.chain) state.chain.committed (working state.chain ∷ []) (inl refl)))

    -- so its records are fit
    working_fit : Is_in (working state.chain) (state_of ledger).chain.committed → AreFit (Among ledgers) state.chain.records.core
    working_fit there =
        fit_from (Among ledgers) state.chain.records.core typed (λ x i. among x (met_hashed ledger x (state, s) (met (state, s) (inl refl)) i))
        (all_in (λ (block : Block). length (image block.records.core) < 2 ^ 64) (working state.chain) (state_of ledger).chain.committed there at.is.small)
        (λ x i. among x (block_hashed ledger x (working state.chain) there i))

    pub next_fit : ((height : ℕ) (block : Block) → block_of height state.chain.committed ≡ Some block → AreFit (Among ledgers) block.records.core)
        → (height : ℕ) (block : Block) → block_of height next.chain.committed ≡ Some block → AreFit (Among ledgers) block.records.core
    next_fit fit zero block e = absurd (cc)
    next_fit fit (suc i) block e =
        elim (commits.blocks) [
          | inl w ↦ fit (suc i) block (ap (λ xs. slice_get xs i) (sym w.1) ∙ e)
          | inr w ↦ elim (get_cases state.chain.committed (working state.chain) i block (ap (λ xs. slice_get xs i) (sym w.1) ∙ e)) [
            | inl old ↦ fit (suc i) block old
            | inr same ↦ subst (λ (b : Block). AreFit (Among ledgers) b.records.core) same (working_fit (stays_committed w.1))
          ]
        ]

    -- the chain has more blocks, or as many
    next_grows : (more : List Block) × (next.chain.committed ≡ state.chain.committed ++ more)
    next_grows = elim (commits.blocks) [ inl w ↦ ([], w.1 ∙ sym (append-nil state.chain.committed)) | inr w ↦ (working state.chain ∷ [], w.1) ]

    pub goes_on : Extends world (slice_set world k next.chain)
    goes_on = let w = next_grows in extends_at world k state.chain next.chain w.0 there w.1

    accepted_is : (b : Bool) → is_block_reply (entry_answer genesis k at.seen state s).0 ≡ b → is_accepted_block s.entry ≡ b
    accepted_is b is = ap is_block_reply own.0.reply ∙ is

    pub next_blocks : is_of_chain k s.entry ≡ true → length state.chain.committed ≡ blocks_of k before → length next.chain.committed ≡ blocks_of k (before ++ s.entry ∷ [])
    next_blocks mine count =
        elim (commits.blocks) [
          | inl w ↦
              let counted = blocks_more k before s.entry false (ap (λ b. b && is_accepted_block s.entry) mine ∙ accepted_is false w.0) in
              let lengths = ap length w.1 in
              omega arith
          | inr w ↦
              let counted = blocks_more k before s.entry true (ap (λ b. b && is_accepted_block s.entry) mine ∙ accepted_is true w.0) in
              let lengths = ap length w.1 ∙ length-append state.chain.committed (working state.chain ∷ []) in
              omega arith
        ]
