-- A ledger shows what it showed after its last block.
use Rattle.std.proofs.Common.{◌≡◌, ◌∙◌, ◌++◌, ◌∷◌, [], List, ℕ, zero, suc, ◌≤◌, ◌<◌, Bool, true, false, Option, Some, None, refl, ap, sym, subst, arith, length, length-append, take, slice_get, option_map, unwrap_or, inl, inr}
use Rattle.std.specs.List.{AllByRecursion, last_or}
use Rattle.std.proofs.lemmas.Bool.{false≢true}
use Rattle.std.proofs.lemmas.Option.{slice_get-map}
use Rattle.ibc_machine.specs.chain.Genesis.{GenesisState, start, starting_chain, empty_core}
use Rattle.ibc_machine.specs.chain.Records.{Block, MachineChain}
use Rattle.ibc_machine.specs.ics18.Relay.{view_at, view_of}
use Rattle.ibc_machine.specs.ledger.Ledgers.{Ledger, IsLedger, IsOwnEntry, is_accepted_block, is_block_reply, state_of}
use Rattle.ibc_machine.specs.ledger.Replay.{LedgerState, StampedEntry, empty_chain, entry_answer, met_states, replay, starting_state}
use Rattle.ibc_refinement.proofs.ChangedPlaces.{get_there}
use Rattle.ibc_refinement.proofs.EntryEnds.{answer_ends}
use Rattle.ibc_refinement.proofs.EntrySteps.{answer_commits, own_typed}
use Rattle.ibc_refinement.proofs.MergedRun.{typed_start}
use Rattle.ibc_refinement.proofs.SeenMore.{replay_stays}
use Rattle.ibc_refinement.proofs.Typed.{IsTyped}
use Rattle.ibc_ledger_lock.specs.ReceiptsAndReadings.{HasShown, IsEarlier, ends_a_block}

-- what is shown stays, where the working block goes on
same_view : (k : ℕ) (old new : MachineChain) → new.time ≡ old.time → new.committed ≡ old.committed → view_of k new ≡ view_of k old
same_view k old new time committed = ap (λ l. view_at k new (last_or None l)) committed ∙ at (last_or None old.committed)
  where
    at : (o : Option Block) → view_at k new o ≡ view_at k old o
    at None = λ i. record { chain = k; height = 0; time = 0; working_time = time i; core = empty_core }
    at (Some last) = λ i. record { chain = k; height = length (committed i); time = last.time; working_time = time i; core = last.records.core }

typed_first : (genesis : GenesisState) (k : ℕ) → k < length genesis.chains → IsTyped (starting_state genesis k).chain.records.core
typed_first genesis k low =
    let c = get_there genesis.chains k low in
    let first : slice_get (start genesis) k ≡ Some (starting_chain c.0) = slice_get-map starting_chain genesis.chains k ∙ ap (option_map starting_chain) c.1 in
    subst (λ (x : MachineChain). IsTyped x.records.core) (sym (ap (λ o. unwrap_or o empty_chain) first)) typed_start

module _ (ledger : Ledger) where
  abbrev after : LedgerState → List StampedEntry → LedgerState
  after = replay ledger.genesis ledger.chain ledger.seen

  abbrev AreOwn : LedgerState → List StampedEntry → Type 0
  AreOwn state history = AllByRecursion (IsOwnEntry ledger) (met_states ledger.genesis ledger.chain ledger.seen state history)

  own_first : (n : ℕ) (state : LedgerState) (history : List StampedEntry) → AreOwn state history → AreOwn state (take n history)
  own_first zero state history own = tt
  own_first (suc n) state [] own = tt
  own_first (suc n) state (e ∷ history) own =
      (own.0, own_first n (entry_answer ledger.genesis ledger.chain ledger.seen state e).1 history own.1)

  -- after some of these entries, which end a block, the same was shown
  abbrev Showed : LedgerState → List StampedEntry → Type 0
  Showed state history = (n : ℕ) × (n ≤ length history) × (ends_a_block (take n history) ≡ true)
      × (view_of ledger.chain (after state history).chain ≡ view_of ledger.chain (after state (take n history)).chain)

  module _ (state : LedgerState) (e : StampedEntry) (history : List StampedEntry) (typed : IsTyped state.chain.records.core) (own : IsOwnEntry ledger (state, e)) where
    abbrev next : LedgerState
    next = (entry_answer ledger.genesis ledger.chain ledger.seen state e).1

    -- no block was ended by the others
    by_first : view_of ledger.chain (after next history).chain ≡ view_of ledger.chain next.chain → (accepted : Bool) → is_accepted_block e.entry ≡ accepted → Showed state (e ∷ history)
    by_first same true is = (1, omega arith, is, same)
    by_first same false is =
        elim (answer_ends ledger.genesis ledger.chain ledger.seen e.entry.reading state e.entry.event typed (own_typed ledger state e own)) [
          | inl goes ↦ (0, omega arith, refl, same ∙ same_view ledger.chain state.chain next.chain goes.1 goes.2)
          | inr ends ↦ absurd (false≢true (sym is ∙ ap is_block_reply (own.reply ∙ ends.reply_is)))
        ]

    with_first : (n : ℕ) (more : List StampedEntry) → n ≤ length more → ends_a_block (take n more) ≡ true
        → view_of ledger.chain (after next more).chain ≡ view_of ledger.chain (after next (take n more)).chain → more ≡ history → Showed state (e ∷ history)
    with_first zero more low ends same is =
        by_first (subst (λ l. view_of ledger.chain (after next l).chain ≡ view_of ledger.chain next.chain) is same) (is_accepted_block e.entry) refl
    with_first (suc n) [] low ends same is = absurd (omega arith)
    with_first (suc n) (x ∷ more) low ends same is = subst (λ l. Showed state (e ∷ l)) is (suc (suc n), omega arith, ends, same)

  showed : (state : LedgerState) (history : List StampedEntry) → IsTyped state.chain.records.core → AreOwn state history → Showed state history
  showed state [] typed own = (0, omega arith, refl, refl)
  showed state (e ∷ history) typed own =
      let done = answer_commits ledger.genesis ledger.chain ledger.seen e.entry.reading state e.entry.event typed (own_typed ledger state e own.0) in
      let rest = showed (entry_answer ledger.genesis ledger.chain ledger.seen state e).1 history done.typed own.1 in
      with_first state e history typed own.0 rest.0 history rest.1 rest.2 rest.3 refl

take_more : {A : Type 0} (n : ℕ) (xs ys : List A) → n ≤ length xs → take n (xs ++ ys) ≡ take n xs
take_more zero xs ys low = refl
take_more (suc n) [] ys low = absurd (omega arith)
take_more (suc n) (x ∷ xs) ys low = ap (λ l. x ∷ l) (take_more n xs ys (omega arith))

-- what a ledger showed once, it showed after one of its blocks, or in the beginning
pub has_shown : (old new : Ledger) → IsLedger old → IsEarlier old new → HasShown new (view_of old.chain (state_of old).chain)
has_shown old new is (entries, more, same) =
    let start = starting_state old.genesis old.chain in
    let w = showed old start old.history (typed_first old.genesis old.chain is.number) is.entries in
    let low : w.0 ≤ length (old.history ++ entries) = omega (arith, w.1, length-append old.history entries) in
    let front : take w.0 (old.history ++ entries) ≡ take w.0 old.history = take_more w.0 old.history entries w.1 in
    let still : replay old.genesis old.chain (old.seen ++ more) start (take w.0 (old.history ++ entries)) ≡ replay old.genesis old.chain old.seen start (take w.0 old.history) =
    ap (λ h. replay old.genesis old.chain (old.seen ++ more) start h) front
    ∙ replay_stays old old.chain more start (take w.0 old.history) (own_first old w.0 start old.history is.entries) in
    subst (λ (l : Ledger). HasShown l (view_of old.chain (state_of old).chain)) (sym same)
    (w.0, low, ap ends_a_block front ∙ w.2, w.3 ∙ ap (λ (s : LedgerState). view_of old.chain s.chain) (sym still))
