-- The next entry of a merged list is a step of the machine, to a world in which all ledgers have gone on.
use Rattle.std.proofs.Common.{◌≡◌, ℕ, ◌<◌, ◌≤◌, true, false, eqb, List, [], ◌∷◌, ◌++◌, length, map, filter, refl, sym, ap, ◌∙◌, subst, Some, slice_get, slice_set, arith, eqb-true, eq-eqb, inr, append_assoc}
use Rattle.std.proofs.lemmas.List.{map-append}
use Rattle.std.specs.List.{AllByRecursion}
use Rattle.std.proofs.lemmas.Bool.{false≢true}
use Rattle.ibc_ids.specs.declared.publication.Publication.{Publication}
use Rattle.ibc_machine.specs.declared.entry.Entry.{Entry}
use Rattle.ibc_machine.specs.chain.Genesis.{GenesisState}
use Rattle.ibc_machine.specs.chain.Machine.{World, Answers}
use Rattle.ibc_machine.specs.ledger.Replay.{LedgerState, StampedEntry, entry_answer, replay, met_states, starting_state}
use Rattle.ibc_machine.specs.ledger.Ledgers.{Ledger, IsOwnEntry, chain_of, met_by, state_of}
use Rattle.ibc_machine.specs.ics23.HashedTexts.{HasNoClash}
use Rattle.ibc_machine.specs.ledger.Merge.{is_of_chain, ReadingFitsBefore}
use Rattle.ibc_machine.proofs.Members.{Is_in}
use Rattle.ibc_refinement.proofs.ChangedPlaces.{get_set, get_set_other, get_within, length_set}
use Rattle.ibc_refinement.proofs.LedgerSteps.{oldest_of}
use Rattle.ibc_refinement.proofs.EntrySteps.{ledger_of, own_typed, replay_more}
use Rattle.ibc_refinement.proofs.Hashed.{Among}
use Rattle.ibc_refinement.proofs.RunStates.{Runs, AllRun, AreOfWorld, IsLedgerAt, ledger_at}
use Rattle.ibc_refinement.proofs.RunKnows.{Extends, knows_on, SeesForEvent, answer_knows}
use Rattle.ibc_refinement.proofs.RunStep.{blocks_apart, sees_for, answers}
use Rattle.ibc_refinement.proofs.RunNext.{begins_with, own_first, own_last, other_first, other_last, commits, events_among, next_fit, goes_on, next_blocks}

-- a step of the machine by an entry, and the world after it
pub record StepsOn (genesis : GenesisState) (ledgers : List Ledger) (world : World) (before rest : List Entry) (e : Entry) : Type 0 where
  pub after : World
  pub answers : Answers genesis world e.event e.reply after
  pub run : AllRun genesis ledgers after (before ++ e ∷ []) rest

module _ (genesis : GenesisState) (ledgers : List Ledger) (publications : List Publication) (are : AreOfWorld genesis ledgers publications) (clash : HasNoClash ledgers) where
  module _ (world : World) (before rest : List Entry) (s : StampedEntry) (later : List StampedEntry) (run : AllRun genesis ledgers world before (s.entry ∷ rest))
      (reads : ReadingFitsBefore genesis.window before s.entry) (at : IsLedgerAt genesis ledgers (chain_of s.entry.event)) where
    abbrev k : ℕ
    k = chain_of s.entry.event

    abbrev ledger : Ledger
    ledger = ledger_of genesis k at.history at.seen

    module _ (r : Runs (Among ledgers) genesis world before (s.entry ∷ rest) k at.history at.seen) (own : AllByRecursion (IsOwnEntry ledger) (met_states genesis k at.seen r.state (s ∷ later)))
        (met : (x : LedgerState × StampedEntry) → Is_in x (met_states genesis k at.seen r.state (s ∷ later)) → Is_in x (met_by ledger))
        (ends : replay genesis k at.seen r.state (s ∷ later) ≡ state_of ledger) (remaining : map (λ (s : StampedEntry). s.entry) later ≡ filter (is_of_chain k) rest)
        (parts : at.history ≡ r.done ++ s ∷ later) where
      abbrev after_k : LedgerState
      after_k = (entry_answer genesis k at.seen r.state s).1

      abbrev after : World
      after = slice_set world k after_k.chain

      sees : SeesForEvent genesis.window world at.seen s.entry.reading r.state s.entry.event
      sees = sees_for genesis ledgers publications are clash world before (s.entry ∷ rest) run k ledger r.state s at.there own.0.looking own.0.reading reads s.entry.event refl

      machine_answers : Answers genesis world s.entry.event s.entry.reply after
      machine_answers = (
        oldest_of s.entry.reading,
        answers genesis ledgers publications are clash world before (s.entry ∷ rest) run k at.seen s.entry.reading r.state s.entry.event refl r.there r.knows r.typed (own_typed ledger r.state s own.0) sees
            (events_among genesis ledgers publications are clash world before rest k s later run at r.state r.there own met ends r.typed)
            ∙ (λ i. (sym own.0.reply i, after)),
      )

      extends : Extends world after
      extends = goes_on genesis ledgers publications are clash world before rest k s later run at r.state r.there own met ends r.typed

      mine : is_of_chain k s.entry ≡ true
      mine = eq-eqb k k refl

      runs_k : Runs (Among ledgers) genesis after (before ++ s.entry ∷ []) rest k at.history at.seen
      runs_k = record {
        state = after_k;
        done = r.done ++ s ∷ [];
        left = later;
        whole = parts ∙ sym (append_assoc r.done (s ∷ []) later);
        replayed = replay_more genesis k at.seen (starting_state genesis k) r.done s ∙ ap (λ (state : LedgerState). (entry_answer genesis k at.seen state s).1) r.replayed;
        consumed = map-append (λ (s : StampedEntry). s.entry) r.done (s ∷ []) ∙ ap (λ xs. xs ++ s.entry ∷ []) r.consumed ∙ sym (own_last k before s.entry mine);
        there = get_set world k after_k.chain (get_within world k r.state.chain r.there);
        remaining = remaining;
        own = own.1;
        met = λ x i. met x (inr i);
        ends = ends;
        typed = (commits genesis ledgers publications are clash world before rest k s later run at r.state r.there own met ends r.typed).typed;
        fit = next_fit genesis ledgers publications are clash world before rest k s later run at r.state r.there own met ends r.typed r.fit;
        blocks = next_blocks genesis ledgers publications are clash world before rest k s later run at r.state r.there own met ends r.typed mine r.blocks;
        knows = knows_on world after after_k.chain.records.core after_k.consensus extends
            (answer_knows genesis k world at.seen s.entry.reading r.state s.entry.event r.typed (own_typed ledger r.state s own.0) sees r.knows);
      }

      runs_other : (j : ℕ) (history : List StampedEntry) (seen : List Publication) → (k ≡ j → ⊥) → Runs (Among ledgers) genesis world before (s.entry ∷ rest) j history seen
          → Runs (Among ledgers) genesis after (before ++ s.entry ∷ []) rest j history seen
      runs_other j history seen apart o = record {
        state = o.state;
        done = o.done;
        left = o.left;
        whole = o.whole;
        replayed = o.replayed;
        consumed = o.consumed ∙ sym (other_last j before s.entry (not_of j apart));
        there = get_set_other world k j after_k.chain apart ∙ o.there;
        remaining = o.remaining ∙ other_first j s.entry rest (not_of j apart);
        own = o.own;
        met = o.met;
        ends = o.ends;
        typed = o.typed;
        fit = o.fit;
        blocks = o.blocks ∙ sym (blocks_apart j before s.entry (not_of j apart));
        knows = knows_on world after o.state.chain.records.core o.state.consensus extends o.knows;
      }
        where
          not_of : (j : ℕ) → (k ≡ j → ⊥) → is_of_chain j s.entry ≡ false
          not_of j apart = elim (eqb k j) as (λ b. eqb k j ≡ b → b ≡ false) [ true ↦ λ is. absurd (apart (eqb-true k j is)) | false ↦ λ _. refl ] refl

      -- the same ledger
      runs_for : (j : ℕ) (history : List StampedEntry) (seen : List Publication) → k ≡ j → slice_get ledgers j ≡ Some (ledger_of genesis j history seen)
          → Runs (Among ledgers) genesis after (before ++ s.entry ∷ []) rest j history seen
      runs_for j history seen same there =
          let both : Some ledger ≡ Some (ledger_of genesis j history seen) = sym at.there ∙ ap (slice_get ledgers) same ∙ there in
          let one : ledger ≡ ledger_of genesis j history seen = cc in
          subst (λ (l : Ledger). Runs (Among ledgers) genesis after (before ++ s.entry ∷ []) rest l.chain l.history l.seen) one runs_k

      pub steps_on : StepsOn genesis ledgers world before rest s.entry
      steps_on = record {
        after = after;
        answers = machine_answers;
        run = record {
          as_many = length_set world k after_k.chain ∙ run.as_many;
          each = λ j history seen there.
              elim (eqb k j) as (λ b. eqb k j ≡ b → Runs (Among ledgers) genesis after (before ++ s.entry ∷ []) rest j history seen) [
                | true ↦ λ is. runs_for j history seen (eqb-true k j is) there
                | false ↦ λ is. runs_other j history seen (λ e. false≢true (sym is ∙ eq-eqb k j e)) (run.each j history seen there)
              ] refl;
          others = λ j past. blocks_apart j before s.entry (beyond j past) ∙ run.others j past;
        };
      }
        where
          beyond : (j : ℕ) → length ledgers ≤ j → is_of_chain j s.entry ≡ false
          beyond j past =
              elim (eqb k j) as (λ b. eqb k j ≡ b → b ≡ false) [
                | true ↦ λ is. let same = eqb-true k j is in let low = get_within ledgers k ledger at.there in absurd (omega arith)
                | false ↦ λ _. refl
              ] refl

  pub next_step : (world : World) (before rest : List Entry) (e : Entry) → AllRun genesis ledgers world before (e ∷ rest) → ReadingFitsBefore genesis.window before e → chain_of e.event < length ledgers
      → StepsOn genesis ledgers world before rest e
  next_step world before rest e run reads within =
      let at = ledger_at genesis ledgers are.of (chain_of e.event) within in
      let r = run.each (chain_of e.event) at.history at.seen at.there in
      let b = begins_with e (filter (is_of_chain (chain_of e.event)) rest) r.left (r.remaining ∙ own_first (chain_of e.event) e rest (eq-eqb (chain_of e.event) (chain_of e.event) refl)) in
      by_entry b.first b.later e b.entry run reads at r b.whole b.remaining
    where
      by_entry : (s : StampedEntry) (later : List StampedEntry) (e : Entry) → s.entry ≡ e → (run : AllRun genesis ledgers world before (e ∷ rest)) → ReadingFitsBefore genesis.window before e
          → (at : IsLedgerAt genesis ledgers (chain_of e.event)) (r : Runs (Among ledgers) genesis world before (e ∷ rest) (chain_of e.event) at.history at.seen) → r.left ≡ s ∷ later
          → map (λ (s : StampedEntry). s.entry) later ≡ filter (is_of_chain (chain_of e.event)) rest → StepsOn genesis ledgers world before rest e
      by_entry s later e same =
          subst (λ (e : Entry). (run : AllRun genesis ledgers world before (e ∷ rest)) → ReadingFitsBefore genesis.window before e
          → (at : IsLedgerAt genesis ledgers (chain_of e.event)) (r : Runs (Among ledgers) genesis world before (e ∷ rest) (chain_of e.event) at.history at.seen) → r.left ≡ s ∷ later
          → map (λ (s : StampedEntry). s.entry) later ≡ filter (is_of_chain (chain_of e.event)) rest → StepsOn genesis ledgers world before rest e) same
          (λ run reads at r whole remaining.
          let L = ledger_of genesis (chain_of s.entry.event) at.history at.seen in
          steps_on world before rest s later run reads at r
          (subst (λ l. AllByRecursion (IsOwnEntry L) (met_states genesis (chain_of s.entry.event) at.seen r.state l)) whole r.own)
          (subst (λ l. (x : LedgerState × StampedEntry) → Is_in x (met_states genesis (chain_of s.entry.event) at.seen r.state l) → Is_in x (met_by L)) whole r.met)
          (ap (replay genesis (chain_of s.entry.event) at.seen r.state) (sym whole) ∙ r.ends)
          remaining (r.whole ∙ ap (λ l. r.done ++ l) whole))
