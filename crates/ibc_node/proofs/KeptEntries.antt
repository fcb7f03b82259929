-- What a world has kept of an event is what its journal keeps.
use Rattle.std.proofs.Common.{◌≡◌, ℕ, ◌+◌, ◌<◌, ◌^◌, ◌&&◌, nat_lt, true, cond, List, [], ◌∷◌, ◌++◌, length, map, filter, refl, sym, ap, ◌∙◌, subst, Some, Result, Ok, Err, IfOk, ◌⊎◌, inl, inr, slice_get, arith, eq-eqb, lt-ltb}
use Rattle.std.proofs.lemmas.Bool.{and_from}
use Rattle.std.specs.Prelude.{IsTrue}
use Rattle.ibc_ids.specs.declared.refusal.Refusal.{Refusal}
use Rattle.ibc_ids.specs.declared.refusal.Refusal.TheVariants.{BadMessage, NoMemory}
use Rattle.ibc_wire.specs.Fields.{be64, have_form}
use Rattle.std.proofs.lemmas.List.Elements.{filter-append}
use Rattle.ibc_machine.specs.declared.event.Event.{Event}
use Rattle.ibc_machine.specs.declared.reply.Reply.{Reply}
use Rattle.ibc_machine.specs.declared.entry.Entry.{Entry}
use Rattle.ibc_machine.specs.ledger.Replay.{StampedEntry}
use Rattle.ibc_machine.specs.ledger.Ledgers.{Ledger, chain_of}
use Rattle.ibc_machine.specs.ledger.Merge.{is_of_chain}
use Rattle.ibc_machine.specs.promises.Worlds.{entries}
use Rattle.ibc_ledger.specs.LedgerModel.{abstract_entry}
use Rattle.ibc_ledger.specs.declared.entry.StampedEntry.{StampedEntry as KeptEntry}
use Rattle.ibc_refinement.specs.World.{WorldState, kept_entries, IsWorld}
use Rattle.ibc_refinement.specs.Steps.{IsStep, GoesOnBy, is_answered}
use Rattle.ibc_refinement.proofs.ChangedPlaces.{get_there}
use Rattle.ibc_refinement.proofs.world.Nothing.{history_at}
use Rattle.ibc_replay.proofs.StoredSteps.{adds_just}
use Rattle.ibc_entry_codec.specs.declared.stored.EntryBytes.{EntryBytes}
use Rattle.ibc_entry_codec.specs.Stored.{StoresEntry, event_fields}
use Rattle.ibc_journal.specs.declared.entry.JournalEntry.{JournalEntry}
use Rattle.ibc_journal.specs.Entries.{item}
use Rattle.ibc_journal.specs.Digests.{digest_after}
use Rattle.ibc_journal.specs.Tables.{JournalItem}
use Rattle.ibc_node.specs.Kept.{bytes_in, KeepsItem, IsLastEntry, StoresLast, KeepsLast, WhyNotKept}

-- a time of 64 bits has its form
pub time_form : (time : ℕ) → time < 2 ^ 64 → IsTrue (have_form (be64 time ∷ []))
time_form time small = and_from (nat_lt time (2 ^ 64) && true) true (and_from (nat_lt time (2 ^ 64)) true (lt-ltb time (2 ^ 64) small) refl) refl

-- the entry that a world kept last is the last of its chain
last_of_chain : (old new : WorldState) (e : Entry) (ledger : Ledger) → IsWorld new → kept_entries new ≡ kept_entries old ++ e ∷ []
    → slice_get new.ledgers (chain_of e.event) ≡ Some ledger → entries ledger ≡ filter (is_of_chain (chain_of e.event)) (kept_entries old) ++ e ∷ []
last_of_chain old new e ledger is kept there =
    let k = chain_of e.event in
    sym (is.merges.each k (entries ledger) (history_at new.ledgers k ledger there))
    ∙ ap (filter (is_of_chain k)) kept
    ∙ filter-append (is_of_chain k) (kept_entries old) (e ∷ [])
    ∙ ap (λ b. filter (is_of_chain k) (kept_entries old) ++ cond b (e ∷ []) []) (eq-eqb k k refl)

pub keeps_item : (old new : WorldState) (event : Event) (reply : Reply) (before : List ℕ) (it : JournalItem) → GoesOnBy old (event ∷ []) (reply ∷ []) new → IsStep old event reply new
    → chain_of event < length old.ledgers → is_answered reply ≡ true → KeepsLast new (chain_of event) before it → KeepsItem old before event reply it new
keeps_item old new event reply before it runs step low answered last =
    let w = adds_just old new event reply runs low answered in
    let k = chain_of event in
    let same : chain_of w.entry.event ≡ k = ap chain_of w.event_is in
    let at = get_there new.ledgers k (omega (arith, low, step.as_many)) in
    let there = ap (slice_get new.ledgers) same ∙ at.1 in
    record {
      entry = w.entry;
      event_is = w.event_is;
      reply_is = w.reply_is;
      steps = (new, step, refl);
      kept = w.kept;
      stored = last.stored at.0 at.1 (filter (is_of_chain (chain_of w.entry.event)) (kept_entries old)) w.entry (last_of_chain old new w.entry at.0 runs.is w.kept there);
      due = last.due;
    }

pub keeps_last : {E : Type 0} (world : WorldState) (chain : ℕ) (before : List ℕ) (stored : EntryBytes) (r : Result JournalEntry E) → StoresLast world chain stored
    → IfOk r (λ e. bytes_in (item e) ≡ stored) → IfOk r (λ e. (item e).digest ≡ digest_after before (item e)) → IfOk r (λ e. KeepsLast world chain before (item e))
keeps_last world chain before stored (Ok e) last is due = record { stored = subst (StoresLast world chain) (sym is) last; due = due }
keeps_last world chain before stored (Err e) last is due = tt

pub why_not_spelt : (old : WorldState) (event : Event) (refusal : Refusal) → (refusal ≡ BadMessage) ⊎ (refusal ≡ NoMemory) → (refusal ≡ BadMessage → ¬ IsTrue (have_form (event_fields event))) → WhyNotKept old event refusal
why_not_spelt old event refusal (inl is) bad = subst (WhyNotKept old event) (sym is) (bad is)
why_not_spelt old event refusal (inr is) bad = subst (WhyNotKept old event) (sym is) tt

same_entries : (history : List KeptEntry) → map (λ (e : StampedEntry). e.entry) (map abstract_entry history) ≡ map (λ (e : KeptEntry). e.entry) history
same_entries [] = refl
same_entries (e ∷ history) = ap (λ l. e.entry ∷ l) (same_entries history)

pub stores_last : (world : WorldState) (k : ℕ) (l : Ledger) (history : List KeptEntry) (e : Entry) (stored : EntryBytes) → Some l ≡ slice_get world.ledgers k → map abstract_entry history ≡ l.history
    → IsLastEntry (map (λ (x : KeptEntry). x.entry) history) (Some e) → StoresEntry e stored → StoresLast world k stored
stores_last world k l history e stored there is lasts stores ledger at front last list =
    let both : Some l ≡ Some ledger = there ∙ at in
    let one : l ≡ ledger = cc in
    let same : map (λ (x : KeptEntry). x.entry) history ≡ entries ledger = sym (same_entries history) ∙ ap (map (λ (x : StampedEntry). x.entry)) is ∙ ap entries one in
    let found : Some e ≡ Some last = lasts front last (same ∙ list) in
    let it : e ≡ last = cc in
    subst (λ (x : Entry). StoresEntry x stored) it stores
