-- A ledger goes on entry by entry.
use Rattle.std.proofs.Common.{◌≡◌, ◌≢◌, ℕ, true, false, List, [], ◌∷◌, ◌++◌, length, map, take, refl, sym, ap, ◌∙◌, subst, Option, Some, slice_get, append_assoc, ⊎_elim}
use Rattle.std.specs.Prelude.{Result, Ok, Err, OnOk, IfOk, IfErr, IfSome}
use Rattle.std.specs.List.{All}
use Rattle.std.proofs.lemmas.Bool.{false≢true}
use Rattle.std.proofs.lemmas.List.{map-append}
use Rattle.std.proofs.lemmas.List.Elements.{All-nil, All-push}
use Rattle.std.proofs.Math.Seq.{take-append_seam}
use Rattle.ibc_wire.specs.declared.header.Header.{Header}
use Rattle.ibc_machine.specs.declared.event.Event.{Event}
use Rattle.ibc_machine.specs.declared.entry.Entry.{Entry}
use Rattle.ibc_machine.specs.declared.entry.Reading.{Reading}
use Rattle.ibc_machine.specs.chain.Genesis.{GenesisState}
use Rattle.ibc_machine.specs.ledger.Replay.{StampedEntry}
use Rattle.ibc_machine.specs.ledger.Ledgers.{Ledger, IsLedger, AddsNext, header_in}
use Rattle.ibc_machine.specs.promises.Worlds.{entries}
use Rattle.ibc_ledger.specs.HistoryGrowth.{AddsOrNot}
use Rattle.ibc_ledger.specs.LedgerModel.{LedgerModel, abstract_entry}
use Rattle.ibc_ledger.specs.declared.entry.StampedEntry.{StampedEntry as KeptEntry}
use Rattle.ibc_refinement.specs.Steps.{is_answered}
use Rattle.ibc_refinement.proofs.ChangedPlaces.{get_last, get_more}
use Rattle.ibc_replay.specs.declared.replaying.Answered.{Answered}
use Rattle.ibc_chain_replay.specs.declared.replaying.ChainDifference.{ChainDifference}
use Rattle.ibc_chain_replay.specs.declared.replaying.ChainDifference.TheVariants.{NoGenesis, NoMemory, At, NotPublished, OtherChain}
use Rattle.ibc_replay.specs.Replays.{entry_of, IsLastReading}
use Rattle.ibc_chain_replay.specs.ChainReplays.{Heights, ReadsHeader, ReadsPublished, ReadsTooMany, IsChainReplay, HasHistory, AgreesUpTo, DiffersBy, AddsRead, StopsAtEntry}
use Rattle.ibc_chain_replay.proofs.ChainStates.{same_state}
use Rattle.ibc_chain_replay.proofs.ForcedReplies.{forced}

-- ---- one entry

same_entries : (history : List KeptEntry) → map (λ (e : StampedEntry). e.entry) (map abstract_entry history) ≡ map (λ (e : KeptEntry). e.entry) history
same_entries [] = refl
same_entries (e ∷ history) = ap (λ l. e.entry ∷ l) (same_entries history)

adds_next : (published : Heights) (old new : Ledger) (event : Event) (due : Answered) (history : List KeptEntry) → AddsNext old event due.reply new → IsLedger new
    → map abstract_entry history ≡ new.history → IsLastReading (map (λ (e : KeptEntry). e.entry) history) due.reading → ReadsPublished published (entry_of event due)
    → AddsRead published old (entry_of event due) new
adds_next published old new event due history adds is told last read =
    let e : StampedEntry = adds.0 in
    let kept : entries new ≡ entries old ++ e.entry ∷ [] = ap entries adds.4 ∙ map-append (λ (x : StampedEntry). x.entry) old.history (e ∷ []) in
    let same : map (λ (x : KeptEntry). x.entry) history ≡ entries new = sym (same_entries history) ∙ ap (map (λ (x : StampedEntry). x.entry)) told in
    let reading : due.reading ≡ e.entry.reading = last (entries old) e.entry (same ∙ kept) in
    let entry : e.entry ≡ entry_of event due = λ i. record { event = adds.2 i; reply = adds.3 i; reading = sym reading i } in
    record {
      of = ap (λ (l : Ledger). l.genesis) adds.4;
      number = ap (λ (l : Ledger). l.chain) adds.4;
      kept = kept ∙ ap (λ (x : Entry). entries old ++ x ∷ []) entry;
      is = is;
      read = read;
    }

-- what was answered is the last entry
pub adds_read : (published : Heights) (old new : Ledger) (event : Event) (due : Answered) (history : List KeptEntry) → AddsOrNot old event due.reply new → is_answered due.reply ≡ true → IsLedger new
    → map abstract_entry history ≡ new.history → IsLastReading (map (λ (e : KeptEntry). e.entry) history) due.reading → ReadsPublished published (entry_of event due)
    → AddsRead published old (entry_of event due) new
adds_read published old new event due history adds answered is told last read = ⊎_elim
    (λ w. absurd (false≢true (sym (ap is_answered w.0) ∙ answered)))
    (λ w. adds_next published old new event due history w.1 is told last read)
    adds

-- what a header that is brought reads
pub reads_published : (published : Heights) (event : Event) (due : Answered) (header : Option Header) → header ≡ header_in event
    → IfSome due.reading (λ (r : Reading). IfSome header (λ h. ReadsHeader published due.reply h r)) → ReadsPublished published (entry_of event due)
reads_published published event due header same reads =
    subst (λ (o : Option Header). IfSome due.reading (λ (r : Reading). IfSome o (λ h. ReadsHeader published due.reply h r))) same reads

-- ---- one after another

pub begins : (published : Heights) (ledger : Ledger) → ledger.history ≡ [] → IsLedger ledger → HasHistory ledger.genesis ledger.chain published [] ledger
begins published ledger none is = record {
  of = refl;
  number = refl;
  kept = ap (map (λ (x : StampedEntry). x.entry)) none;
  is = is;
  read = All-nil (ReadsPublished published);
}

module _ (genesis : GenesisState) (chain : ℕ) (published : Heights) where
  pub goes_on : (done : List Entry) (e : Entry) (mid new : Ledger) → HasHistory genesis chain published done mid → AddsRead published mid e new → HasHistory genesis chain published (done ++ e ∷ []) new
  goes_on done e mid new so_far next = record {
    of = next.of ∙ so_far.of;
    number = next.number ∙ so_far.number;
    kept = next.kept ∙ ap (λ l. l ++ e ∷ []) so_far.kept;
    is = next.is;
    read = All-push (ReadsPublished published) done e so_far.read next.read;
  }

  -- ---- where it stops

  module _ (mid new : Ledger) (done rest all : List Entry) (entry : Entry) (so_far : HasHistory genesis chain published done mid) (whole : done ++ entry ∷ rest ≡ all) where
    done_is : (place : ℕ) → place ≡ length done → take place all ≡ done
    done_is place at = ap (λ n. take n all) at ∙ ap (take (length done)) (sym whole) ∙ take-append_seam done (entry ∷ rest)

    entry_is : (place : ℕ) → place ≡ length done → slice_get all place ≡ Some entry
    entry_is place at =
        ap (slice_get all) at
        ∙ ap (λ l. slice_get l (length done)) (sym (append_assoc done (entry ∷ []) rest ∙ whole))
        ∙ get_more (done ++ entry ∷ []) rest (length done) entry (get_last done entry)

    is_up_to : (place : ℕ) (stored : Answered) → place ≡ length done → entry ≡ entry_of entry.event stored → AgreesUpTo genesis chain published all place entry.event stored mid
    is_up_to place stored at is = record {
      is = subst (λ l. HasHistory genesis chain published l mid) (sym (done_is place at)) so_far;
      next = entry_is place at ∙ ap Some is;
    }

    pub stops_at : (here : ℕ) (why : ChainDifference) → here ≡ length done → StopsAtEntry published mid here entry why new → DiffersBy genesis chain published all why
    stops_at here (At place due stored) at why =
        let there = why.0 ∙ at in
        let front = done_is place there in
        let next = subst (λ l. HasHistory genesis chain published (l ++ entry_of entry.event due ∷ []) new) (sym front) (goes_on done (entry_of entry.event due) mid new so_far why.2) in (
          entry.event,
          mid,
          new,
          is_up_to place stored there why.1,
          next,
          why.3,
          forced genesis chain published (take place all) entry.event due stored new next why.3,
        )
    stops_at here (NotPublished place stored) at why =
        let there = why.0 ∙ at in
        (entry.event, mid, is_up_to place stored there why.1, subst (ReadsTooMany published) why.1 why.2)
    stops_at here (OtherChain place stored) at why =
        let there = why.0 ∙ at in
        (entry.event, mid, is_up_to place stored there why.1, λ same. why.2 (same ∙ sym so_far.number))
    stops_at here NoMemory at why = tt
    stops_at here NoGenesis at none = absurd none

-- ---- what is due beside what is stored

module _ (published : Heights) (old new : Ledger) (event : Event) (due stored : Answered) (r : Result (Unit {0}) ChainDifference) (adds : AddsRead published old (entry_of event due) new) where
  pub taken : OnOk r (due ≡ stored) → OnOk r (AddsRead published old (entry_of event stored) new)
  taken same = each r same
    where
      each : (x : Result (Unit {0}) ChainDifference) → OnOk x (due ≡ stored) → OnOk x (AddsRead published old (entry_of event stored) new)
      each (Ok x) same = subst (λ a. AddsRead published old (entry_of event a) new) same adds
      each (Err why) same = tt

  pub refused : (here : ℕ) → IfErr r (λ why. (why ≡ At here due stored) × (due ≢ stored)) → IfErr r (λ why. StopsAtEntry published old here (entry_of event stored) why new)
  refused here told = each r told
    where
      each : (x : Result (Unit {0}) ChainDifference) → IfErr x (λ why. (why ≡ At here due stored) × (due ≢ stored)) → IfErr x (λ why. StopsAtEntry published old here (entry_of event stored) why new)
      each (Ok x) told = tt
      each (Err why) told = subst (λ w. StopsAtEntry published old here (entry_of event stored) w new) (sym told.0) (refl, refl, adds, told.1)

-- ---- whole lists

module _ (genesis : GenesisState) (chain : ℕ) (published : Heights) (list : List Entry) where
  pub of_this : (g : GenesisState) (k : ℕ) (r : Result LedgerModel ChainDifference) → g ≡ genesis → k ≡ chain → IfOk r (λ (after : LedgerModel). HasHistory g k published list after.ledger)
      → IfOk r (λ (after : LedgerModel). HasHistory genesis chain published list after.ledger)
  of_this g k r same number is = subst (λ (p : GenesisState × ℕ). IfOk r (λ (after : LedgerModel). HasHistory p.0 p.1 published list after.ledger)) (λ i. (same i, number i)) is

  pub stops_of_this : (g : GenesisState) (k : ℕ) (r : Result LedgerModel ChainDifference) → g ≡ genesis → k ≡ chain → IfErr r (DiffersBy g k published list) → IfErr r (DiffersBy genesis chain published list)
  stops_of_this g k r same number stops = subst (λ (p : GenesisState × ℕ). IfErr r (DiffersBy p.0 p.1 published list)) (λ i. (same i, number i)) stops

  pub is_replay : (r : Result LedgerModel ChainDifference) → IfOk r (λ (after : LedgerModel). HasHistory genesis chain published list after.ledger)
      → IfOk r (λ (after : LedgerModel). IsChainReplay genesis chain published list after.ledger)
  is_replay (Ok after) is = record {
    is = is;
    state = λ stored is_stored of number keeps. same_state stored after.ledger (of ∙ sym is.of) (number ∙ sym is.number) is_stored is.is (keeps ∙ sym is.kept);
  }
  is_replay (Err why) is = tt

  pub is_no_replay : (r : Result LedgerModel ChainDifference) → IfErr r (DiffersBy genesis chain published list) → IfErr r (λ why. why ≢ NoGenesis → DiffersBy genesis chain published list why)
  is_no_replay (Ok after) stops = tt
  is_no_replay (Err why) stops = λ some. stops

  pub begins_so : (r : Result LedgerModel ChainDifference) → IfErr r (DiffersBy genesis chain published list) → r ≡ Err NoGenesis → ⊥
  begins_so r stops is = subst (λ (x : Result LedgerModel ChainDifference). IfErr x (DiffersBy genesis chain published list)) is stops
