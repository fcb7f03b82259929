-- A reader that goes on from one entry to the next.
use Rattle.std.proofs.Common.{◌≡◌, ◌⊎◌, inl, inr, ℕ, zero, suc, ◌+◌, ◌≤◌, ◌^◌, List, [], ◌∷◌, ◌++◌, length, take, slice_get, Option, Some, None, Result, Err, refl, sym, ap, subst, length-append, ◌∙◌, arith}
use Rattle.std.proofs.lemmas.List.{take_more, take_all}
use Rattle.std.proofs.lemmas.Option.{slice_get_within, get_or_from_slice_get}
use Rattle.std.specs.Prelude.{option_map}
use Rattle.ibc_journal.specs.Tables.{JournalItem}
use Rattle.ibc_journal.specs.Entries.{item}
use Rattle.ibc_journal.specs.Digests.{first_digest, digest_after, AreChained, last_digest, HasReadTo, HasReadAll, IsDamagedAt, IsFirstDamage}
use Rattle.ibc_journal.specs.Faults.{IsOfReading}
use Rattle.ibc_journal.specs.declared.cursor.Cursor.{Cursor}
use Rattle.ibc_journal.specs.declared.entry.JournalEntry.{JournalEntry}
use Rattle.ibc_journal.specs.declared.fault.JournalFault.{JournalFault}
use Rattle.ibc_journal.specs.declared.fault.JournalFault.TheVariants.{Damaged, Full}

chained_more : (before : List ℕ) (its : List JournalItem) (it : JournalItem) → AreChained before its → it.digest ≡ digest_after (last_digest before its) it → AreChained before (its ++ it ∷ [])
chained_more before [] it chained due = (due, tt)
chained_more before (i ∷ its) it chained due = (chained.0, chained_more i.digest its it chained.1 due)

last_more : (before : List ℕ) (its : List JournalItem) (it : JournalItem) → last_digest before (its ++ it ∷ []) ≡ it.digest
last_more before [] it = refl
last_more before (i ∷ its) it = last_more i.digest its it

-- before the first entry nothing is read
pub reads_nothing : (genesis : List ℕ) (items : List JournalItem) (last : List ℕ) → last ≡ first_digest genesis → HasReadTo genesis items (record { place = 0; last = last })
reads_nothing genesis items last is = record { within = omega arith; chained = tt; last = is }

pub reads_more : (genesis : List ℕ) (items : List JournalItem) (old new : Cursor) (it : JournalItem) → HasReadTo genesis items old → slice_get items old.place ≡ Some it
    → it.digest ≡ digest_after old.last it → new ≡ record { place = old.place + 1; last = it.digest } → HasReadTo genesis items new
reads_more genesis items old new it read there due is =
    let low = slice_get_within items old.place it there in
    let front : take (old.place + 1) items ≡ take old.place items ++ it ∷ [] =
    take_more items old.place it low ∙ ap (λ x. take old.place items ++ x ∷ []) (get_or_from_slice_get items old.place it it there) in
    let due_here : it.digest ≡ digest_after (last_digest (first_digest genesis) (take old.place items)) it = due ∙ ap (λ d. digest_after d it) read.last in
    let chained = chained_more (first_digest genesis) (take old.place items) it read.chained due_here in
    let last = last_more (first_digest genesis) (take old.place items) it in
    subst (HasReadTo genesis items) (sym is) (record {
      within = omega (arith, low);
      chained = subst (AreChained (first_digest genesis)) (sym front) chained;
      last = sym (ap (last_digest (first_digest genesis)) front ∙ last);
    })

-- where there is no other entry, all are read
pub reads_all : (genesis : List ℕ) (items : List JournalItem) (cursor : Cursor) → HasReadTo genesis items cursor → slice_get items cursor.place ≡ None → HasReadAll genesis items cursor
reads_all genesis items cursor read none = (read, end items cursor.place read.within none)
  where
    end : (its : List JournalItem) (k : ℕ) → k ≤ length its → slice_get its k ≡ None → k ≡ length its
    end [] k within none = omega arith
    end (i ∷ its) zero within none = absurd cc
    end (i ∷ its) (suc k) within none = ap suc (end its k (omega (arith, within)) none)

-- behind the last entry one more is read
pub reads_on : (genesis : List ℕ) (items : List JournalItem) (it : JournalItem) (end : Cursor) → HasReadAll genesis items end → it.digest ≡ digest_after end.last it
    → HasReadAll genesis (items ++ it ∷ []) (record { place = end.place + 1; last = it.digest })
reads_on genesis items it end all due =
    let before = first_digest genesis in
    let long = length-append items (it ∷ []) in
    let front : take end.place items ≡ items = take_all end.place items (omega (arith, all.1)) in
    let whole : take (end.place + 1) (items ++ it ∷ []) ≡ items ++ it ∷ [] = take_all (end.place + 1) (items ++ it ∷ []) (omega (arith, long, all.1)) in
    let last : end.last ≡ last_digest before items = all.0.last ∙ ap (last_digest before) front in
    let chained = chained_more before items it (subst (AreChained before) front all.0.chained) (due ∙ ap (λ d. digest_after d it) last) in (
      record {
        within = omega (arith, long, all.1);
        chained = subst (AreChained before) (sym whole) chained;
        last = sym (last_more before items it) ∙ ap (last_digest before) (sym whole);
      },
      omega (arith, long, all.1),
    )

-- an entry that isn't passed over is damaged
pub damaged_at : (items : List JournalItem) (cursor : Cursor) (it : JournalItem) (fault : JournalFault) (place : ℕ) → slice_get items cursor.place ≡ Some it
    → (fault ≡ Full) ⊎ ((fault ≡ Damaged cursor.place) × (it.digest ≡ digest_after cursor.last it → ⊥)) → ◌≡◌ {A = Result (Option JournalEntry) JournalFault} (Err fault) (Err (Damaged place))
    → (place ≡ cursor.place) × IsDamagedAt items cursor
damaged_at items cursor it fault place there (inl full) is = absurd cc
damaged_at items cursor it fault place there (inr bad) is = let same : place ≡ cursor.place = (let e = bad.0 in cc) in (same, (it, there, bad.1))

-- a reader finds its place without a next one where there are so many entries
pub full_at : (items : List JournalItem) (cursor : Cursor) (it : JournalItem) (fault : JournalFault) → slice_get items cursor.place ≡ Some it → IsOfReading cursor.place fault
    → ◌≡◌ {A = Result (Option JournalEntry) JournalFault} (Err fault) (Err Full) → 2 ^ 32 ≤ length items
full_at items cursor it fault there of is =
    let same : fault ≡ Full = cc in
    let room : 2 ^ 32 ≤ cursor.place + 1 = subst (IsOfReading cursor.place) same of in
    let low = slice_get_within items cursor.place it there in
    omega (arith, room, low)

-- where no entry was found, all are read
pub reads_end : (genesis : List ℕ) (items : List JournalItem) (old new : Cursor) (found : Option JournalEntry) → found ≡ None → option_map item found ≡ slice_get items old.place
    → HasReadTo genesis items new → new ≡ old → HasReadAll genesis items new
reads_end genesis items old new found none is read same =
    reads_all genesis items new read (ap (λ (c : Cursor). slice_get items c.place) same ∙ sym is ∙ ap (option_map item) none)

-- what stops the reader is the first damage
pub first_damage : (genesis : List ℕ) (items : List JournalItem) (cursor : Cursor) (place : ℕ) → HasReadTo genesis items cursor → (place ≡ cursor.place) × IsDamagedAt items cursor
    → IsFirstDamage genesis items place
first_damage genesis items cursor place read damaged = (cursor, read, sym damaged.0, damaged.1)
