-- Why calls fail.
use Rattle.std.proofs.Common.{◌≡◌, ◌≢◌, ◌⊎◌, inl, inr, ℕ, ◌≤◌, ◌^◌, ℤ, pos, List, length, Option, Result, Err, refl, sym, ap, ◌∙◌, subst, arith}
use Rattle.sha2.proofs.Facts256.{length-sha256}
use Rattle.ibc_ids.specs.declared.refusal.Refusal.{Refusal}
use Rattle.ibc_ids.specs.declared.refusal.Refusal.TheVariants as refusal
use Rattle.ibc_machine.specs.declared.event.Event.{Event}
use Rattle.ibc_machine.specs.declared.event.Event.TheVariants as event
use Rattle.ibc_machine.specs.declared.entry.Entry.{Entry}
use Rattle.ibc_machine.specs.declared.reply.Reply.{Reply}
use Rattle.ibc_refinement.specs.World.{WorldState}
use Rattle.ibc_replay.specs.declared.replaying.Difference.{Difference}
use Rattle.ibc_replay.specs.declared.replaying.Difference.TheVariants as difference
use Rattle.ibc_replay.specs.Replays.{StopsBy}
use Rattle.sqlite.specs.declared.error.Error.TheVariants.{IntegralValueOutOfRange}
use Rattle.ibc_entry_codec.specs.declared.stored.EntryBytes.{EntryBytes}
use Rattle.ibc_entry_codec.specs.Stored.{StoresEntry, event_kind}
use Rattle.ibc_journal.specs.Tables.{JournalItem}
use Rattle.ibc_journal.specs.Digests.{digested, HasReadTo, IsDamagedAt}
use Rattle.ibc_journal.specs.Faults.{IsOfReading, IsOfEnding}
use Rattle.ibc_journal.specs.declared.cursor.Cursor.{Cursor}
use Rattle.ibc_journal.specs.declared.entry.JournalEntry.{JournalEntry}
use Rattle.ibc_journal.specs.declared.fault.JournalFault.{JournalFault}
use Rattle.ibc_journal.specs.declared.fault.JournalFault.TheVariants as journal
use Rattle.ibc_node.specs.declared.fault.NodeFault.{NodeFault}
use Rattle.ibc_node.specs.declared.fault.NodeFault.TheVariants as fault
use Rattle.ibc_node.specs.Kept.{bytes_in, IsKeptAs, KeepsItem}
use Rattle.ibc_node.specs.declared.unread.Unread.{Unread}
use Rattle.ibc_node.specs.declared.unread.Unread.TheVariants as unread
use Rattle.ibc_journal.specs.declared.looking.Looks.{Looks}
use Rattle.ibc_journal.specs.declared.looking.Looks.TheVariants as looks
use Rattle.ibc_node.specs.Audits.{IsUnreadBy}
use Rattle.ibc_node.specs.Faults.{fault_of_refusal, fault_at, IsOfRoom, IsOfBytes, IsOfEntry, IfFault, IsStopped, IsUnreadAt, IsUnread, IsOfGenesis, IsUnreplayed, IsOfOther, IsUnaudited}

-- ---- an entry that is to wait

pub of_memory : (entries : ℕ) (why : NodeFault) → why ≡ fault.NoMemory → IsOfRoom entries why
of_memory entries why is = inl is

-- what is kept has a digest of 32 bytes
pub digest_long : (old new : WorldState) (before : List ℕ) (given : Event) (reply : Reply) (it : JournalItem) → KeepsItem old before given reply it new → length it.digest ≡ 32
digest_long old new before given reply it keeps = ap length keeps.due ∙ length-sha256 (digested before it)

-- ---- an entry that isn't read

pub of_bytes : (place : ℕ) (stored : EntryBytes) (refused : Refusal) (why : NodeFault) → why ≡ fault_of_refusal refused (fault.NoEntry place) → (refused ≡ refusal.BadMessage) ⊎ (refused ≡ refusal.NoMemory)
    → (refused ≡ refusal.BadMessage → (entry : Entry) → ¬ StoresEntry entry stored) → IsOfBytes place stored why
of_bytes place stored refused why is (inl bad) none = inr (is ∙ ap (λ (r : Refusal). fault_of_refusal r (fault.NoEntry place)) bad, none bad)
of_bytes place stored refused why is (inr memory) none = inl (is ∙ ap (λ (r : Refusal). fault_of_refusal r (fault.NoEntry place)) memory)

pub of_entry : (place : ℕ) (it : JournalItem) (stored : EntryBytes) → stored ≡ bytes_in it → (why : NodeFault) → IsOfBytes place stored why → IsOfEntry place it why
of_entry place it stored is why (inl memory) = inl memory
of_entry place it stored is why (inr none) = inr (none.0, inr (λ entry kept. none.1 entry (subst (StoresEntry entry) (sym is) kept)))

pub no_chain : (place : ℕ) (it : JournalItem) (why : NodeFault) → (why ≡ fault.NoEntry place) × (256 ≤ it.chain) → IsOfEntry place it why
no_chain place it why out = inr (out.0, inl out.1)

kind_low : (given : Event) → event_kind given ≤ 1
kind_low (event.Block chain next_time) = omega arith
kind_low (event.Message chain message) = omega arith

pub no_kind : (place : ℕ) (it : JournalItem) (why : NodeFault) → (why ≡ fault.NoEntry place) × (256 ≤ it.kind) → IsOfEntry place it why
no_kind place it why out =
    let high = out.1 in
    let none : (entry : Entry) → ¬ IsKeptAs entry it = λ entry kept. let low = kind_low entry.event in let is : it.kind ≡ event_kind entry.event = kept.kind in omega (arith, high, low, is) in
    inr (out.0, inr none)

-- ---- an entry that isn't replayed

-- where a world doesn't take an entry, only want of memory is a fault
pub replay_fault : (old new : WorldState) (place : ℕ) (list : List Entry) (why : Difference) (told : Unread) → StopsBy old place list why new → IsUnreadBy why told → IfFault (λ (f : NodeFault). f ≡ fault.NoMemory) told
replay_fault old new place list (difference.At here due stored) told stopped is = subst (IfFault (λ (f : NodeFault). f ≡ fault.NoMemory)) (sym is) tt
replay_fault old new place list (difference.UnknownChain here stored) told stopped is = subst (IfFault (λ (f : NodeFault). f ≡ fault.NoMemory)) (sym is) tt
replay_fault old new place list difference.NoMemory told stopped is = subst (IfFault (λ (f : NodeFault). f ≡ fault.NoMemory)) (sym is) refl
replay_fault old new place list difference.NoGenesis told stopped is = absurd stopped

pub memory_of_entry : (place : ℕ) (it : JournalItem) (told : Unread) → IfFault (λ (f : NodeFault). f ≡ fault.NoMemory) told → IfFault (IsOfEntry place it) told
memory_of_entry place it (unread.Fault why) is = inl is
memory_of_entry place it (unread.Differs why) is = tt

-- ---- a journal that isn't read on

read_why : (items : List JournalItem) (cursor : Cursor) (why : JournalFault) → IsOfReading cursor.place why
    → ((place : ℕ) → ◌≡◌ {A = Result (Option JournalEntry) JournalFault} (Err why) (Err (journal.Damaged place)) → (place ≡ cursor.place) × IsDamagedAt items cursor)
    → (◌≡◌ {A = Result (Option JournalEntry) JournalFault} (Err why) (Err journal.Full) → 2 ^ 32 ≤ length items) → IsUnreadAt items cursor (fault_at cursor.place why)
read_why items cursor (journal.Sqlite (IntegralValueOutOfRange index)) of damaged full = refl
read_why items cursor (journal.Sqlite error) of damaged full = tt
read_why items cursor (journal.Damaged place) of damaged full = damaged place refl
read_why items cursor journal.Full of damaged full = full refl
read_why items cursor (journal.Gap place) of damaged full = absurd of
read_why items cursor journal.Early of damaged full = absurd of
read_why items cursor journal.Beginnings of damaged full = absurd of

pub read_fault : (items : List JournalItem) (cursor : Cursor) (why : JournalFault) (told : NodeFault) → told ≡ fault_at cursor.place why → IsOfReading cursor.place why
    → ((place : ℕ) → ◌≡◌ {A = Result (Option JournalEntry) JournalFault} (Err why) (Err (journal.Damaged place)) → (place ≡ cursor.place) × IsDamagedAt items cursor)
    → (◌≡◌ {A = Result (Option JournalEntry) JournalFault} (Err why) (Err journal.Full) → 2 ^ 32 ≤ length items) → IsUnreadAt items cursor told
read_fault items cursor why told is of damaged full = subst (IsUnreadAt items cursor) (sym is) (read_why items cursor why of damaged full)

pub memory_unread : (items : List JournalItem) (cursor : Cursor) (why : NodeFault) → why ≡ fault.NoMemory → IsUnreadAt items cursor why
memory_unread items cursor why is = subst (IsUnreadAt items cursor) (sym is) tt

pub entry_unread : (items : List JournalItem) (cursor : Cursor) (it : JournalItem) (told : Unread) → IfFault (IsOfEntry cursor.place it) told → IfFault (IsUnreadAt items cursor) told
entry_unread items cursor it (unread.Fault why) (inl memory) = memory_unread items cursor why memory
entry_unread items cursor it (unread.Fault why) (inr none) = subst (IsUnreadAt items cursor) (sym none.0) refl
entry_unread items cursor it (unread.Differs why) is = tt

-- a journal ends where its reader found no other entry
pub end_fault : (items : List JournalItem) (cursor : Cursor) (why : JournalFault) (place : ℕ) → IsOfEnding place why → ((at : ℕ) → why ≢ journal.Gap at) → why ≢ journal.Early → IsStopped items cursor why
end_fault items cursor (journal.Sqlite error) place of no_gap not_early = tt
end_fault items cursor (journal.Damaged at) place of no_gap not_early = absurd of
end_fault items cursor (journal.Gap at) place of no_gap not_early = absurd (no_gap at refl)
end_fault items cursor journal.Early place of no_gap not_early = absurd (not_early refl)
end_fault items cursor journal.Beginnings place of no_gap not_early = absurd of
end_fault items cursor journal.Full place of no_gap not_early = absurd of

pub unread_in : (genesis : List ℕ) (items : List JournalItem) (cursor : Cursor) (told : Unread) → HasReadTo genesis items cursor → IfFault (IsUnreadAt items cursor) told → IfFault (IsUnread genesis items) told
unread_in genesis items cursor (unread.Fault why) read is = (cursor, read, is)
unread_in genesis items cursor (unread.Differs why) read is = tt

-- ---- a journal that isn't replayed

pub of_genesis : (refused : Refusal) (why : NodeFault) → why ≡ fault_of_refusal refused fault.BadGenesis → (refused ≡ refusal.BadMessage) ⊎ (refused ≡ refusal.NoMemory) → IsOfGenesis why
of_genesis refused why is (inl bad) = inl (is ∙ ap (λ (r : Refusal). fault_of_refusal r fault.BadGenesis) bad)
of_genesis refused why is (inr memory) = inr (is ∙ ap (λ (r : Refusal). fault_of_refusal r fault.BadGenesis) memory)

pub genesis_unreplayed : (text : List ℕ) (items : List JournalItem) (why : NodeFault) → IsOfGenesis why → IsUnreplayed text items why
genesis_unreplayed text items why (inl bad) = subst (IsUnreplayed text items) (sym bad) tt
genesis_unreplayed text items why (inr memory) = subst (IsUnreplayed text items) (sym memory) tt

is_unreplayed : (text : List ℕ) (items : List JournalItem) (why : NodeFault) → IsUnread text items why → IsUnreplayed text items why
is_unreplayed text items fault.BadGenesis is = tt
is_unreplayed text items fault.NoMemory is = tt
is_unreplayed text items why is = is

pub unread_unreplayed : (text : List ℕ) (items : List JournalItem) (told : Unread) → IfFault (IsUnread text items) told → IfFault (IsUnreplayed text items) told
unread_unreplayed text items (unread.Fault why) is = is_unreplayed text items why is
unread_unreplayed text items (unread.Differs why) is = tt

-- ---- a journal that isn't audited

other_unaudited : (given : Option (List ℕ)) (text : List ℕ) (number : ℤ) (items : List JournalItem) (why : NodeFault) → number ≡ pos 1 → IsOfOther given text number why → IsUnaudited given text items why
other_unaudited given text number items fault.OtherGenesis is other = other
other_unaudited given text number items (fault.OtherFormat told) is other = absurd (other.1 is)
other_unaudited given text number items why is other = absurd other

-- what was read of the beginning is how the journal began
pub judged_unaudited : (given : Option (List ℕ)) (began text : List ℕ) (number : ℤ) (items : List JournalItem) (why : NodeFault) → (number ≡ pos 1) × (began ≡ text) → IsOfOther given began number why
    → IsUnaudited given text items why
judged_unaudited given began text number items why is other = subst (λ t. IsUnaudited given t items why) is.1 (other_unaudited given began number items why is.0 other)

pub unreplayed_unaudited : (given : Option (List ℕ)) (text : List ℕ) (items : List JournalItem) (why : NodeFault) → IsUnreplayed text items why → IsUnaudited given text items why
unreplayed_unaudited given text items fault.BadGenesis is = tt
unreplayed_unaudited given text items fault.NoMemory is = tt
unreplayed_unaudited given text items (fault.NoEntry place) is = is
unreplayed_unaudited given text items (fault.Journal why) is = inr is
unreplayed_unaudited given text items why is = absurd is.2

-- the tables of a journal look like one
pub looks_so : (found seen : Looks) → found ≡ looks.Journal → found ≡ seen → seen ≡ looks.Journal
looks_so found seen is same = sym same ∙ is
