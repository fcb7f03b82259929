-- The digests of a journal. That of an entry is SHA-256 of the digest before it and of the entry, so each tells of all before it.
use Rattle.std.specs.Prelude.{◌≡◌, ◌≢◌, ◌⊎◌, ◌≤◌, ◌<◌, ◌^◌, ℕ, List, [], ◌∷◌, ◌++◌, length, take, slice_get, Some, ⊤}
use Rattle.std.specs.Int.{w32, w64, to_be_bytes}
use Rattle.std.specs.List.{AllByRecursion}
use Rattle.sha2.specs.Sha256.{sha256}
use Rattle.ibc_journal.specs.Tables.{JournalItem, format}
use Rattle.ibc_journal.specs.declared.cursor.Cursor.{Cursor}

-- the digest of the beginning: of the format's number and the genesis
abbrev pub first_digest : List ℕ → List ℕ
first_digest genesis = sha256 (to_be_bytes w32 format ++ genesis)

-- what the digest of an entry is of: the digest before it, its chain, its kind, its place in a log, the length of its event, its event and its answer
abbrev pub digested : List ℕ → JournalItem → List ℕ
digested before it =
    before ++ to_be_bytes w32 it.chain ++ to_be_bytes w32 it.kind ++ to_be_bytes w32 it.log_place ++ to_be_bytes w64 (length it.event) ++ it.event ++ it.answer

abbrev pub digest_after : List ℕ → JournalItem → List ℕ
digest_after before it = sha256 (digested before it)

-- each entry has the digest that is due behind those before it
abbrev pub AreChained : List ℕ → List JournalItem → Type 0
AreChained before [] = ⊤
AreChained before (it ∷ its) = (it.digest ≡ digest_after before it) × AreChained it.digest its

-- the digest of all of them
abbrev pub last_digest : List ℕ → List JournalItem → List ℕ
last_digest before [] = before
last_digest before (it ∷ its) = last_digest it.digest its

-- ---- reading

-- A reader has come to a place. The entries before it have the digests that are due, and the reader has the last of them.
pub record HasReadTo (genesis : List ℕ) (items : List JournalItem) (cursor : Cursor) : Type 0 where
  pub within : cursor.place ≤ length items
  pub chained : AreChained (first_digest genesis) (take cursor.place items)
  pub last : cursor.last ≡ last_digest (first_digest genesis) (take cursor.place items)

-- A reader has come to the end, and each digest is as it is due.
abbrev pub HasReadAll : List ℕ → List JournalItem → Cursor → Type 0
HasReadAll genesis items cursor = HasReadTo genesis items cursor × (cursor.place ≡ length items)

-- The entry at the reader's place has another digest than is due.
abbrev pub IsDamagedAt : List JournalItem → Cursor → Type 0
IsDamagedAt items cursor =
    (it : JournalItem) × (slice_get items cursor.place ≡ Some it) × (¬ (it.digest ≡ digest_after cursor.last it))

-- The entry at this place has another digest than is due, and those before it have the ones that are due.
abbrev pub IsFirstDamage : List ℕ → List JournalItem → ℕ → Type 0
IsFirstDamage genesis items place =
    (cursor : Cursor) × HasReadTo genesis items cursor × (cursor.place ≡ place) × IsDamagedAt items cursor

-- ---- what digests tell

-- two different texts have one digest
abbrev pub HasClash : Type 0
HasClash = (x : List ℕ) × (y : List ℕ) × (x ≢ y) × (sha256 x ≡ sha256 y)

-- the numbers of an entry have their range
pub record FitsItsRow (it : JournalItem) : Type 0 where
  pub chain : it.chain < 2 ^ 32
  pub kind : it.kind < 2 ^ 32
  pub log_place : it.log_place < 2 ^ 32
  pub event : length it.event < 2 ^ 64

-- Two journals that began alike, with as many entries and the same last digest, have the same entries, or SHA-256 has a clash.
abbrev pub LastDigestTellsAll : Type 0
LastDigestTellsAll =
    (genesis : List ℕ) (a b : List JournalItem) → AllByRecursion FitsItsRow a → AllByRecursion FitsItsRow b
    → AreChained (first_digest genesis) a → AreChained (first_digest genesis) b → length a ≡ length b
    → last_digest (first_digest genesis) a ≡ last_digest (first_digest genesis) b → (a ≡ b) ⊎ HasClash
