-- The book of a chain's ledger: one keeper writes into it, and each bookmark is at a page of it.
use Rattle.std.specs.Prelude.{◌≡◌, ◌==◌, ◌<◌, ℕ, List, [], ◌∷◌, ◌++◌, length, true, ⊤, MatchBool}
use mathlib.Core.List.{IsPrefix}
use Rattle.logbook.specs.Pages.{Book, Cell, Named, Step, View, cell, may_make}
use Rattle.ibc_machine.specs.ledger.Ledgers.{Ledger}
use Rattle.ibc_ledger_lock.specs.Calls.{Call}
use Rattle.ibc_ledger_lock.specs.KnownLedgers.{KnownLedger, nothing_known}
use Rattle.ibc_ledger_lock.specs.ReceiptsAndReadings.{known_with}
use Rattle.ibc_ledger_lock.specs.declared.book.Page.{Page}

-- the history has gone on since, more was seen, and more was asked
abbrev pub IsKnownBeginning : KnownLedger → KnownLedger → Type 0
IsKnownBeginning old new =
    IsPrefix old.history new.history × IsPrefix old.seen new.seen × IsPrefix old.calls new.calls

-- the name of no book
abbrev pub no_book : Book
no_book = record { number = 0; log_name = 0; cells_name = 0 }

-- a book by its name, and a ledger as it was known at one of its pages
pub record BookPlace : Type 0 where
  pub book : Book
  pub known : KnownLedger

-- at the same book the ledger is known as it is, with all that it was asked
abbrev pub IsNoted : BookPlace → Ledger → List Call → BookPlace → Type 0
IsNoted old ledger calls new = (new.book ≡ old.book) × (new.known ≡ known_with ledger calls)

-- ---- pages

-- the page that a book begins with, and the key with which the next page is written
abbrev pub first_page : ℕ → Page
first_page key = record { known = nothing_known; next = key }

-- the key with which the page after these is written
abbrev pub key_after : ℕ → List Page → ℕ
key_after key [] = key
key_after key (page ∷ pages) = key_after page.next pages

abbrev pub key_in : List Page → ℕ
key_in pages = key_after 0 pages

-- what the last of these pages knows
abbrev pub known_after : KnownLedger → List Page → KnownLedger
known_after known [] = known
known_after known (page ∷ pages) = known_after page.known pages

abbrev pub known_in : List Page → KnownLedger
known_in pages = known_after nothing_known pages

-- Each page goes on from what the page before it knows, and the key with which it was written is used up: its word is at home.
abbrev pub AreWritten : List Cell → ℕ → KnownLedger → List Page → Type 0
AreWritten words key known [] = ⊤
AreWritten words key known (page ∷ pages) =
    ((cell words key).1 ≡ true) × IsKnownBeginning known page.known × AreWritten words page.next page.known pages

-- The first word tells whether the book was begun. Each page behind the first was written with the key that the page before
-- it names.
abbrev pub IsBook : List Cell → List Page → Type 0
IsBook words [] = (0 < length words) × (cell words 0 ≡ (0, true))
IsBook words (page ∷ pages) =
    (0 < length words) × (cell words 0 ≡ (1, true)) × AreWritten words page.next page.known pages

-- the first word of a book
abbrev pub head_of : Book → Named
head_of book = record { tracked = true; key = 0; book = book }

-- none of these pages, of which the first was written with the key, was written with that one
abbrev pub IsUnused : ℕ → ℕ → List Page → Type 0
IsUnused unused key [] = ⊤
IsUnused unused key (page ∷ pages) = (key ≡ unused → ⊥) × IsUnused unused page.next pages

-- ---- what the steps tell

-- where the first word was 0, the book was begun, and there is a pen for the next page
abbrev pub Begins : Step Page → View Page (Unit {0}) → ℕ → View Page (Unit {0}) → Type 0
Begins step before found after =
    MatchBool (found == 0) ((after.0 ≡ first_page after.1.0.key ∷ []) × (after.1.0.right ≡ may_make)) ⊤

-- there is a new pen
abbrev pub GivesPen : Step Page → View Page (Unit {0}) → ℕ → View Page (Unit {0}) → Type 0
GivesPen step before found after = after.1.0.right ≡ may_make

-- the page was written
abbrev pub Writes : Page → Step Page → View Page (Unit {0}) → ℕ → View Page (Unit {0}) → Type 0
Writes page step before found after = after.0 ≡ before.0 ++ page ∷ []

-- no page that was seen was written with the pen
abbrev pub FindsUnused : Step Page → View Page (Unit {0}) → ℕ → View Page (Unit {0}) → Type 0
FindsUnused step before found after = (after.1.0 ≡ before.1.0)
    × ((first : Page) (pages : List Page) → before.0 ≡ first ∷ pages → IsUnused before.1.0.key first.next pages)
