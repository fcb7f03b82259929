-- Ledgers with a book each, by the numbers of their chains.
use Rattle.std.proofs.Common.{◌≡◌, ◌∙◌, ℕ, zero, suc, List, [], ◌∷◌, map, Option, Some, refl, sym, ap, subst, slice_get}
use Rattle.std.specs.List.{All}
use Rattle.std.specs.Option.{option_map_or}
use Rattle.std.proofs.lemmas.List.Elements.{All-nil, All-cons, All-head, All-tail}
use Rattle.logbook.specs.Pages.{Book}
use Rattle.ibc_machine.specs.chain.Genesis.{GenesisState}
use Rattle.ibc_machine.specs.ledger.Ledgers.{Ledger}
use Rattle.ibc_ledger.specs.LedgerModel.{LedgerModel}
use Rattle.ibc_ledger_lock.proofs.Noting.{mapped_at}
use Rattle.ibc_ledger_lock.specs.Books.{no_book}
use Rattle.ibc_refinement.specs.World.{AreNew, new_ledger}
use Rattle.ibc_world_core.specs.WorldAudits.{AreOfOneWorld}
use Rattle.ibc_world_core.specs.WorldModel.{ledgers_alone}
use Rattle.ibc_race.specs.SharedWorlds.{HasItsBook, book_of, table_of}

-- ---- what is so of each element, by places

module _ {X : Type 0} (P : X → Type 0) where
  pub from_places : (xs : List X) → ((k : ℕ) (x : X) → slice_get xs k ≡ Some x → P x) → All P xs
  from_places [] h = All-nil P
  from_places (x ∷ xs) h = All-cons P x xs (h 0 x refl) (from_places xs (λ k y at. h (suc k) y at))

  pub at_place : (xs : List X) (k : ℕ) (x : X) → All P xs → slice_get xs k ≡ Some x → P x
  at_place [] k x all at = absurd cc
  at_place (y ∷ ys) zero x all at =
      let same : y ≡ x = cc in
      subst P same (All-head P y ys all)
  at_place (y ∷ ys) (suc k) x all at = at_place ys k x (All-tail P y ys all) at

-- ---- new ledgers

abbrev pub Booked : Type 0
Booked = LedgerModel × Book

-- each of the ledgers of a genesis in the beginning has the book of its chain's number
pub are_booked : (genesis : GenesisState) (pairs : List Booked) (ledgers : List LedgerModel) → map (λ (p : Booked). p.0) pairs ≡ ledgers
    → AreOfOneWorld ledgers → AreNew genesis (ledgers_alone ledgers) → All (HasItsBook (table_of pairs) genesis (book_of pairs)) pairs
are_booked genesis [] ledgers same world new = All-nil (HasItsBook (table_of []) genesis (book_of []))
are_booked genesis (p ∷ ps) ledgers same world new = from_places (HasItsBook (table_of (p ∷ ps)) genesis (book_of (p ∷ ps))) (p ∷ ps) each
  where
    there : (k : ℕ) (q : Booked) → slice_get (p ∷ ps) k ≡ Some q → slice_get ledgers k ≡ Some q.0
    there k q at = subst (λ (ls : List LedgerModel). slice_get ls k ≡ Some q.0) same (mapped_at (λ (p : Booked). p.0) (p ∷ ps) k q at)

    each : (k : ℕ) (q : Booked) → slice_get (p ∷ ps) k ≡ Some q → HasItsBook (table_of (p ∷ ps)) genesis (book_of (p ∷ ps)) q
    each k q at =
        let held = there k q at in
        let one = world p.0 (there 0 p refl) k q.0 held in
        let is_new : q.0.ledger ≡ new_ledger genesis k = new.each k q.0.ledger (mapped_at (λ (h : LedgerModel). h.ledger) ledgers k q.0 held) in
        let number : q.0.ledger.chain ≡ k = ap (λ (l : Ledger). l.chain) is_new in
        let book : book_of (p ∷ ps) q.0.ledger.chain ≡ q.1 = ap (λ (n : ℕ). book_of (p ∷ ps) n) number ∙ ap (λ (o : Option Booked). option_map_or (λ r. r.1) o no_book) at in
        ((one.0, ap (λ (l : Ledger). l.genesis) is_new), sym book)
