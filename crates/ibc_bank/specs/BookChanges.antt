-- How changes stand for moves, beside the books that they are to be made in.
use Rattle.std.specs.Prelude.{◌≡◌, ℕ, ◌+◌, ◌<◌, ◌^◌, List, [], ◌∷◌, ◌++◌, Option, Some, Ok}
use Rattle.ibc_ids.specs.Texts.{Text}
use Rattle.ibc_machine.specs.chain.Checks.{Checked}
use Rattle.ibc_machine.specs.ics20.Bank.{balance, with_balance, supply}
use Rattle.ibc_bank.specs.BankModel.{AreBalanced, amount_in_transit, state_of, state_after_changes}
use Rattle.ibc_bank.specs.Moves.{BankState, after_move, after_moves, after_refund, after_settlement, burnt_of, token_of, with_balances}
use Rattle.ibc_bank.specs.Parties.{party_text}
use Rattle.ibc_bank.specs.TokenPlaces.{after_carrying, after_putting, after_taking}
use Rattle.ibc_bank.specs.declared.books.BankMaps.{BankMaps}
use Rattle.ibc_bank.specs.declared.changes.Changes.{Changes}
use Rattle.ibc_bank.specs.declared.holder.AccountRef.{AccountRef}
use Rattle.ibc_bank.specs.declared.moves.Move.{Move}
use Rattle.ibc_bank.specs.declared.moves.Source.{Source}
use Rattle.ibc_bank.specs.declared.place.Place.{Place}

-- the changes are those that moves make in the books
abbrev pub AreChangesOf : List Move → BankMaps → Changes → Type 0
AreChangesOf moves books changes = after_moves moves (state_of books) ≡ Ok (state_after_changes changes books)

-- a move is made
abbrev pub MakesMove : Move → Changes → Changes → BankMaps → Type 0
MakesMove step before after books = after_move step (state_after_changes before books) ≡ Ok (state_after_changes after books)

-- what a refund to a user comes to after changes
abbrev pub refund_in : Text → Source → Text → ℕ → Changes → BankMaps → Option BankState
refund_in user source denom amount changes books = after_refund user source (token_of denom amount) (state_after_changes changes books)

-- tokens go back to a user
abbrev pub MakesRefund : Text → Source → Text → ℕ → Changes → Changes → BankMaps → Type 0
MakesRefund user source denom amount before after books =
    refund_in user source denom amount before books ≡ Some (state_after_changes after books)

-- what was burnt isn't refunded any more
abbrev pub MakesSettlement : Text → ℕ → Changes → Changes → BankMaps → Type 0
MakesSettlement denom amount before after books =
    state_after_changes after books ≡ after_settlement (token_of denom amount) (state_after_changes before books)

-- what it comes to after changes when tokens are carried from one place to another
abbrev pub carry_in : Place → Place → Text → ℕ → Changes → BankMaps → Checked BankState
carry_in from to denom amount changes books = after_carrying from to (token_of denom amount) (state_after_changes changes books)

-- tokens are carried from one place to another
abbrev pub MakesCarrying : Place → Place → Text → ℕ → Changes → Changes → BankMaps → Type 0
MakesCarrying from to denom amount before after books =
    carry_in from to denom amount before books ≡ Ok (state_after_changes after books)

-- what it comes to after changes when tokens are taken from a place
abbrev pub take_in : Place → Text → ℕ → Changes → BankMaps → Checked BankState
take_in from denom amount changes books = after_taking from (token_of denom amount) (state_after_changes changes books)

-- tokens are taken from a place
abbrev pub MakesTaking : Place → Text → ℕ → Changes → Changes → BankMaps → Type 0
MakesTaking from denom amount before after books = take_in from denom amount before books ≡ Ok (state_after_changes after books)

-- tokens are put into a place
abbrev pub MakesPutting : Place → Text → ℕ → Changes → Changes → BankMaps → Type 0
MakesPutting to denom amount before after books =
    state_after_changes after books ≡ after_putting to (token_of denom amount) (state_after_changes before books)

-- the books after changes are balanced with so much of a denomination in hand
abbrev pub AreBalancedWith : Text → ℕ → Changes → BankMaps → Type 0
AreBalancedWith denom amount changes books = AreBalanced (amount_in_transit (token_of denom amount)) changes books

-- what an account holds of a denomination after changes
abbrev pub balance_after : Changes → BankMaps → AccountRef → Text → ℕ
balance_after changes books party denom = balance (state_after_changes changes books).balances (party_text party) denom

-- one change more: what an account holds of a denomination
abbrev pub AddsHeld : AccountRef → Text → ℕ → Changes → Changes → Type 0
AddsHeld party denom amount before after = after.held.items ≡ before.held.items ++ ((party_text party, denom), amount) ∷ []

-- one change more: the total of a denomination
abbrev pub AddsTotal : Text → ℕ → Changes → Changes → Type 0
AddsTotal denom amount before after = after.totals.items ≡ before.totals.items ++ (denom, amount) ∷ []

-- where a user holds so much, the denomination fits 128 bits
abbrev pub FitsHolding : Text → Text → ℕ → BankMaps → Type 0
FitsHolding user denom amount books =
    supply (with_balance user denom amount books.held.pairs) denom + burnt_of (state_of books) denom < 2 ^ 128

-- a user holds so much of a denomination, and all else stays
abbrev pub SetsHolding : Text → Text → ℕ → BankMaps → BankMaps → Type 0
SetsHolding user denom amount before after =
    state_of after ≡ with_balances (state_of before) (with_balance user denom amount before.held.pairs)
