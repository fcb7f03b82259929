-- What the maps of a bank say, and how they fit together.
use Rattle.std.specs.Prelude.{◌≡◌, ℕ, ◌+◌, ◌<◌, ◌^◌, if◌then◌else◌}
use Rattle.ibc_ids.specs.Texts.{Text, same_text, text_cmp, pair_cmp}
use Rattle.ibc_ids.specs.Maps.{Map}
use Rattle.ibc_wire.specs.declared.token.Token.{Token}
use Rattle.ibc_machine.specs.ics20.Bank.{supply}
use Rattle.ibc_bank.specs.Amounts.{AreKept, amount_at, with_amounts}
use Rattle.ibc_bank.specs.Moves.{BankState, burnt_of}
use Rattle.ibc_bank.specs.declared.books.BankMaps.{BankMaps}
use Rattle.ibc_bank.specs.declared.changes.Changes.{Changes}

abbrev pub state_of : BankMaps → BankState
state_of books = record { balances = books.held.pairs; burnt = books.burnt.pairs }

-- after changes
abbrev pub state_after_changes : Changes → BankMaps → BankState
state_after_changes changes books = record {
  balances = with_amounts pair_cmp changes.held.items books.held.pairs;
  burnt = with_amounts text_cmp changes.burnt.items books.burnt.pairs;
}

abbrev pub totals_after : Changes → BankMaps → Map Text ℕ
totals_after changes books = with_amounts text_cmp changes.totals.items books.totals.pairs

-- tokens that were taken from one place and aren't in another yet
abbrev pub amount_in_transit : Token → Text → ℕ
amount_in_transit token denom = if same_text token.denom denom then token.amount else 0

abbrev pub no_amount : Text → ℕ
no_amount denom = 0

-- the totals are what is held, what is burnt in flight and what is in hand, and fit 128 bits
pub record IsBalanced (hand : Text → ℕ) (bank : BankState) (totals : Map Text ℕ) : Type 0 where
  pub held_kept : AreKept pair_cmp bank.balances
  pub burnt_kept : AreKept text_cmp bank.burnt
  pub totals_kept : AreKept text_cmp totals
  pub tallied : (denom : Text) → amount_at text_cmp denom totals ≡ supply bank.balances denom + burnt_of bank denom + hand denom
  pub bounded : (denom : Text) → amount_at text_cmp denom totals < 2 ^ 128

-- so are the books after changes
abbrev pub AreBalanced : (Text → ℕ) → Changes → BankMaps → Type 0
AreBalanced hand changes books = IsBalanced hand (state_after_changes changes books) (totals_after changes books)
