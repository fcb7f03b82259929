-- Tokens on their way from one place to another.
use Rattle.std.specs.Prelude.{ℕ, ◌+◌, ◌-◌, nat_lt, Ok, Err, if◌then◌else◌}
use Rattle.std.specs.Option.{option_map}
use Rattle.ibc_ids.specs.Texts.{Text}
use Rattle.ibc_ids.specs.declared.refusal.Refusal.TheVariants.{Poor, TooLarge}
use Rattle.ibc_wire.specs.declared.token.Token.{Token}
use Rattle.ibc_machine.specs.ics20.Bank.{give, pay, supply, is_bounded}
use Rattle.ibc_machine.specs.chain.Checks.{Checked, expect}
use Rattle.ibc_bank.specs.Moves.{BankState, burnt_of, token_of, with_burnt, with_balances}
use Rattle.ibc_bank.specs.Parties.{party_text}
use Rattle.ibc_bank.specs.declared.place.Place.{Place}
use Rattle.ibc_bank.specs.declared.place.Place.TheVariants as place

-- taken from a place, where it has so much
abbrev pub after_taking : Place → Token → BankState → Checked BankState
after_taking (place.Account party) token bank =
    expect (option_map (with_balances bank) (pay (party_text party) token bank.balances)) Poor
after_taking place.Burnt token bank =
    if nat_lt (burnt_of bank token.denom) token.amount then Err Poor
    else Ok (with_burnt token.denom (burnt_of bank token.denom - token.amount) bank)
after_taking place.Outside token bank =
    if is_bounded (supply bank.balances token.denom + token.amount) (burnt_of bank token.denom) then Ok bank
    else Err TooLarge

-- put into a place
abbrev pub after_putting : Place → Token → BankState → BankState
after_putting (place.Account party) token bank = with_balances bank (give (party_text party) token bank.balances)
after_putting place.Burnt token bank = with_burnt token.denom (burnt_of bank token.denom + token.amount) bank
after_putting place.Outside token bank = bank

abbrev pub taken_then_put : Place → Token → Checked BankState → Checked BankState
taken_then_put to token (Ok bank) = Ok (after_putting to token bank)
taken_then_put to token (Err refusal) = Err refusal

-- from one place to another
abbrev pub after_carrying : Place → Place → Token → BankState → Checked BankState
after_carrying from to token bank = taken_then_put to token (after_taking from token bank)

-- so much of a denomination from one place to another
abbrev pub carrying : Place → Place → Text → ℕ → BankState → Checked BankState
carrying from to denom amount bank = after_carrying from to (token_of denom amount) bank
