-- What a bank holds, and how tokens move in it (ICS 20, "sendFungibleTokens", "onRecvPacket" and "refundTokens").
use Rattle.std.specs.Prelude.{ℕ, ◌+◌, ◌-◌, nat_lt, IsTrue, List, [], ◌∷◌, Option, Some, None, Ok, if◌then◌else◌}
use Rattle.std.specs.Option.{option_map}
use Rattle.ibc_ids.specs.Texts.{Text, text_cmp}
use Rattle.ibc_ids.specs.Maps.{Map}
use Rattle.ibc_ids.specs.declared.refusal.Refusal.TheVariants.{Poor, TooLarge}
use Rattle.ibc_wire.specs.declared.token.Token.{Token}
use Rattle.ibc_machine.specs.ics20.Bank.{Balances, give, pay, into_escrow, out_of_escrow, mint, supply, is_bounded}
use Rattle.ibc_machine.specs.chain.Checks.{Checked, expect, ◌>>=◌}
use Rattle.ibc_bank.specs.Amounts.{amount_at, with_amount}
use Rattle.ibc_bank.specs.declared.moves.Move.{Move}
use Rattle.ibc_bank.specs.declared.moves.Move.TheVariants as move
use Rattle.ibc_bank.specs.declared.moves.Source.{Source}
use Rattle.ibc_bank.specs.declared.moves.Source.TheVariants as source

-- the balances, and by denomination what was burnt in flight and may still be refunded
pub record BankState : Type 0 where
  pub balances : Balances
  pub burnt : Map Text ℕ

abbrev pub token_of : Text → ℕ → Token
token_of denom amount = record { denom = denom; amount = amount }

-- what was burnt of a denomination
abbrev pub burnt_of : BankState → Text → ℕ
burnt_of bank denom = amount_at text_cmp denom bank.burnt

-- where so much of the denomination was burnt
abbrev pub with_burnt : Text → ℕ → BankState → BankState
with_burnt denom amount bank = record bank { burnt = with_amount text_cmp denom amount bank.burnt }

abbrev pub with_balances : BankState → Balances → BankState
with_balances bank balances = record bank { balances = balances }

-- ---- the six moves: None where one is refused

-- from a user to the escrow of a channel
abbrev pub after_escrow : Text → Text → Token → BankState → Option BankState
after_escrow user channel token bank = option_map (with_balances bank) (into_escrow channel user token bank.balances)

-- from the escrow of a channel to a user
abbrev pub after_release : Text → Text → Token → BankState → Option BankState
after_release channel user token bank = option_map (with_balances bank) (out_of_escrow channel user token bank.balances)

-- a user's tokens are burnt, and may still be refunded
abbrev pub after_burn : Text → Token → BankState → Option BankState
after_burn user token bank =
    option_map (λ balances. with_burnt token.denom (burnt_of bank token.denom + token.amount) (with_balances bank balances)) (pay user token bank.balances)

-- new tokens for a user
abbrev pub after_mint : Text → Token → BankState → Option BankState
after_mint user token bank =
    option_map (with_balances bank) (mint (burnt_of bank token.denom) user token bank.balances)

-- back to a user out of the escrow, or minted again where they were burnt
abbrev pub after_refund : Text → Source → Token → BankState → Option BankState
after_refund user (source.Escrow channel) token bank = after_release channel user token bank
after_refund user source.Burnt token bank =
    if nat_lt (burnt_of bank token.denom) token.amount then None
    else Some (with_burnt token.denom (burnt_of bank token.denom - token.amount) (with_balances bank (give user token bank.balances)))

-- what was burnt isn't refunded any more: the amount, or all where it is less
abbrev pub after_settlement : Token → BankState → BankState
after_settlement token bank = with_burnt token.denom (burnt_of bank token.denom - token.amount) bank

-- ---- moves

abbrev pub after_move : Move → BankState → Checked BankState
after_move (move.Escrow user channel denom amount) bank = expect (after_escrow user channel (token_of denom amount) bank) Poor
after_move (move.Release channel user denom amount) bank = expect (after_release channel user (token_of denom amount) bank) Poor
after_move (move.Burn user denom amount) bank = expect (after_burn user (token_of denom amount) bank) Poor
after_move (move.Mint user denom amount) bank = expect (after_mint user (token_of denom amount) bank) TooLarge
after_move (move.Refund user source denom amount) bank = expect (after_refund user source (token_of denom amount) bank) Poor
after_move (move.Settle denom amount) bank = Ok (after_settlement (token_of denom amount) bank)

-- one move after another, or the refusal of the first that fails
abbrev pub after_moves : List Move → BankState → Checked BankState
after_moves [] bank = Ok bank
after_moves (m ∷ moves) bank = after_move m bank >>= after_moves moves

-- ---- the same moves, of so much of a denomination

-- a user's tokens into the escrow of a channel
abbrev pub escrowing : Text → Text → Text → ℕ → BankState → Option BankState
escrowing user channel denom amount bank = after_escrow user channel (token_of denom amount) bank

-- tokens out of the escrow of a channel to a user
abbrev pub releasing : Text → Text → Text → ℕ → BankState → Option BankState
releasing channel user denom amount bank = after_release channel user (token_of denom amount) bank

-- a user's tokens are burnt
abbrev pub burning : Text → Text → ℕ → BankState → Option BankState
burning user denom amount bank = after_burn user (token_of denom amount) bank

-- new tokens for a user
abbrev pub minting : Text → Text → ℕ → BankState → Option BankState
minting user denom amount bank = after_mint user (token_of denom amount) bank

-- back to a user
abbrev pub refunding : Text → Source → Text → ℕ → BankState → Option BankState
refunding user source denom amount bank = after_refund user source (token_of denom amount) bank

-- what is held of a denomination and what is burnt of it fit 128 bits together
abbrev pub IsBoundedAt : BankState → Text → Type 0
IsBoundedAt bank denom = IsTrue (is_bounded (supply bank.balances denom) (burnt_of bank denom))
