-- Balances, and what moves them (ICS 20, "sendFungibleTokens", "onRecvPacket" and "refundTokens"). A move is
-- None where an account holds too little, or where a bound would break.
use Rattle.std.specs.Prelude.{ℕ, ◌+◌, ◌-◌, ◌^◌, ◌==◌, Bool, nat_lt, Option, Some, None, if◌then◌else◌}
use Rattle.std.specs.List.{sum_by}
use Rattle.std.specs.Option.{option_map, unwrap_or}
use Rattle.ibc_ids.specs.Texts.{Text, same_text, pair_cmp}
use Rattle.ibc_ids.specs.Maps.{Map, at, with, without}
use Rattle.ibc_ids.specs.Paths.{account_text}
use Rattle.ibc_ids.specs.declared.account.Account.TheVariants as account
use Rattle.ibc_wire.specs.declared.token.Token.{Token}

-- by the account's text and the denomination; amounts of 0 are left out
abbrev pub Balances : Type 0
Balances = Map (Text × Text) ℕ

abbrev pub balance : Balances → Text → Text → ℕ
balance balances holder denom = unwrap_or (at pair_cmp (holder, denom) balances) 0

abbrev pub with_balance : Text → Text → ℕ → Balances → Balances
with_balance holder denom amount balances =
    if amount == 0 then without pair_cmp (holder, denom) balances
    else with pair_cmp (holder, denom) amount balances

-- all that a chain holds of a denomination
abbrev pub supply : Balances → Text → ℕ
supply balances denom = sum_by (λ entry. if same_text entry.0.1 denom then entry.1 else 0) balances

-- the escrow account of a channel
abbrev pub escrow : Text → Text
escrow channel = account_text (account.Escrow channel)

abbrev pub give : Text → Token → Balances → Balances
give holder token balances =
    with_balance holder token.denom (balance balances holder token.denom + token.amount) balances

abbrev pub pay : Text → Token → Balances → Option Balances
pay holder token balances =
    if nat_lt (balance balances holder token.denom) token.amount then None
    else Some (with_balance holder token.denom (balance balances holder token.denom - token.amount) balances)

-- from a user to the escrow of a channel
abbrev pub into_escrow : Text → Text → Token → Balances → Option Balances
into_escrow channel user token balances = option_map (give (escrow channel) token) (pay user token balances)

-- from the escrow of a channel to a user
abbrev pub out_of_escrow : Text → Text → Token → Balances → Option Balances
out_of_escrow channel user token balances = option_map (give user token) (pay (escrow channel) token balances)

-- what a chain holds of a denomination, and what was burnt of it in flight, fit 128 bits together
abbrev pub is_bounded : ℕ → ℕ → Bool
is_bounded held in_flight = nat_lt (held + in_flight) (2 ^ 128)

-- new tokens for a user, where so much was burnt in flight
abbrev pub mint : ℕ → Text → Token → Balances → Option Balances
mint in_flight user token balances =
    if is_bounded (supply balances token.denom + token.amount) in_flight then Some (give user token balances) else None
