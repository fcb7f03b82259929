-- The amount so far is that of the tokens before the place.
use Rattle.std.proofs.Common.{◌≡◌, ◌<◌, ◌^◌, take}
use Rattle.ibc_machine.specs.ics20.TokenData.{amount_of}
use Rattle.ibc_token_data.proofs.token_data.amount_in.Given as goal

abbrev pub invariant-loop-token : goal.invariant-loop-token
invariant-loop-token l =
    record { small : l.amount < 2 ^ 128; so_far : l.amount ≡ amount_of l.denom (take l.token-index l.tokens) }
