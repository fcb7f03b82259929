-- Tokens that go back over the channel that they came over (ICS 20, "sendFungibleTokens"): they are burnt, and are in flight
-- until their packet is settled.
use Rattle.std.specs.Prelude.{◌≡◌, ℕ, List, if◌then◌else◌}
use Rattle.ibc_ids.specs.Texts.{Text}
use Rattle.ibc_wire.specs.declared.token.Token.{Token}
use Rattle.ibc_machine.specs.chain.Records.{Core}
use Rattle.ibc_machine.specs.ics20.TokenData.{amount_of}
use Rattle.ibc_machine.specs.ics20.Transfers.{transfer_port, came_over, burnt_amount}

-- how much of a denomination goes back over the channel among these tokens
abbrev pub returned_amount : Text → List Token → Text → ℕ
returned_amount channel tokens denom = if came_over transfer_port channel denom then amount_of denom tokens else 0

-- as much of each denomination is burnt in flight as before
abbrev pub SameBurnt : Core → Core → Type 0
SameBurnt old new = (denom : Text) → burnt_amount new denom ≡ burnt_amount old denom
