-- Amounts that fit 128 bits.
use Rattle.std.specs.Prelude.{ℕ, ◌<◌, ◌^◌, List, Option, SomeIff}
use Rattle.ibc_ids.specs.Texts.{Text}
use Rattle.ibc_wire.specs.declared.token.Token.{Token}
use Rattle.ibc_machine.specs.ics20.TokenData.{amount_of}

-- how much of a denomination the tokens are together, if it fits 128 bits
abbrev pub IsFittingAmount : Option ℕ → Text → List Token → Type 0
IsFittingAmount result denom tokens = SomeIff result (amount_of denom tokens < 2 ^ 128) (amount_of denom tokens)
