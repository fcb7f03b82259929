-- A bank that counts what is burnt in flight as the standing commitments of the channels say.
use Rattle.std.specs.Prelude.{◌≡◌, ◌<◌, ◌^◌, ℕ, IsTrue, Option, Some, Result, IfOk, SomeIff}
use Rattle.std.specs.FinMap.{is_sorted}
use Rattle.ibc_ids.specs.Texts.{Text, text_cmp}
use Rattle.ibc_ids.specs.declared.refusal.Refusal.{Refusal}
use Rattle.ibc_machine.specs.chain.Records.{Core, Channel, Commitment}
use Rattle.ibc_machine.specs.ics20.Transfers.{burnt_amount}
use Rattle.ibc_machine.specs.promises.Totals.{amount_under_way, flight_between}
use Rattle.ibc_bank.specs.Moves.{BankState, burnt_of}

pub record IsInFlight (bank : BankState) (core : Core) : Type 0 where
  pub sorted : IsTrue (is_sorted text_cmp bank.burnt)
  pub counted : (denom : Text) → burnt_of bank denom ≡ burnt_amount core denom

-- how much of a denomination is under way from an end to its peer, or none where that is more than 2^128 - 1
abbrev pub IsFlight : Text → Channel → Channel → Option ℕ → Type 0
IsFlight denom mine theirs sum = SomeIff sum (flight_between denom (Some mine) (Some theirs) < 2 ^ 128) (flight_between denom (Some mine) (Some theirs))

-- the same of the packet of a sequence, where it is Ok
abbrev pub IsUnderWay : Text → Text → Channel → ℕ → Commitment → Result (Option ℕ) Refusal → Type 0
IsUnderWay version denom theirs n c result =
    IfOk result (λ amount. SomeIff amount (amount_under_way version denom theirs (n, c) < 2 ^ 128) (amount_under_way version denom theirs (n, c)))
