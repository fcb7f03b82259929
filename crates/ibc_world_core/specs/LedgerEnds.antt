-- An end of a channel on a ledger, and what it and its peer have of a denomination (ICS 20).
use Rattle.std.specs.Prelude.{◌≡◌, ◌⊎◌, ◌≤◌, ◌^◌, ℕ, Option, Some, None, Ok, Err, MatchOption}
use Rattle.ibc_ids.specs.Texts.{Text}
use Rattle.ibc_ids.specs.declared.refusal.Refusal.{Refusal}
use Rattle.ibc_ids.specs.declared.refusal.Refusal.TheVariants.{NoMemory, TooLarge}
use Rattle.ibc_machine.specs.declared.totals.Totals.{Totals}
use Rattle.ibc_machine.specs.chain.Records.{Channel}
use Rattle.ibc_machine.specs.ics20.Bank.{balance, escrow}
use Rattle.ibc_machine.specs.ledger.Ledgers.{Ledger, state_of}
use Rattle.ibc_machine.specs.promises.Totals.{flight_between}
use Rattle.ibc_world_core.specs.declared.totals.LedgerEnd.{LedgerEnd}
use Rattle.ibc_world_core.specs.Totals.{AnswersWith, IsPeerEnd, named_end, peer_amounts, abstract_totals}

-- the totals that the machine gives of the end, with the ledger of its peer
abbrev pub AreTotalsWith : LedgerEnd → Ledger → Text → Totals → Type 0
AreTotalsWith mine peer denom told =
    AnswersWith mine.ledger.now.ledger mine.end.now peer mine.name.now denom (Ok (abstract_totals told))

-- memory ran out, or the machine refuses the totals of the end so, with the ledger of its peer
abbrev pub AreRefusedWith : LedgerEnd → Ledger → Text → Refusal → Type 0
AreRefusedWith mine peer denom refusal = (refusal ≡ NoMemory)
    ⊎ AnswersWith mine.ledger.now.ledger mine.end.now peer mine.name.now denom (Err refusal)

-- the end of the ledger that an end names as its peer, or none where it isn't there (ICS 4)
abbrev pub IsPeerFound : Ledger → Channel → Option LedgerEnd → Type 0
IsPeerFound ledger mine found =
    MatchOption found (named_end ledger mine ≡ None)
    (λ peer. (peer.ledger.now.ledger ≡ ledger) × IsPeerEnd mine ledger peer.name.now peer.end.now)

-- what the end's escrow account holds
abbrev pub escrowed_at : LedgerEnd → Text → ℕ
escrowed_at mine denom =
    balance (state_of mine.ledger.now.ledger).chain.records.apps.balances (escrow mine.name.now) denom

-- what is under way from an end to its peer
abbrev pub flight_from : LedgerEnd → LedgerEnd → Text → ℕ
flight_from mine peer denom = flight_between denom (Some mine.end.now) (Some peer.end.now)

-- the vouchers at the peer, and what is under way back
abbrev pub sums_abroad : LedgerEnd → LedgerEnd → Text → ℕ × ℕ
sums_abroad mine peer denom =
    peer_amounts (state_of peer.ledger.now.ledger).chain mine.end.now peer.name.now peer.end.now denom

-- memory ran out, or the amount doesn't fit 128 bits
abbrev pub IsTooLarge : ℕ → Refusal → Type 0
IsTooLarge amount refusal = (refusal ≡ NoMemory) ⊎ ((refusal ≡ TooLarge) × (2 ^ 128 ≤ amount))
