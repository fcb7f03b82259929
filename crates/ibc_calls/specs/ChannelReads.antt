-- What a channel of tokens has, by the ledgers of its two ends.
use Rattle.std.specs.Prelude.{◌≡◌, ◌≢◌, ◌⊎◌, Option, Some, None, Ok, Err}
use Rattle.ibc_ids.specs.Texts.{Text}
use Rattle.ibc_ids.specs.declared.refusal.Refusal.TheVariants.{NoMemory, BadName}
use Rattle.ibc_machine.specs.declared.totals.Totals.{Totals}
use Rattle.ibc_machine.specs.ledger.Ledgers.{Ledger}
use Rattle.ibc_world_core.specs.Totals.{AreTotals, AreRefused, TracksPeer}
use Rattle.ibc_ledger.specs.LedgerModel.{LedgerModel}
use Rattle.ibc_handle.specs.declared.handle_value.HandleValue.{HandleValue}
use Rattle.ibc_handle.specs.declared.handle_value.HandleValue.TheVariants as held
use Rattle.ibc_handle.specs.declared.handle_value.WorldLedger.{WorldLedger}
use Rattle.ibc_calls.specs.declared.answer.Refused.{Refused}
use Rattle.ibc_calls.specs.declared.answer.Refused.TheVariants.{Core, Empty, OtherKind, OtherWorld}
use Rattle.ibc_calls.specs.declared.channel_totals.ChannelTotals.{ChannelTotals}
use Rattle.ibc_calls.specs.CallAnswers.{Answer}
use Rattle.ibc_calls.specs.Reads.{AreEscrow, amount_of}

-- the four sums
abbrev pub sums_of : ChannelTotals → Totals
sums_of t = record { escrow = amount_of t.escrow; vouchers = amount_of t.vouchers; out = amount_of t.out; back = amount_of t.back }

-- the totals of the channel are told, and the peer is the chain that its client tracks
pub record AreTold (channel denom : Text) (ledger peer : Ledger) (told : ChannelTotals) (answer : Answer) : Type 0 where
  pub answered : answer ≡ Ok tt
  pub names : AreEscrow channel denom
  pub totals : AreTotals ledger peer channel denom (sums_of told)
  pub tracks : TracksPeer ledger peer channel

-- the answer is a refusal of the core's
abbrev pub IsOfCore : Text → Text → Ledger → Ledger → Answer → Type 0
IsOfCore channel denom ledger peer (Err (Core refusal)) = AreRefused ledger peer channel denom refusal
IsOfCore channel denom ledger peer _ = ⊥

-- The totals are told. Or nothing is: a name is none of its kind, or memory ran out, or the core refuses.
abbrev pub TellsSums : Text → Text → Ledger → Ledger → ChannelTotals → ChannelTotals → Answer → Type 0
TellsSums channel denom ledger peer old new answer =
    AreTold channel denom ledger peer new answer
    ⊎ ((new ≡ old) × (((answer ≡ Err (Core BadName)) × (AreEscrow channel denom → ⊥)) ⊎ (answer ≡ Err (Core NoMemory))
    ⊎ (AreEscrow channel denom × IsOfCore channel denom ledger peer answer)))

-- the same of ledgers as their callers see them
abbrev pub TellsSumsOf : Text → Text → LedgerModel → LedgerModel → ChannelTotals → ChannelTotals → Answer → Type 0
TellsSumsOf channel denom mine peer old new answer = TellsSums channel denom mine.ledger peer.ledger old new answer

-- nothing is told, for this reason
abbrev pub TellsNothing : ChannelTotals → ChannelTotals → Answer → Refused → Type 0
TellsNothing old new answer why = (new ≡ old) × (answer ≡ Err why)

-- of two ledgers of one world
abbrev pub TellsOfMembers : Text → Text → WorldLedger → WorldLedger → ChannelTotals → ChannelTotals → Answer → Type 0
TellsOfMembers channel denom mine peer old new answer =
    ((mine.number ≡ peer.number) × TellsSums channel denom mine.ledger.ledger peer.ledger.ledger old new answer)
    ⊎ ((mine.number ≢ peer.number) × TellsNothing old new answer OtherWorld)

unfoldable pub TellsOfPeer : Text → Text → WorldLedger → Option HandleValue → ChannelTotals → ChannelTotals → Answer → Type 0
TellsOfPeer channel denom mine None old new answer = TellsNothing old new answer Empty
TellsOfPeer channel denom mine (Some (held.Ledger peer)) old new answer = TellsOfMembers channel denom mine peer old new answer
TellsOfPeer channel denom mine (Some other) old new answer = TellsNothing old new answer OtherKind

-- the totals of a channel are told by the ledgers of its two ends, or nothing is
unfoldable pub TellsTotals : Text → Text → Option HandleValue → Option HandleValue → ChannelTotals → ChannelTotals → Answer → Type 0
TellsTotals channel denom None peer old new answer = TellsNothing old new answer Empty
TellsTotals channel denom (Some (held.Ledger mine)) peer old new answer = TellsOfPeer channel denom mine peer old new answer
TellsTotals channel denom (Some other) peer old new answer = TellsNothing old new answer OtherKind
