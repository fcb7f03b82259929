-- The totals of a channel, by the ledgers of its two ends.
use Rattle.std.specs.Prelude.{◌≡◌, ◌≢◌, ◌⊎◌, ◌<◌, ◌+◌, ℕ, true, false, List, ◌++◌, nat_le, length, Option, Some, Ok, Err, slice_get, if◌then◌else◌}
use Rattle.std.specs.List.{list_all}
use Rattle.std.specs.Option.{option_map}
use Rattle.ibc_ids.specs.Texts.{Text}
use Rattle.ibc_ids.specs.Names.{hop, is_denom}
use Rattle.ibc_ids.specs.declared.refusal.Refusal.{Refusal}
use Rattle.ibc_ids.specs.declared.refusal.Refusal.TheVariants.{NoMemory, WrongPeer}
use Rattle.ibc_machine.specs.declared.totals.Totals.{Totals as ToldTotals}
use Rattle.ibc_machine.specs.chain.Records.{MachineChain, Channel, Client, client_at, channel_at}
use Rattle.ibc_machine.specs.chain.Checks.{Checked}
use Rattle.ibc_machine.specs.ics04.Channels.{is_established, client_of, peer_channel_of}
use Rattle.ibc_machine.specs.ics20.Bank.{supply}
use Rattle.ibc_machine.specs.ics20.Transfers.{transfer_port, came_over}
use Rattle.ibc_machine.specs.chain.Machine.{World}
use Rattle.ibc_machine.specs.ledger.Ledgers.{Ledger, machine_of, state_of}
use Rattle.ibc_machine.specs.promises.Totals.{Totals, totals, flight_between}

abbrev pub abstract_totals : ToldTotals → Totals
abstract_totals t = record { escrow = t.escrow; vouchers = t.vouchers; out = t.out; back = t.back }

-- the escrow account holds what is abroad and under way (ICS 20, "Correctness")
abbrev pub AreBalancedTotals : ToldTotals → Type 0
AreBalancedTotals t = t.escrow ≡ t.vouchers + t.out + t.back

-- ---- the two ends

-- an end of port `transfer` that is OPEN or CLOSED, and over which the denomination didn't come
pub record IsOwnEnd (channel denom : Text) (ledger : Ledger) (mine : Channel) : Type 0 where
  pub end : channel_at (state_of ledger).chain.records.core transfer_port channel ≡ Some mine
  pub established : is_established mine ≡ true
  pub not_its_own : came_over transfer_port channel denom ≡ false

-- the chain that the client under an end tracks, where there is one
abbrev pub tracked_over : Ledger → Channel → Option ℕ
tracked_over ledger mine =
    option_map (λ (c : Client). c.state.chain)
    (client_at (state_of ledger).chain.records.core (client_of (state_of ledger).chain.records.core mine.end.connection))

-- what a ledger has where an end's peer is named
abbrev pub named_end : Ledger → Channel → Option Channel
named_end ledger mine =
    channel_at (state_of ledger).chain.records.core mine.end.peer_port (peer_channel_of mine.end)

-- the end of a ledger that an end names
pub record IsPeerEnd (mine : Channel) (peer : Ledger) (name : Text) (theirs : Channel) : Type 0 where
  pub named : mine.end.peer_channel ≡ Some name
  pub end : channel_at (state_of peer).chain.records.core mine.end.peer_port name ≡ Some theirs

-- the vouchers at the peer, and what is under way back
abbrev pub peer_amounts : MachineChain → Channel → Text → Channel → Text → ℕ × ℕ
peer_amounts chain mine name theirs denom =
    let hopped = hop mine.end.peer_port name ++ denom in
    if nat_le (length hopped) 256
    then (supply chain.records.apps.balances hopped, flight_between hopped (Some theirs) (Some mine)) else (0, 0)

-- ---- what the machine answers, by ledgers

-- the ledger stands in a world at this place
abbrev pub StandsAt : World → ℕ → Ledger → Type 0
StandsAt world k ledger = slice_get world k ≡ Some (state_of ledger).chain

-- so in every world in which the ledger stands
abbrev pub AnswersAlone : Ledger → Text → Text → Checked Totals → Type 0
AnswersAlone ledger channel denom answer =
    (world : World) (k : ℕ) → StandsAt world k ledger → totals world k channel denom ≡ answer

-- so in every world in which the ledger stands, and the peer where the client under the end tracks it
abbrev pub AnswersWith : Ledger → Channel → Ledger → Text → Text → Checked Totals → Type 0
AnswersWith ledger mine peer channel denom answer =
    (world : World) (k tracked : ℕ) → StandsAt world k ledger → tracked_over ledger mine ≡ Some tracked
    → StandsAt world tracked peer → totals world k channel denom ≡ answer

-- so in every world in which both ledgers stand at the places of their chains
abbrev pub AnswersOfBoth : Ledger → Ledger → Text → Text → Checked Totals → Type 0
AnswersOfBoth ledger peer channel denom answer =
    (world : World) → StandsAt world ledger.chain ledger → StandsAt world peer.chain peer
    → totals world ledger.chain channel denom ≡ answer

-- memory ran out, or the machine refuses so in every world in which the ledger stands
abbrev pub AreRefusedAlone : Ledger → Text → Text → Refusal → Type 0
AreRefusedAlone ledger channel denom refusal =
    (refusal ≡ NoMemory) ⊎ AnswersAlone ledger channel denom (Err refusal)

-- ---- the totals of a world

-- the totals that the machine gives of a channel of one of these ledgers
abbrev pub AreTotalsIn : List Ledger → ℕ → Text → Text → ToldTotals → Type 0
AreTotalsIn ledgers chain channel denom t = totals (machine_of ledgers) chain channel denom ≡ Ok (abstract_totals t)

-- memory ran out, or the machine refuses the totals so
abbrev pub AreRefusedIn : List Ledger → ℕ → Text → Text → Refusal → Type 0
AreRefusedIn ledgers chain channel denom refusal =
    (refusal ≡ NoMemory) ⊎ (totals (machine_of ledgers) chain channel denom ≡ Err refusal)

-- ---- the totals of two ledgers

abbrev pub AreTotals : Ledger → Ledger → Text → Text → ToldTotals → Type 0
AreTotals ledger peer channel denom told = AnswersOfBoth ledger peer channel denom (Ok (abstract_totals told))

-- the client under the channel tracks the peer's chain
pub record TracksPeer (ledger peer : Ledger) (channel : Text) : Type 0 where
  pub mine : Channel
  pub end : channel_at (state_of ledger).chain.records.core transfer_port channel ≡ Some mine
  pub tracked : tracked_over ledger mine ≡ Some peer.chain

-- the end passes each check before that of its peer, and the client under it tracks another chain
pub record TracksAnother (ledger peer : Ledger) (channel denom : Text) : Type 0 where
  pub mine : Channel
  pub own : IsOwnEnd channel denom ledger mine
  pub other : ℕ
  pub tracked : tracked_over ledger mine ≡ Some other
  pub is_other : other ≢ peer.chain

-- memory ran out, or the peer's chain is another, or the machine refuses so
abbrev pub AreRefused : Ledger → Ledger → Text → Text → Refusal → Type 0
AreRefused ledger peer channel denom refusal =
    (refusal ≡ NoMemory) ⊎ ((refusal ≡ WrongPeer) × TracksAnother ledger peer channel denom)
    ⊎ AnswersOfBoth ledger peer channel denom (Err refusal)

-- ---- denominations that have their form

-- each denomination of which an account of the chain holds something has the form of one
abbrev pub HoldsDenominations : Ledger → Type 0
HoldsDenominations ledger =
    list_all (λ (entry : (Text × Text) × ℕ). is_denom entry.0.1) (state_of ledger).chain.records.apps.balances ≡ true

abbrev pub AllHold : List Ledger → Type 0
AllHold ledgers = (k : ℕ) (ledger : Ledger) → slice_get ledgers k ≡ Some ledger → HoldsDenominations ledger

abbrev pub FirstHold : ℕ → List Ledger → Type 0
FirstHold n ledgers = (k : ℕ) (ledger : Ledger) → k < n → slice_get ledgers k ≡ Some ledger → HoldsDenominations ledger
