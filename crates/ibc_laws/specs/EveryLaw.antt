-- All laws of every run of the machine.
use Rattle.ibc_machine.specs.promises.Laws.{Laws}
use Rattle.ibc_laws.specs.Moments.{EachMoment}
use Rattle.ibc_laws.specs.Packets.{ReceivedWasSent, TakenAsWritten}
use Rattle.ibc_laws.specs.Ends.{SettledWasSent, ReceivedInTime, AcknowledgedInOrder, ClosedIsSilent, TakenOfPeer, PeersAgree}
use Rattle.ibc_laws.specs.Tokens.{SupplyStays, NoVoucherWithoutEscrow, WhoPays, WasNeverShort}
use Rattle.ibc_laws.specs.Payments.{WhoIsPaid, EachBalance}
use Rattle.ibc_laws.specs.StoredNotes.{NotesAreReceived, NotesStay, NotesWereSent}

-- the four laws with what follows from the fourth, and eleven more with what goes with them
pub record EveryLaw : Type 0 where
  pub laws : Laws
  pub each_moment : EachMoment
  pub was_never_short : WasNeverShort
  pub received_was_sent : ReceivedWasSent
  pub taken_as_written : TakenAsWritten
  pub settled_was_sent : SettledWasSent
  pub received_in_time : ReceivedInTime
  pub acknowledged_in_order : AcknowledgedInOrder
  pub closed_is_silent : ClosedIsSilent
  pub taken_of_peer : TakenOfPeer
  pub peers_agree : PeersAgree
  pub supply_stays : SupplyStays
  pub no_voucher_without_escrow : NoVoucherWithoutEscrow
  pub who_pays : WhoPays
  pub who_is_paid : WhoIsPaid
  pub each_balance : EachBalance
  pub notes_are_received : NotesAreReceived
  pub notes_stay : NotesStay
  pub notes_were_sent : NotesWereSent
