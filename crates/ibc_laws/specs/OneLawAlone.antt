-- Each further law refuses a run that no other law refuses.
use Rattle.ibc_laws.specs.Runs.{EachPastHasSteps, HoldOfTheMachine, IsRefusedByAlone, ReceivedAsSent, TakenAsWritten, SettledAsSent, ReceivedInTime, AcknowledgedInOrder, ClosedIsSilent, TakenOfPeer, PeersAgree, Supplies, Payments, Notes}
use Rattle.ibc_laws.specs.WrongPackets.{machine_comparing, alike_in_tokens, machine_taking_any_ack, machine_reading_numbers, machine_without_clock, machine_acknowledging_any, ReceivesWhatWasNotSent, TakesWhatWasNotWritten, SettlesWhatWasNotSent, ReceivesLate, LeavesOutAnAck}
use Rattle.ibc_laws.specs.WrongEnds.{machine_opening, is_closed, is_unopened, alike_but_version, ReceivesClosed, ReceivesOfNobody, PeersDisagree}
use Rattle.ibc_laws.specs.WrongTokens.{machine_with_gifts, machine_robbing_alice, machine_telling, machine_refunding, for_carol, from_carol, with_other_note, SupplyGrew, AnotherPays, AnotherIsPaid, KeepsAnotherNote}

pub record OneLawAlone : Type 0 where
  pub steps_of_the_machine : EachPastHasSteps
  pub of_the_machine : HoldOfTheMachine
  pub forged : IsRefusedByAlone ReceivedAsSent (machine_comparing alike_in_tokens) ReceivesWhatWasNotSent
  pub unwritten : IsRefusedByAlone TakenAsWritten machine_taking_any_ack TakesWhatWasNotWritten
  pub reworded : IsRefusedByAlone SettledAsSent machine_reading_numbers SettlesWhatWasNotSent
  pub late : IsRefusedByAlone ReceivedInTime machine_without_clock ReceivesLate
  pub left_out : IsRefusedByAlone AcknowledgedInOrder machine_acknowledging_any LeavesOutAnAck
  pub woken : IsRefusedByAlone ClosedIsSilent (machine_opening is_closed) ReceivesClosed
  pub peerless : IsRefusedByAlone TakenOfPeer (machine_opening is_unopened) ReceivesOfNobody
  pub two_versions : IsRefusedByAlone PeersAgree (machine_comparing alike_but_version) PeersDisagree
  pub gifts : IsRefusedByAlone Supplies machine_with_gifts SupplyGrew
  pub robbed : IsRefusedByAlone Payments machine_robbing_alice AnotherPays
  pub misdirected : IsRefusedByAlone Payments (machine_telling for_carol) AnotherIsPaid
  pub misrefunded : IsRefusedByAlone Payments (machine_refunding from_carol) AnotherIsPaid
  pub other_note : IsRefusedByAlone Notes (machine_telling with_other_note) KeepsAnotherNote
