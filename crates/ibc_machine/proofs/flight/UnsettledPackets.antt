-- A packet that was sent and isn't settled yet: its tokens that go back are covered by what is burnt in flight.
use Rattle.std.proofs.Common.{◌≡◌, ◌≤◌, true, Ok, arith}
use Rattle.ibc_ids.specs.Texts.{Text, same_text}
use Rattle.ibc_wire.specs.declared.packet.Packet.{Packet}
use Rattle.ibc_wire.specs.declared.messages.AckPacket.{AckPacket}
use Rattle.ibc_wire.specs.declared.messages.Timeout.{Timeout}
use Rattle.ibc_wire.specs.declared.messages.TimeoutOnClose.{TimeoutOnClose}
use Rattle.ibc_machine.specs.chain.Records.{Core, Channel, commitment_of}
use Rattle.ibc_machine.specs.ics24.Evidence.{Host, Evidence}
use Rattle.ibc_machine.specs.ics04.Packets.{ack_checked, timeout_checked, timeout_on_close_checked}
use Rattle.ibc_machine.specs.ics20.TokenData.{tokens_of}
use Rattle.ibc_machine.specs.ics20.Transfers.{transfer_port, burnt_amount}
use Rattle.ibc_machine.proofs.PacketChecks.{IsUnsettled, ack_passed, timeout_passed, timeout_on_close_passed}
use Rattle.ibc_machine.specs.ics20.ReturningTokens.{returned_amount}
use Rattle.ibc_machine.proofs.flight.BurntSteps.{burnt_by-transfer, committed_covered}

covered : (core : Core) (p : Packet) (mine : Channel) → IsUnsettled core p mine → same_text p.source_port transfer_port ≡ true
    → (denom : Text) → returned_amount p.source_channel (tokens_of mine.end.version (commitment_of p)) denom ≤ burnt_amount core denom
covered core p mine stands ours denom =
    let all = committed_covered core p.source_port p.source_channel mine p.sequence (commitment_of p) stands.there stands.committed denom in
    let same = burnt_by-transfer p.source_port p.source_channel (tokens_of mine.end.version (commitment_of p)) denom ours in
    omega arith

module _ (evidence : Evidence) (host : Host) (core : Core) where
  pub ack_covered : (m : AckPacket) (mine : Channel) → same_text m.packet.source_port transfer_port ≡ true
      → ack_checked m evidence host core ≡ Ok mine
      → (denom : Text) → returned_amount m.packet.source_channel (tokens_of mine.end.version (commitment_of m.packet)) denom ≤ burnt_amount core denom
  ack_covered m mine ours e = covered core m.packet mine (ack_passed evidence host core m mine e).unsettled ours

  pub timeout_covered : (m : Timeout) (mine : Channel) → same_text m.packet.source_port transfer_port ≡ true
      → timeout_checked m evidence host core ≡ Ok mine
      → (denom : Text) → returned_amount m.packet.source_channel (tokens_of mine.end.version (commitment_of m.packet)) denom ≤ burnt_amount core denom
  timeout_covered m mine ours e = covered core m.packet mine (timeout_passed evidence host core m mine e).unsettled ours

  pub timeout_on_close_covered : (m : TimeoutOnClose) (mine : Channel) → same_text m.packet.source_port transfer_port ≡ true
      → timeout_on_close_checked m evidence host core ≡ Ok mine
      → (denom : Text) → returned_amount m.packet.source_channel (tokens_of mine.end.version (commitment_of m.packet)) denom ≤ burnt_amount core denom
  timeout_on_close_covered m mine ours e = covered core m.packet mine (timeout_on_close_passed evidence host core m mine e).unsettled ours
