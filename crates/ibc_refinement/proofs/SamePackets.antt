-- Packets: handlers answer alike under two ways to judge that agree on what they ask.
use Rattle.std.proofs.Common.{◌≡◌, true, false, ◌&&◌, ◌||◌, not, refl, ap, ap₂, Some, None, Option}
use Rattle.std.specs.Option.{option_map_or}
use Rattle.ibc_ids.specs.Texts.{Text}
use Rattle.ibc_ids.specs.declared.refusal.Refusal.TheVariants as refusal
use Rattle.ibc_wire.specs.declared.messages.Transfer.{Transfer}
use Rattle.ibc_wire.specs.declared.messages.TransferMany.{TransferMany}
use Rattle.ibc_wire.specs.declared.messages.SendNote.{SendNote}
use Rattle.ibc_wire.specs.declared.messages.RecvPacket.{RecvPacket}
use Rattle.ibc_wire.specs.declared.messages.AckPacket.{AckPacket}
use Rattle.ibc_wire.specs.declared.messages.Timeout.{Timeout}
use Rattle.ibc_wire.specs.declared.messages.TimeoutOnClose.{TimeoutOnClose}
use Rattle.ibc_wire.specs.declared.packet.Packet.{Packet}
use Rattle.ibc_wire.specs.declared.records.ChannelState.TheVariants.{Closed}
use Rattle.ibc_machine.specs.chain.Records.{Core, Client, Channel, Commitment, client_at, channel_at, is_known_height, commitment_of}
use Rattle.ibc_machine.specs.chain.Checks.{Checked, require}
use Rattle.ibc_machine.specs.ics24.Evidence.{Host, Evidence}
use Rattle.ibc_machine.specs.ics04.Channels.{client_of, counterpart, has_channel}
use Rattle.ibc_machine.specs.ics20.TokenData.{Data}
use Rattle.ibc_machine.specs.ics04.Packets.{has_form, has_size, is_timed_out, is_reached, has_passed, require_timeouts, recv_checked, recv_packet, ack_checked, ack_packet, timeout_checked, timeout, timeout_on_close_checked, timeout_on_close, was_sent, was_acknowledged, not_received}
use Rattle.ibc_machine.specs.ics20.Bank.{Balances}
use Rattle.ibc_machine.specs.ics20.Transfers.{transfer, transfer_many, send_tokens}
use Rattle.ibc_machine.specs.chain.Notes.{send_note, note_commitment}
use Rattle.ibc_machine.proofs.PassedRows.{require_holds, expect_passed}
use Rattle.ibc_refinement.proofs.Checked.{then_same, bind_same, bind_front_same}
use Rattle.ibc_refinement.proofs.Agreeing.{Asked, Agree, shows_same}

module _ (asked : Asked) (one other : Evidence) (host : Host) (core : Core) (agree : Agree asked one other core) where
  -- ---- sending

  passed_same : (id : Text) (c : Commitment) (client : Client) → has_passed one core id c client ≡ has_passed other core id c client
  passed_same id c client =
      elim (is_known_height core id client.state.latest) as (λ k. is_known_height core id client.state.latest ≡ k
      → (is_reached c.timeout_height client.state.latest || (k && is_reached c.timeout_time (one.time_at id client.state.latest)))
      ≡ (is_reached c.timeout_height client.state.latest || (k && is_reached c.timeout_time (other.time_at id client.state.latest)))) [
        | true ↦ λ known. ap (λ t. is_reached c.timeout_height client.state.latest || is_reached c.timeout_time t) (agree.time_at id client.state.latest known)
        | false ↦ λ _. refl
      ] refl

  all_passed_same : (id : Text) (c : Commitment) (o : Option Client) → option_map_or (has_passed one core id c) o false ≡ option_map_or (has_passed other core id c) o false
  all_passed_same id c None = refl
  all_passed_same id c (Some client) = passed_same id c client

  timeouts_same : (mine : Channel) (c : Commitment) → require_timeouts one core mine c ≡ require_timeouts other core mine c
  unfolding require_timeouts
  timeouts_same mine c =
      let id = client_of core mine.end.connection in
      then_same _ _ _ _ refl λ _. then_same _ _ _ _ (ap (λ b. require (not b) refusal.TimeoutPassed) (all_passed_same id c (client_at core id))) λ _. refl

  pub send_note_same : (m : SendNote) → send_note m one host core ≡ send_note m other host core
  unfolding send_note
  send_note_same m =
      bind_same _ _ _ λ (mine : Channel) _. then_same _ _ _ _ refl λ _. then_same _ _ _ _ (timeouts_same mine (note_commitment m)) λ _. refl

  -- ---- packets

  pub recv_packet_same : {A : Type 0} (on_recv : A → Text → Packet → Text × A) (m : RecvPacket) (app : A) → asked (was_sent m.packet) m.proof
      → recv_packet on_recv m one host core app ≡ recv_packet on_recv m other host core app
  unfolding recv_packet recv_checked
  recv_packet_same on_recv m app a = bind_front_same _ _ _ checked
    where
      checked : recv_checked m one host core ≡ recv_checked m other host core
      checked =
          then_same _ _ _ _ (ap (λ b. require (has_form m.packet && b) refusal.BadMessage) (agree.is_proof m.proof)) λ _. bind_same _ _ _ λ (mine : Channel) _. then_same _ _ _ _ refl λ _. then_same _ _ _ _ refl λ known.
          then_same _ _ _ _ (shows_same asked one other core agree (client_of core mine.end.connection) m.height _ m.proof (require_holds _ _ known) a) λ _. refl

  pub ack_packet_same : {A : Type 0} (on_ack : A → Text → Packet → Text → Checked A) (m : AckPacket) (app : A) → asked (was_acknowledged m.packet m.ack) m.proof
      → ack_packet on_ack m one host core app ≡ ack_packet on_ack m other host core app
  unfolding ack_packet ack_checked
  ack_packet_same on_ack m app a = bind_front_same _ _ _ checked
    where
      checked : ack_checked m one host core ≡ ack_checked m other host core
      checked =
          then_same _ _ _ _ (ap (λ b. require (has_form m.packet && has_size m.ack && b) refusal.BadMessage) (agree.is_proof m.proof)) λ _. bind_same _ _ _ λ (mine : Channel) _. then_same _ _ _ _ refl λ _. then_same _ _ _ _ refl λ known.
          then_same _ _ _ _ (shows_same asked one other core agree (client_of core mine.end.connection) m.height _ m.proof (require_holds _ _ known) a) λ _. refl

  pub timeout_same : {A : Type 0} (on_timeout : A → Text → Packet → Checked A) (m : Timeout) (app : A)
      → ((mine : Channel) → channel_at core m.packet.source_port m.packet.source_channel ≡ Some mine → asked (not_received mine m.packet m.next_recv) m.proof)
      → timeout on_timeout m one host core app ≡ timeout on_timeout m other host core app
  unfolding timeout timeout_checked
  timeout_same on_timeout m app a = bind_front_same _ _ _ checked
    where
      checked : timeout_checked m one host core ≡ timeout_checked m other host core
      checked =
          then_same _ _ _ _ (ap (λ b. require (has_form m.packet && b) refusal.BadMessage) (agree.is_proof m.proof)) λ _. bind_same _ _ _ λ (mine : Channel) is. then_same _ _ _ _ refl λ _.
          let client = client_of core mine.end.connection in
          let there = expect_passed (channel_at core m.packet.source_port m.packet.source_channel) refusal.UnknownChannel is in
          then_same _ _ _ _ refl λ known.
          then_same _ _ _ _ (ap (λ t. require (is_timed_out (commitment_of m.packet) m.height t) refusal.NotTimedOut) (agree.time_at client m.height (require_holds _ _ known))) λ _. then_same _ _ _ _ refl λ _.
          then_same _ _ _ _ (shows_same asked one other core agree client m.height _ m.proof (require_holds _ _ known) (a mine there)) λ _. refl

  pub timeout_on_close_same : {A : Type 0} (on_timeout : A → Text → Packet → Checked A) (m : TimeoutOnClose) (app : A)
      → ((mine : Channel) → channel_at core m.packet.source_port m.packet.source_channel ≡ Some mine
      → asked (not_received mine m.packet m.next_recv) m.proof
      × asked (has_channel mine.end m.packet.destination_channel (counterpart core mine.end m.packet.source_port (Some m.packet.source_channel) Closed)) m.proof_close)
      → timeout_on_close on_timeout m one host core app ≡ timeout_on_close on_timeout m other host core app
  unfolding timeout_on_close timeout_on_close_checked
  timeout_on_close_same on_timeout m app a = bind_front_same _ _ _ checked
    where
      checked : timeout_on_close_checked m one host core ≡ timeout_on_close_checked m other host core
      checked =
          then_same _ _ _ _ (ap₂ (λ x y. require (has_form m.packet && x && y) refusal.BadMessage) (agree.is_proof m.proof) (agree.is_proof m.proof_close)) λ _. bind_same _ _ _ λ (mine : Channel) is. then_same _ _ _ _ refl λ _.
          let client = client_of core mine.end.connection in
          let there = expect_passed (channel_at core m.packet.source_port m.packet.source_channel) refusal.UnknownChannel is in
          then_same _ _ _ _ refl λ known. then_same _ _ _ _ refl λ _.
          then_same _ _ _ _ (shows_same asked one other core agree client m.height _ m.proof (require_holds _ _ known) (a mine there).0) λ _.
          then_same _ _ _ _ (shows_same asked one other core agree client m.height _ m.proof_close (require_holds _ _ known) (a mine there).1) λ _. refl

  -- ---- transfers

  send_tokens_same : (channel : Text) (mine : Channel) (d : Data) (c : Commitment) (balances : Balances)
      → send_tokens channel mine d c one host core balances ≡ send_tokens channel mine d c other host core balances
  unfolding send_tokens
  send_tokens_same channel mine d c balances = then_same _ _ _ _ (timeouts_same mine c) λ _. refl

  pub transfer_same : (m : Transfer) (balances : Balances) → transfer m one host core balances ≡ transfer m other host core balances
  unfolding transfer
  transfer_same m balances = bind_same _ _ _ λ (mine : Channel) _. then_same _ _ _ _ refl λ _. then_same _ _ _ _ refl λ _. send_tokens_same m.channel mine _ _ balances

  pub transfer_many_same : (m : TransferMany) (balances : Balances) → transfer_many m one host core balances ≡ transfer_many m other host core balances
  unfolding transfer_many
  transfer_many_same m balances =
      then_same _ _ _ _ refl λ _. bind_same _ _ _ λ (mine : Channel) _. then_same _ _ _ _ refl λ _. then_same _ _ _ _ refl λ _. send_tokens_same m.channel mine _ _ balances
