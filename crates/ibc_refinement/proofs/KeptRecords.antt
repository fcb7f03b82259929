-- Every accepted message keeps the records typed, and every one but the two for clients keeps the clients.
use Rattle.std.proofs.Common.{◌≡◌, ◌<◌, ◌^◌, Ok}
use Rattle.std.specs.Prelude.{⊤}
use Rattle.ibc_ids.specs.Texts.{Text}
use Rattle.ibc_wire.specs.declared.messages.Transfer.{Transfer}
use Rattle.ibc_wire.specs.declared.messages.TransferMany.{TransferMany}
use Rattle.ibc_wire.specs.declared.messages.SendNote.{SendNote}
use Rattle.ibc_wire.specs.declared.messages.Message.{Message}
use Rattle.ibc_wire.specs.declared.messages.Message.TheVariants as message
use Rattle.ibc_machine.specs.declared.reply.Effect.{Effect}
use Rattle.ibc_machine.specs.chain.Records.{Core, Apps, Channel, Commitment}
use Rattle.ibc_machine.specs.chain.Checks.{Checked, ◌>>=◌}
use Rattle.ibc_machine.specs.ics24.Evidence.{Host, Evidence}
use Rattle.ibc_machine.specs.ics20.TokenData.{Data}
use Rattle.ibc_machine.specs.ics20.Bank.{Balances}
use Rattle.ibc_machine.specs.ics04.Packets.{sending_end}
use Rattle.ibc_machine.specs.ics20.Transfers.{transfer_port, transfer, transfer_many, send_tokens}
use Rattle.ibc_machine.specs.chain.Notes.{note_port, note_commitment, send_note}
use Rattle.ibc_machine.specs.chain.Handlers.{handle}
use Rattle.ibc_machine.proofs.PassedRows.{Gives, gives_ok, gives_then, gives_require, gives_bind}
use Rattle.ibc_machine.proofs.PacketChecks.{sending_passed}
use Rattle.ibc_machine.proofs.PassedHandlers.{gives_on_core, gives_on_balances}
use Rattle.ibc_refinement.proofs.Typed.{IsTyped}
use Rattle.ibc_refinement.proofs.TypedMessages.{IsTypedMessage}
use Rattle.ibc_refinement.proofs.KeptTypes.{GivesKept, GivesSound, KeptBeside, SoundBeside}
use Rattle.ibc_refinement.proofs.KeptConnections.{create_client_sound, update_client_sound, conn_open_init_kept, conn_open_try_kept, conn_open_ack_kept, conn_open_confirm_kept}
use Rattle.ibc_refinement.proofs.KeptChannels.{chan_open_init_kept, chan_open_try_kept, chan_open_ack_kept, chan_open_confirm_kept, chan_close_init_kept, chan_close_confirm_kept}
use Rattle.ibc_refinement.proofs.KeptPackets.{sent_kept, recv_packet_kept, ack_packet_kept, timeout_kept, timeout_on_close_kept}

-- ---- sending

module _ (evidence : Evidence) (host : Host) (core : Core) (typed : IsTyped core) where
  send_note_kept : (m : SendNote) → IsTypedMessage (message.SendNote m) → Gives (GivesKept core) (send_note m evidence host core)
  unfolding send_note
  send_note_kept m t =
      gives_bind _ _ λ (mine : Channel) is. gives_then _ _ λ _. gives_then _ _ λ _. gives_require _ _ _ λ number.
      gives_ok (GivesKept core) _ (sent_kept core typed note_port m.channel mine (note_commitment m) (sending_passed core note_port m.channel mine is).there t.0 t.1 number)

  module _ (balances : Balances) where
    send_tokens_kept : (name : Text) (mine : Channel) (d : Data) (c : Commitment) → sending_end core transfer_port name ≡ Ok mine → c.timeout_height < 2 ^ 64 → c.timeout_time < 2 ^ 64
        → Gives (KeptBeside core) (send_tokens name mine d c evidence host core balances)
    unfolding send_tokens
    send_tokens_kept name mine d c is height time =
        gives_then _ _ λ _. gives_bind _ _ λ (left : Balances) _. gives_require _ _ _ λ number.
        gives_ok (KeptBeside core) _ (sent_kept core typed transfer_port name mine c (sending_passed core transfer_port name mine is).there height time number)

    transfer_kept : (m : Transfer) → IsTypedMessage (message.Transfer m) → Gives (KeptBeside core) (transfer m evidence host core balances)
    unfolding transfer
    transfer_kept m t = gives_bind _ _ λ (mine : Channel) is. gives_then _ _ λ _. gives_then _ _ λ _. send_tokens_kept m.channel mine _ _ is t.0 t.1

    transfer_many_kept : (m : TransferMany) → IsTypedMessage (message.TransferMany m) → Gives (KeptBeside core) (transfer_many m evidence host core balances)
    unfolding transfer_many
    transfer_many_kept m t =
        gives_then _ _ λ _. gives_bind _ _ λ (mine : Channel) is. gives_then _ _ λ _. gives_then _ _ λ _. send_tokens_kept m.channel mine _ _ is t.0 t.1

-- ---- all messages

-- not one of the two messages for clients
abbrev pub IsOtherMessage : Message → Type 0
IsOtherMessage (message.CreateClient m) = ⊥
IsOtherMessage (message.UpdateClient m) = ⊥
IsOtherMessage m = ⊤

module _ (evidence : Evidence) (host : Host) (core : Core) (typed : IsTyped core) (apps : Apps) where
  of_core : {given : Checked (Effect × Core)} → Gives (GivesKept core) given → Gives (KeptBeside core) (given >>= λ ((effect, after) : Effect × Core). Ok (effect, after, apps))
  of_core {given} h = gives_on_core (KeptBeside core) given apps h

  of_client : {given : Checked (Effect × Core)} → Gives GivesSound given → Gives SoundBeside (given >>= λ ((effect, after) : Effect × Core). Ok (effect, after, apps))
  of_client {given} h = gives_on_core SoundBeside given apps h

  pub handle_kept : (m : Message) → IsOtherMessage m → IsTypedMessage m → Gives (KeptBeside core) (handle m evidence host core apps)
  unfolding handle
  handle_kept (message.CreateClient m) other t = absurd other
  handle_kept (message.UpdateClient m) other t = absurd other
  handle_kept (message.ConnOpenInit m) other t = of_core (conn_open_init_kept evidence host core typed m t)
  handle_kept (message.ConnOpenTry m) other t = of_core (conn_open_try_kept evidence host core typed m t)
  handle_kept (message.ConnOpenAck m) other t = of_core (conn_open_ack_kept evidence host core typed m t)
  handle_kept (message.ConnOpenConfirm m) other t = of_core (conn_open_confirm_kept evidence host core typed m)
  handle_kept (message.ChanOpenInit m) other t = of_core (chan_open_init_kept evidence host core typed _ _ m t)
  handle_kept (message.ChanOpenTry m) other t = of_core (chan_open_try_kept evidence host core typed _ _ m t)
  handle_kept (message.ChanOpenAck m) other t = of_core (chan_open_ack_kept evidence host core typed m t)
  handle_kept (message.ChanOpenConfirm m) other t = of_core (chan_open_confirm_kept evidence host core typed m)
  handle_kept (message.ChanCloseInit m) other t = of_core (chan_close_init_kept evidence host core typed _ m)
  handle_kept (message.ChanCloseConfirm m) other t = of_core (chan_close_confirm_kept evidence host core typed m)
  handle_kept (message.Transfer m) other t = gives_on_balances (KeptBeside core) _ apps (transfer_kept evidence host core typed apps.balances m t)
  handle_kept (message.TransferMany m) other t = gives_on_balances (KeptBeside core) _ apps (transfer_many_kept evidence host core typed apps.balances m t)
  handle_kept (message.SendNote m) other t = of_core (send_note_kept evidence host core typed m t)
  handle_kept (message.RecvPacket m) other t = recv_packet_kept evidence host core typed apps _ m t.0
  handle_kept (message.AckPacket m) other t = ack_packet_kept evidence host core typed apps _ m t.0
  handle_kept (message.Timeout m) other t = timeout_kept evidence host core typed apps _ m
  handle_kept (message.TimeoutOnClose m) other t = timeout_on_close_kept evidence host core typed apps _ m

  pub handle_sound : (m : Message) → IsTypedMessage m → Gives SoundBeside (handle m evidence host core apps)
  unfolding handle
  handle_sound (message.CreateClient m) t = of_client (create_client_sound evidence host core typed m t)
  handle_sound (message.UpdateClient m) t = of_client (update_client_sound evidence host core typed m t)
  handle_sound m t = record { gives = λ w is. ((handle_kept m tt t).gives w is).sound }
