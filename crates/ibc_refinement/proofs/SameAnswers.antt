-- A chain answers each message alike under two ways to judge that agree on what the message asks.
use Rattle.std.proofs.Common.{◌≡◌, true, ◌||◌, refl, Some, None}
use Rattle.std.specs.Prelude.{⊤}
use Rattle.ibc_ids.specs.Texts.{Text}
use Rattle.ibc_wire.specs.declared.messages.Message.{Message}
use Rattle.ibc_wire.specs.declared.messages.Message.TheVariants as message
use Rattle.ibc_wire.specs.declared.records.ConnectionEnd.{ConnectionEnd}
use Rattle.ibc_wire.specs.declared.records.ConnectionState.TheVariants as conn
use Rattle.ibc_wire.specs.declared.records.ChannelState.TheVariants.{Init, TryOpen, Open, Closed}
use Rattle.ibc_machine.specs.chain.Records.{Core, Apps, Client, Channel, client_at, connection_at, channel_at}
use Rattle.ibc_machine.specs.ics24.Evidence.{Host, Evidence}
use Rattle.ibc_machine.specs.ics02.Clients.{create_client, is_of_client}
use Rattle.ibc_machine.specs.ics03.Connections.{conn_open_init, connection_end, has_connection, has_client}
use Rattle.ibc_machine.specs.ics04.Channels.{chan_open_init, chan_close_init, is_in_state, counterpart, has_channel, peer_channel_of, channel_end}
use Rattle.ibc_machine.specs.ics04.Packets.{was_sent, was_acknowledged, not_received}
use Rattle.ibc_machine.specs.chain.Handlers.{handle}
use Rattle.ibc_refinement.proofs.Checked.{bind_front_same}
use Rattle.ibc_refinement.proofs.Agreeing.{Asked, Agree, AgreeOn}
use Rattle.ibc_refinement.proofs.SameConnections.{update_client_same, conn_open_try_same, conn_open_ack_same, conn_open_confirm_same}
use Rattle.ibc_refinement.proofs.SameChannels.{chan_open_try_same, chan_open_ack_same, chan_open_confirm_same, chan_close_confirm_same}
use Rattle.ibc_refinement.proofs.SamePackets.{transfer_same, transfer_many_same, send_note_same, recv_packet_same, ack_packet_same, timeout_same, timeout_on_close_same}

-- the claims that a message makes, where the checks before them have passed
abbrev pub AllAsked : Asked → Core → Message → Type 0
AllAsked asked core (message.ConnOpenTry m) =
    asked (has_connection m.peer_connection (connection_end conn.Init m.peer_client m.client None)) m.proof_end
    × asked (has_client m.peer_client m.claim) m.proof_client
AllAsked asked core (message.ConnOpenAck m) =
    (mine : ConnectionEnd) → connection_at core m.connection ≡ Some mine
    → asked (has_connection m.peer_connection (connection_end conn.TryOpen mine.peer_client mine.client (Some m.connection))) m.proof_end
    × asked (has_client mine.peer_client m.claim) m.proof_client
AllAsked asked core (message.ConnOpenConfirm m) =
    (mine : ConnectionEnd) (peer : Text) → connection_at core m.connection ≡ Some mine → mine.peer_connection ≡ Some peer
    → asked (has_connection peer (connection_end conn.Open mine.peer_client mine.client (Some m.connection))) m.proof
AllAsked asked core (message.ChanOpenTry m) =
    let mine = channel_end TryOpen m.order m.peer_port (Some m.peer_channel) m.connection m.version in
    asked (has_channel mine m.peer_channel (counterpart core mine m.port None Init)) m.proof
AllAsked asked core (message.ChanOpenAck m) =
    (mine : Channel) → channel_at core m.port m.channel ≡ Some mine
    → asked (has_channel mine.end m.peer_channel (counterpart core mine.end m.port (Some m.channel) TryOpen)) m.proof
AllAsked asked core (message.ChanOpenConfirm m) =
    (mine : Channel) → channel_at core m.port m.channel ≡ Some mine → is_in_state TryOpen mine ≡ true
    → asked (has_channel mine.end (peer_channel_of mine.end) (counterpart core mine.end m.port (Some m.channel) Open)) m.proof
AllAsked asked core (message.ChanCloseConfirm m) =
    (mine : Channel) → channel_at core m.port m.channel ≡ Some mine → (is_in_state TryOpen mine || is_in_state Open mine) ≡ true
    → asked (has_channel mine.end (peer_channel_of mine.end) (counterpart core mine.end m.port (Some m.channel) Closed)) m.proof
AllAsked asked core (message.RecvPacket m) = asked (was_sent m.packet) m.proof
AllAsked asked core (message.AckPacket m) = asked (was_acknowledged m.packet m.ack) m.proof
AllAsked asked core (message.Timeout m) =
    (mine : Channel) → channel_at core m.packet.source_port m.packet.source_channel ≡ Some mine → asked (not_received mine m.packet m.next_recv) m.proof
AllAsked asked core (message.TimeoutOnClose m) =
    (mine : Channel) → channel_at core m.packet.source_port m.packet.source_channel ≡ Some mine
    → asked (not_received mine m.packet m.next_recv) m.proof
    × asked (has_channel mine.end m.packet.destination_channel (counterpart core mine.end m.packet.source_port (Some m.packet.source_channel) Closed)) m.proof_close
AllAsked asked core m = ⊤

-- the header that a message hands over, where the client is there and the header is of its chain
abbrev pub AgreeOnHeader : Evidence → Evidence → Core → Message → Type 0
AgreeOnHeader one other core (message.UpdateClient m) =
    (client : Client) → client_at core m.client ≡ Some client → is_of_client client m.header ≡ true → AgreeOn one other m.header
AgreeOnHeader one other core m = ⊤

module _ (asked : Asked) (one other : Evidence) (host : Host) (core : Core) (apps : Apps) (agree : Agree asked one other core) where
  pub handle_same : (m : Message) → AgreeOnHeader one other core m → AllAsked asked core m → handle m one host core apps ≡ handle m other host core apps
  unfolding handle create_client conn_open_init chan_open_init chan_close_init
  handle_same (message.CreateClient m) header a = refl
  handle_same (message.UpdateClient m) header a = bind_front_same _ _ _ (update_client_same one other host core m header)
  handle_same (message.ConnOpenInit m) header a = refl
  handle_same (message.ConnOpenTry m) header a = bind_front_same _ _ _ (conn_open_try_same asked one other host core agree m a.0 a.1)
  handle_same (message.ConnOpenAck m) header a = bind_front_same _ _ _ (conn_open_ack_same asked one other host core agree m a)
  handle_same (message.ConnOpenConfirm m) header a = bind_front_same _ _ _ (conn_open_confirm_same asked one other host core agree m a)
  handle_same (message.ChanOpenInit m) header a = refl
  handle_same (message.ChanOpenTry m) header a = bind_front_same _ _ _ (chan_open_try_same asked one other host core agree _ _ m a)
  handle_same (message.ChanOpenAck m) header a = bind_front_same _ _ _ (chan_open_ack_same asked one other host core agree m a)
  handle_same (message.ChanOpenConfirm m) header a = bind_front_same _ _ _ (chan_open_confirm_same asked one other host core agree m a)
  handle_same (message.ChanCloseInit m) header a = refl
  handle_same (message.ChanCloseConfirm m) header a = bind_front_same _ _ _ (chan_close_confirm_same asked one other host core agree m a)
  handle_same (message.Transfer m) header a = bind_front_same _ _ _ (transfer_same asked one other host core agree m apps.balances)
  handle_same (message.TransferMany m) header a = bind_front_same _ _ _ (transfer_many_same asked one other host core agree m apps.balances)
  handle_same (message.SendNote m) header a = bind_front_same _ _ _ (send_note_same asked one other host core agree m)
  handle_same (message.RecvPacket m) header a = recv_packet_same asked one other host core agree _ m apps a
  handle_same (message.AckPacket m) header a = ack_packet_same asked one other host core agree _ m apps a
  handle_same (message.Timeout m) header a = timeout_same asked one other host core agree _ m apps a
  handle_same (message.TimeoutOnClose m) header a = timeout_on_close_same asked one other host core agree _ m apps a
