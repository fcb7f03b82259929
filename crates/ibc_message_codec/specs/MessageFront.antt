-- How messages are read: the tag tells the kind, and the fields stand behind it.
use Rattle.std.specs.Prelude.{Option, Some}
use Rattle.ibc_ids.specs.Texts.{Text}
use Rattle.ibc_wire.specs.Kinds.{kind_of_tag}
use Rattle.ibc_wire.specs.Reading.{◌>>=◌, Front, byte_at_front}
use Rattle.ibc_message_codec.specs.ClientFronts.{create_client_at_front, update_client_at_front}
use Rattle.ibc_message_codec.specs.ConnectionFronts.{conn_open_init_at_front, conn_open_try_at_front, conn_open_ack_at_front, conn_open_confirm_at_front}
use Rattle.ibc_message_codec.specs.ChannelFronts.{chan_open_init_at_front, chan_open_try_at_front, chan_open_ack_at_front, chan_open_confirm_at_front, chan_close_init_at_front, chan_close_confirm_at_front}
use Rattle.ibc_message_codec.specs.PacketFronts.{recv_packet_at_front, ack_packet_at_front, timeout_at_front, timeout_on_close_at_front}
use Rattle.ibc_message_codec.specs.TransferFronts.{transfer_at_front, send_note_at_front, transfer_many_at_front}
use Rattle.ibc_wire.specs.declared.messages.Message.{Message}
use Rattle.ibc_wire.specs.declared.messages.Message.TheVariants as message
use Rattle.ibc_wire.specs.declared.messages.MessageKind.{MessageKind}
use Rattle.ibc_wire.specs.declared.messages.MessageKind.TheVariants as kind

-- the kind of message that has the first byte for its tag
abbrev pub kind_at_front : Text → Option MessageKind
kind_at_front text = do
  tag ← byte_at_front text
  kind_of_tag tag.0

abbrev pub message_behind : MessageKind → Text → Front Message
message_behind kind.CreateClient text = do
  found ← create_client_at_front text
  Some (message.CreateClient found.0, found.1)
message_behind kind.UpdateClient text = do
  found ← update_client_at_front text
  Some (message.UpdateClient found.0, found.1)
message_behind kind.ConnOpenInit text = do
  found ← conn_open_init_at_front text
  Some (message.ConnOpenInit found.0, found.1)
message_behind kind.ConnOpenTry text = do
  found ← conn_open_try_at_front text
  Some (message.ConnOpenTry found.0, found.1)
message_behind kind.ConnOpenAck text = do
  found ← conn_open_ack_at_front text
  Some (message.ConnOpenAck found.0, found.1)
message_behind kind.ConnOpenConfirm text = do
  found ← conn_open_confirm_at_front text
  Some (message.ConnOpenConfirm found.0, found.1)
message_behind kind.ChanOpenInit text = do
  found ← chan_open_init_at_front text
  Some (message.ChanOpenInit found.0, found.1)
message_behind kind.ChanOpenTry text = do
  found ← chan_open_try_at_front text
  Some (message.ChanOpenTry found.0, found.1)
message_behind kind.ChanOpenAck text = do
  found ← chan_open_ack_at_front text
  Some (message.ChanOpenAck found.0, found.1)
message_behind kind.ChanOpenConfirm text = do
  found ← chan_open_confirm_at_front text
  Some (message.ChanOpenConfirm found.0, found.1)
message_behind kind.ChanCloseInit text = do
  found ← chan_close_init_at_front text
  Some (message.ChanCloseInit found.0, found.1)
message_behind kind.ChanCloseConfirm text = do
  found ← chan_close_confirm_at_front text
  Some (message.ChanCloseConfirm found.0, found.1)
message_behind kind.Transfer text = do
  found ← transfer_at_front text
  Some (message.Transfer found.0, found.1)
message_behind kind.SendNote text = do
  found ← send_note_at_front text
  Some (message.SendNote found.0, found.1)
message_behind kind.RecvPacket text = do
  found ← recv_packet_at_front text
  Some (message.RecvPacket found.0, found.1)
message_behind kind.AckPacket text = do
  found ← ack_packet_at_front text
  Some (message.AckPacket found.0, found.1)
message_behind kind.Timeout text = do
  found ← timeout_at_front text
  Some (message.Timeout found.0, found.1)
message_behind kind.TimeoutOnClose text = do
  found ← timeout_on_close_at_front text
  Some (message.TimeoutOnClose found.0, found.1)
message_behind kind.TransferMany text = do
  found ← transfer_many_at_front text
  Some (message.TransferMany found.0, found.1)

unfoldable pub message_at_front : Text → Front Message
message_at_front text = do
  tag ← byte_at_front text
  kind ← kind_of_tag tag.0
  message_behind kind tag.1
