-- The fields of the messages of channels behind their tags, and how they are read.
use Rattle.std.specs.Prelude.{List, [], ◌∷◌, Some}
use Rattle.std.specs.Int.{w64}
use Rattle.ibc_ids.specs.Texts.{Text}
use Rattle.ibc_ids.specs.Names.{is_connection, is_channel, is_port, is_version}
use Rattle.ibc_wire.specs.Fields.{Field, one_byte, be64, str, name}
use Rattle.ibc_wire.specs.Spelling.{order_number}
use Rattle.ibc_wire.specs.Reading.{◌>>=◌, Front, str_at_front}
use Rattle.ibc_wire.specs.Fronts.{number_at_front, name_at_front, coded_at_front}
use Rattle.ibc_wire.specs.RecordFronts.{order_of}
use Rattle.ibc_wire.specs.declared.messages.ChanOpenInit.{ChanOpenInit}
use Rattle.ibc_wire.specs.declared.messages.ChanOpenTry.{ChanOpenTry}
use Rattle.ibc_wire.specs.declared.messages.ChanOpenAck.{ChanOpenAck}
use Rattle.ibc_wire.specs.declared.messages.ChanOpenConfirm.{ChanOpenConfirm}
use Rattle.ibc_wire.specs.declared.messages.ChanCloseInit.{ChanCloseInit}
use Rattle.ibc_wire.specs.declared.messages.ChanCloseConfirm.{ChanCloseConfirm}

abbrev pub chan_open_init_fields : ChanOpenInit → List Field
chan_open_init_fields m = name is_port m.port ∷ one_byte (order_number m.order) ∷ name is_connection m.connection ∷ name is_port m.peer_port ∷ name is_version m.version ∷ []

unfoldable pub chan_open_init_at_front : Text → Front ChanOpenInit
chan_open_init_at_front text = do
  port ← name_at_front is_port text
  order ← coded_at_front order_of port.1
  connection ← name_at_front is_connection order.1
  peer_port ← name_at_front is_port connection.1
  version ← name_at_front is_version peer_port.1
  Some (record { port = port.0; order = order.0; connection = connection.0; peer_port = peer_port.0; version = version.0 }, version.1)

abbrev pub chan_open_try_fields : ChanOpenTry → List Field
chan_open_try_fields m = name is_port m.port ∷ one_byte (order_number m.order) ∷ name is_connection m.connection ∷ name is_port m.peer_port ∷ name is_channel m.peer_channel ∷ name is_version m.version ∷ be64 m.height ∷ str m.proof ∷ []

unfoldable pub chan_open_try_at_front : Text → Front ChanOpenTry
chan_open_try_at_front text = do
  port ← name_at_front is_port text
  order ← coded_at_front order_of port.1
  connection ← name_at_front is_connection order.1
  peer_port ← name_at_front is_port connection.1
  peer_channel ← name_at_front is_channel peer_port.1
  version ← name_at_front is_version peer_channel.1
  height ← number_at_front w64 version.1
  proof ← str_at_front 65535 height.1
  Some (record { port = port.0; order = order.0; connection = connection.0; peer_port = peer_port.0; peer_channel = peer_channel.0; version = version.0; height = height.0; proof = proof.0 }, proof.1)

abbrev pub chan_open_ack_fields : ChanOpenAck → List Field
chan_open_ack_fields m = name is_port m.port ∷ name is_channel m.channel ∷ name is_channel m.peer_channel ∷ be64 m.height ∷ str m.proof ∷ []

unfoldable pub chan_open_ack_at_front : Text → Front ChanOpenAck
chan_open_ack_at_front text = do
  port ← name_at_front is_port text
  channel ← name_at_front is_channel port.1
  peer_channel ← name_at_front is_channel channel.1
  height ← number_at_front w64 peer_channel.1
  proof ← str_at_front 65535 height.1
  Some (record { port = port.0; channel = channel.0; peer_channel = peer_channel.0; height = height.0; proof = proof.0 }, proof.1)

abbrev pub chan_open_confirm_fields : ChanOpenConfirm → List Field
chan_open_confirm_fields m = name is_port m.port ∷ name is_channel m.channel ∷ be64 m.height ∷ str m.proof ∷ []

unfoldable pub chan_open_confirm_at_front : Text → Front ChanOpenConfirm
chan_open_confirm_at_front text = do
  port ← name_at_front is_port text
  channel ← name_at_front is_channel port.1
  height ← number_at_front w64 channel.1
  proof ← str_at_front 65535 height.1
  Some (record { port = port.0; channel = channel.0; height = height.0; proof = proof.0 }, proof.1)

abbrev pub chan_close_init_fields : ChanCloseInit → List Field
chan_close_init_fields m = name is_port m.port ∷ name is_channel m.channel ∷ []

unfoldable pub chan_close_init_at_front : Text → Front ChanCloseInit
chan_close_init_at_front text = do
  port ← name_at_front is_port text
  channel ← name_at_front is_channel port.1
  Some (record { port = port.0; channel = channel.0 }, channel.1)

abbrev pub chan_close_confirm_fields : ChanCloseConfirm → List Field
chan_close_confirm_fields m = name is_port m.port ∷ name is_channel m.channel ∷ be64 m.height ∷ str m.proof ∷ []

unfoldable pub chan_close_confirm_at_front : Text → Front ChanCloseConfirm
chan_close_confirm_at_front text = do
  port ← name_at_front is_port text
  channel ← name_at_front is_channel port.1
  height ← number_at_front w64 channel.1
  proof ← str_at_front 65535 height.1
  Some (record { port = port.0; channel = channel.0; height = height.0; proof = proof.0 }, proof.1)
