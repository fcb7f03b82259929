-- What events are called in printed lines.
use Rattle.std.specs.Prelude.{codes}
use Rattle.ibc_ids.specs.Texts.{Text}
use Rattle.ibc_wire.specs.Kinds as wire
use Rattle.ibc_wire.specs.declared.messages.MessageKind.{MessageKind}
use Rattle.ibc_wire.specs.declared.messages.MessageKind.TheVariants as kind
use Rattle.ibc_script.specs.declared.draft.ClientDraft.{ClientDraft}
use Rattle.ibc_script.specs.declared.draft.ClientDraft.TheVariants as client
use Rattle.ibc_script.specs.declared.draft.ConnectionDraft.{ConnectionDraft}
use Rattle.ibc_script.specs.declared.draft.ConnectionDraft.TheVariants as connection
use Rattle.ibc_script.specs.declared.draft.ChannelDraft.{ChannelDraft}
use Rattle.ibc_script.specs.declared.draft.ChannelDraft.TheVariants as channel
use Rattle.ibc_script.specs.declared.draft.PacketDraft.{PacketDraft}
use Rattle.ibc_script.specs.declared.draft.PacketDraft.TheVariants as packet
use Rattle.ibc_script.specs.declared.draft.Draft.{Draft}
use Rattle.ibc_script.specs.declared.draft.Draft.TheVariants as draft
use Rattle.ibc_script.specs.declared.event_kind.EventKind.{EventKind}
use Rattle.ibc_script.specs.declared.event_kind.EventKind.TheVariants as event

-- the kinds of the messages that a script's steps name
abbrev pub client_draft_kind : ClientDraft → MessageKind
client_draft_kind (client.Create of) = kind.CreateClient
client_draft_kind (client.Update id height) = kind.UpdateClient

abbrev pub connection_draft_kind : ConnectionDraft → MessageKind
connection_draft_kind (connection.OpenInit id peer_client) = kind.ConnOpenInit
connection_draft_kind (connection.OpenTry id peer_client peer_connection from) = kind.ConnOpenTry
connection_draft_kind (connection.OpenAck id peer_connection from) = kind.ConnOpenAck
connection_draft_kind (connection.OpenConfirm id from) = kind.ConnOpenConfirm

abbrev pub channel_draft_kind : ChannelDraft → MessageKind
channel_draft_kind (channel.OpenInit m) = kind.ChanOpenInit
channel_draft_kind (channel.OpenTry d) = kind.ChanOpenTry
channel_draft_kind (channel.OpenAck port id peer_channel from) = kind.ChanOpenAck
channel_draft_kind (channel.OpenConfirm port id from) = kind.ChanOpenConfirm
channel_draft_kind (channel.CloseInit m) = kind.ChanCloseInit
channel_draft_kind (channel.CloseConfirm port id from) = kind.ChanCloseConfirm

abbrev pub packet_draft_kind : PacketDraft → MessageKind
packet_draft_kind (packet.Transfer m) = kind.Transfer
packet_draft_kind (packet.TransferMany t) = kind.TransferMany
packet_draft_kind (packet.SendNote m) = kind.SendNote
packet_draft_kind (packet.Recv sent height) = kind.RecvPacket
packet_draft_kind (packet.Ack sent from) = kind.AckPacket
packet_draft_kind (packet.Timeout sent from) = kind.Timeout
packet_draft_kind (packet.TimeoutOnClose sent from) = kind.TimeoutOnClose

abbrev pub draft_kind : Draft → MessageKind
draft_kind (draft.Client d) = client_draft_kind d
draft_kind (draft.Connection d) = connection_draft_kind d
draft_kind (draft.Channel d) = channel_draft_kind d
draft_kind (draft.Packet d) = packet_draft_kind d

abbrev pub kind_name_of : EventKind → Text
kind_name_of (event.Message k) = wire.name_of k
kind_name_of event.Block = codes "Block"
