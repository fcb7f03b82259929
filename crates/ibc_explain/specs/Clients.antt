-- Which client an entry is about, the chain that it tracks, and the height that the entry tells.
use Rattle.std.specs.Prelude.{ℕ, Option, None, Some}
use Rattle.ibc_ids.specs.Texts.{Text}
use Rattle.ibc_ids.specs.declared.refusal.Refusal.TheVariants as refusal
use Rattle.ibc_machine.specs.declared.entry.Entry.{Entry}
use Rattle.ibc_machine.specs.declared.event.Event.{Event}
use Rattle.ibc_machine.specs.declared.event.Event.TheVariants as event
use Rattle.ibc_machine.specs.declared.reply.Effect.TheVariants as effect
use Rattle.ibc_machine.specs.declared.reply.Reply.{Reply}
use Rattle.ibc_machine.specs.declared.reply.Reply.TheVariants as reply
use Rattle.ibc_wire.specs.declared.messages.Message.{Message}
use Rattle.ibc_wire.specs.declared.messages.Message.TheVariants as message

-- ---- the client that is made, updated or connected

abbrev pub created_client : Reply → Option Text
created_client (reply.Ok (effect.Client client)) = Some client
created_client _ = None

abbrev pub message_client : Message → Reply → Option Text
message_client (message.CreateClient m) given = created_client given
message_client (message.UpdateClient m) given = Some m.client
message_client (message.ConnOpenInit m) given = Some m.client
message_client (message.ConnOpenTry m) given = Some m.client
message_client _ given = None

abbrev pub event_client : Event → Reply → Option Text
event_client (event.Message chain m) given = message_client m given
event_client (event.Block chain next_time) given = None

abbrev pub entry_client : Entry → Option Text
entry_client e = event_client e.event e.reply

-- ---- the chain that it tracks, as the message says

abbrev pub known_chain : ℕ → Reply → Option ℕ
known_chain chain (reply.No refusal.UnknownClient) = None
known_chain chain _ = Some chain

abbrev pub message_tracked : Message → Reply → Option ℕ
message_tracked (message.CreateClient m) given = Some m.chain
message_tracked (message.UpdateClient m) given = known_chain m.header.chain given
message_tracked _ given = None

abbrev pub event_tracked : Event → Reply → Option ℕ
event_tracked (event.Message chain m) given = message_tracked m given
event_tracked (event.Block chain next_time) given = None

abbrev pub entry_tracked : Entry → Option ℕ
entry_tracked e = event_tracked e.event e.reply

-- ---- the peer's height that a message tells or proves from, and the height that a block ends

abbrev pub message_height : Message → Option ℕ
message_height (message.UpdateClient m) = Some m.header.height
message_height (message.ConnOpenTry m) = Some m.height
message_height (message.ConnOpenAck m) = Some m.height
message_height (message.ConnOpenConfirm m) = Some m.height
message_height (message.ChanOpenTry m) = Some m.height
message_height (message.ChanOpenAck m) = Some m.height
message_height (message.ChanOpenConfirm m) = Some m.height
message_height (message.ChanCloseConfirm m) = Some m.height
message_height (message.RecvPacket m) = Some m.height
message_height (message.AckPacket m) = Some m.height
message_height (message.Timeout m) = Some m.height
message_height (message.TimeoutOnClose m) = Some m.height
message_height _ = None

abbrev pub ended_height : Reply → Option ℕ
ended_height (reply.Ok (effect.Block height root)) = Some height
ended_height _ = None

abbrev pub event_height : Event → Reply → Option ℕ
event_height (event.Message chain m) given = message_height m
event_height (event.Block chain next_time) given = ended_height given

abbrev pub entry_height : Entry → Option ℕ
entry_height e = event_height e.event e.reply
