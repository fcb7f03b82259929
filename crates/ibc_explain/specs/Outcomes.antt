-- What became of a packet by an entry.
use Rattle.std.specs.Prelude.{Option, None, Some, if◌then◌else◌}
use Rattle.ibc_ids.specs.Texts.{Text, same_text}
use Rattle.ibc_machine.specs.declared.entry.Entry.{Entry}
use Rattle.ibc_machine.specs.declared.event.Event.{Event}
use Rattle.ibc_machine.specs.declared.event.Event.TheVariants as event
use Rattle.ibc_machine.specs.declared.reply.Effect.{Effect}
use Rattle.ibc_machine.specs.declared.reply.Effect.TheVariants as effect
use Rattle.ibc_machine.specs.declared.reply.Reply.{Reply}
use Rattle.ibc_machine.specs.declared.reply.Reply.TheVariants as reply
use Rattle.ibc_machine.specs.ics20.TokenData.{success}
use Rattle.ibc_wire.specs.declared.messages.Message.{Message}
use Rattle.ibc_wire.specs.declared.messages.Message.TheVariants as message
use Rattle.ibc_explain.specs.declared.outcome.PacketOutcome.{PacketOutcome}
use Rattle.ibc_explain.specs.declared.outcome.PacketOutcome.TheVariants as outcome

-- what isn't a success is a refusal, as for the application that gives tokens back
abbrev pub ack_outcome : Text → PacketOutcome
ack_outcome ack = if same_text ack success then outcome.Delivered else outcome.Refused

abbrev pub effect_outcome : Message → Effect → Option PacketOutcome
effect_outcome (message.RecvPacket m) (effect.Ack ack) = Some (ack_outcome ack)
effect_outcome (message.AckPacket m) given = Some (ack_outcome m.ack)
effect_outcome (message.Timeout m) given = Some outcome.TimedOut
effect_outcome (message.TimeoutOnClose m) given = Some outcome.TimedOut
effect_outcome _ given = None

abbrev pub reply_outcome : Event → Reply → Option PacketOutcome
reply_outcome (event.Message chain m) (reply.Ok given) = effect_outcome m given
reply_outcome _ given = None

abbrev pub entry_outcome : Entry → Option PacketOutcome
entry_outcome e = reply_outcome e.event e.reply
