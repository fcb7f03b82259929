-- Which ends of channels entries made (ICS 4, "chanOpenInit" and "chanOpenTry").
use Rattle.std.specs.Prelude.{ℕ, List, [], ◌∷◌, map, Option, None, Some, option_map}
use Rattle.ibc_ids.specs.Texts.{Text}
use Rattle.ibc_wire.specs.declared.records.Order.{Order}
use Rattle.ibc_wire.specs.declared.records.Order.TheVariants.{Ordered}
use Rattle.ibc_wire.specs.declared.messages.Message.{Message}
use Rattle.ibc_wire.specs.declared.messages.Message.TheVariants as message
use Rattle.ibc_machine.specs.declared.entry.Entry.{Entry}
use Rattle.ibc_machine.specs.declared.event.Event.{Event}
use Rattle.ibc_machine.specs.declared.event.Event.TheVariants as event
use Rattle.ibc_machine.specs.declared.reply.Effect.{Effect}
use Rattle.ibc_machine.specs.declared.reply.Effect.TheVariants as effect
use Rattle.ibc_machine.specs.declared.reply.Reply.{Reply}
use Rattle.ibc_machine.specs.declared.reply.Reply.TheVariants as reply
use Rattle.ibc_machine.specs.ics24.Values.{same_order}
use Rattle.ibc_law_checks.specs.declared.ends.EndNotes.{EndNotes}
use Rattle.ibc_law_checks.specs.declared.made.MadeEnd.{MadeEnd as FoundEnd}
use Rattle.ibc_law_checks.specs.Lanes.{LaneState, new_lane}

-- port, channel and order of the end that an accepted message made
abbrev pub MadeEnd : Type 0
MadeEnd = Text × Text × Order

-- the end that was found, where there is one
abbrev pub abstract_made : Option FoundEnd → Option MadeEnd
abstract_made found = option_map (λ made. (made.port.now, made.channel.now, made.order)) found

abbrev pub made_by : Message → Effect → Option MadeEnd
made_by (message.ChanOpenInit m) (effect.Channel channel) = Some (m.port, channel, m.order)
made_by (message.ChanOpenTry m) (effect.Channel channel) = Some (m.port, channel, m.order)
made_by _ _ = None

abbrev pub made_with : Event → Reply → Option MadeEnd
made_with (event.Message k m) (reply.Ok given) = made_by m given
made_with _ _ = None

abbrev pub made_in : Entry → Option MadeEnd
made_in entry = made_with entry.event entry.reply

-- chain, port and channel
abbrev pub EndName : Type 0
EndName = ℕ × Text × Text

abbrev pub names_of : ℕ → Option MadeEnd → List EndName
names_of chain None = []
names_of chain (Some made) = (chain, made.0, made.1) ∷ []

-- the end that an entry of a chain made
abbrev pub made_names : ℕ → Entry → List EndName
made_names chain entry = names_of chain (made_in entry)

-- nothing has gone over its lane yet
abbrev pub lanes_of : Option MadeEnd → List LaneState
lanes_of None = []
lanes_of (Some made) = new_lane (same_order made.2 Ordered) ∷ []

abbrev pub made_lanes : Entry → List LaneState
made_lanes entry = lanes_of (made_in entry)

-- the ends that are noted
abbrev pub end_names : List EndNotes → List EndName
end_names ends = map (λ (end : EndNotes). (end.chain, end.port, end.channel)) ends
