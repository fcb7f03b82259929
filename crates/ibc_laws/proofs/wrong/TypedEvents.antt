-- Events as their types promise: a header's root has 32 bytes. In these runs it is taken to be the true one.
use Rattle.std.specs.Prelude.{List, map, codes}
use Rattle.ibc_wire.specs.declared.messages.Message.TheVariants as message
use Rattle.ibc_machine.specs.declared.event.Event.{Event}
use Rattle.ibc_machine.specs.declared.event.Event.TheVariants as event
use Rattle.ibc_ids.specs.Texts.{Text}

abbrev some_root : Text
some_root = codes "0123456789abcdef0123456789abcdef"

abbrev with_root : Event → Event
with_root (event.Message k (message.UpdateClient m)) =
    event.Message k (message.UpdateClient (record m { header = record m.header { root = some_root } }))
with_root e = e

abbrev pub typed : List Event → List Event
typed events = map with_root events
