-- The applications that channels are opened for.
use Rattle.std.specs.Prelude.{codes}
use Rattle.ibc_ids.specs.Texts.{Text}
use Rattle.ibc_wire.specs.declared.records.Order.{Order}
use Rattle.ibc_wire.specs.declared.records.Order.TheVariants.{Unordered, Ordered}
use Rattle.ibc_script.specs.declared.application.Application.{Application}
use Rattle.ibc_script.specs.declared.application.Application.TheVariants.{Note, Transfer, TransferMany}

-- the port, the order and the version of an application's channels
abbrev pub port_of : Application → Text
port_of Note = codes "note"
port_of Transfer = codes "transfer"
port_of TransferMany = codes "transfer"

abbrev pub order_of : Application → Order
order_of Note = Ordered
order_of Transfer = Unordered
order_of TransferMany = Unordered

abbrev pub version_of : Application → Text
version_of Note = codes "note-1"
version_of Transfer = codes "ics20-1"
version_of TransferMany = codes "ics20-own-2"
