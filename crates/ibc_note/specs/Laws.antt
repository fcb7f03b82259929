-- Why the application of port `note` keeps the laws of applications.
use Rattle.std.specs.Prelude.{◌≡◌, ◌⊎◌, codes, List, IsTrue, IfErr, refl}
use Rattle.ibc_ids.specs.Texts.{Text, same_text}
use Rattle.ibc_ids.specs.Maps.{Map}
use Rattle.ibc_ids.specs.declared.refusal.Refusal.TheVariants.{WrongOrder, WrongVersion}
use Rattle.ibc_wire.specs.declared.records.Order.{Order}
use Rattle.ibc_wire.specs.declared.records.Order.TheVariants.{Ordered}
use Rattle.ibc_wire.specs.declared.packet.Packet.{Packet}
use Rattle.ibc_machine.specs.ics24.Values.{same_order}
use Rattle.ibc_machine.specs.ics04.Packets.{has_size}
use Rattle.ibc_machine.specs.chain.Notes.{opens_for_notes, receive_note}
use Rattle.ibc_records.specs.Openings.{order_or_version}

-- an opening is refused for the order or the version alone
pub notes_open_or_refuse : (order : Order) (version : Text) → IfErr (opens_for_notes order version) (λ refusal. (refusal ≡ WrongOrder) ⊎ (refusal ≡ WrongVersion))
notes_open_or_refuse order version = order_or_version (same_order order Ordered) (same_text version (codes "note-1"))

-- each acknowledgement has 17 bytes
pub notes_write_sized_acks : (notes : Map Text (List Text)) (packet : Packet) → IsTrue (has_size (receive_note notes packet).0)
unfolding receive_note
notes_write_sized_acks notes packet = refl
