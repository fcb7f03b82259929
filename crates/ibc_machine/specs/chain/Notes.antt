-- Notes (this project's profile): the application of port `note`, and its message.
use Rattle.std.specs.Prelude.{codes, List, [], ◌∷◌, ◌++◌, Ok, ⊤}
use Rattle.std.specs.Option.{unwrap_or}
use Rattle.ibc_ids.specs.Texts.{Text, same_text, text_cmp}
use Rattle.ibc_ids.specs.Maps.{Map, at, with}
use Rattle.ibc_ids.specs.declared.refusal.Refusal.TheVariants.{WrongOrder, WrongVersion, TooLarge}
use Rattle.ibc_wire.specs.declared.records.Order.{Order}
use Rattle.ibc_wire.specs.declared.records.Order.TheVariants.{Ordered}
use Rattle.ibc_wire.specs.declared.packet.Packet.{Packet}
use Rattle.ibc_wire.specs.declared.messages.SendNote.{SendNote}
use Rattle.ibc_machine.specs.chain.Records.{Commitment}
use Rattle.ibc_machine.specs.ics24.Values.{same_order}
use Rattle.ibc_machine.specs.chain.Checks.{Checked, require, ◌>>=◌, ◌>>◌}
use Rattle.ibc_machine.specs.ics24.Evidence.{CoreHandler, require_number}
use Rattle.ibc_machine.specs.ics04.Packets.{has_size, sending_end, require_timeouts, with_sent}
use Rattle.ibc_machine.specs.ics20.TokenData.{success}

abbrev pub note_port : Text
note_port = codes "note"

-- ORDERED, and version `note-1`
abbrev pub opens_for_notes : Order → Text → Checked ⊤
opens_for_notes order version = do
  require (same_order order Ordered) WrongOrder
  require (same_text version (codes "note-1")) WrongVersion
  Ok tt

abbrev pub closes_for_notes : Checked ⊤
closes_for_notes = Ok tt

-- a note joins those that came over its channel
unfoldable pub receive_note : Map Text (List Text) → Packet → Text × Map Text (List Text)
receive_note notes p =
    let before = unwrap_or (at text_cmp p.destination_channel notes) [] in
    (success, with text_cmp p.destination_channel (before ++ p.payload ∷ []) notes)

abbrev pub note_commitment : SendNote → Commitment
note_commitment m =
    record { payload = m.payload; timeout_height = m.timeout_height; timeout_time = m.timeout_time }

unfoldable pub send_note : SendNote → CoreHandler
send_note m evidence host core = do
  mine ← sending_end core note_port m.channel
  require (has_size m.payload) TooLarge
  require_timeouts evidence core mine (note_commitment m)
  require_number mine.next_send
  Ok (with_sent note_port m.channel mine (note_commitment m) core)
