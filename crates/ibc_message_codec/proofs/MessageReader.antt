-- The reader of messages.
use Rattle.std.proofs.Common.{◌≡◌, ℕ, [], ◌∷◌, Some, refl, ap, ◌∙◌, subst}
use Rattle.ibc_ids.specs.Texts.{Text}
use Rattle.ibc_wire.specs.Messages.{message_fields}
use Rattle.ibc_wire.specs.Kinds.{kind_of_tag, tag_of}
use Rattle.ibc_wire.specs.Reading.{Front, byte_at_front, ◌>>=◌}
use Rattle.ibc_message_codec.specs.MessageFront.{message_behind, message_at_front}
use Rattle.ibc_wire.specs.Lawful.{AreBytes, Begins, IsReader}
use Rattle.ibc_wire.specs.declared.messages.Message.{Message}
use Rattle.ibc_wire.specs.declared.messages.Message.TheVariants as message
use Rattle.ibc_wire.specs.declared.messages.MessageKind.{MessageKind}
use Rattle.ibc_wire.specs.declared.messages.MessageKind.TheVariants as kind
use Rattle.ibc_wire.proofs.Fronts.{bind_some, bytes_parts, byte_read}
use Rattle.ibc_wire.proofs.Tags.{tags}
use Rattle.ibc_wire.proofs.FieldReaders.{tagged_read, tagged_front}
use Rattle.ibc_message_codec.proofs.PayloadReaders.{create_client_reader, update_client_reader, conn_open_init_reader, conn_open_try_reader, conn_open_ack_reader, conn_open_confirm_reader, chan_open_init_reader, chan_open_try_reader, chan_open_ack_reader, chan_open_confirm_reader, chan_close_init_reader, chan_close_confirm_reader, transfer_reader, send_note_reader, recv_packet_reader, ack_packet_reader, timeout_reader, timeout_on_close_reader, transfer_many_reader}

message_spelled : (k : MessageKind) (text behind : Text) (m : Message) (rest : Text) → AreBytes behind → text ≡ tag_of k ∷ behind → message_behind k behind ≡ Some (m, rest) → Begins (message_fields m) text rest
message_spelled kind.CreateClient text behind m rest bytes is e = tagged_read create_client_reader 1 refl message.CreateClient message_fields (λ q. refl) text behind m rest bytes is e
message_spelled kind.UpdateClient text behind m rest bytes is e = tagged_read update_client_reader 2 refl message.UpdateClient message_fields (λ q. refl) text behind m rest bytes is e
message_spelled kind.ConnOpenInit text behind m rest bytes is e = tagged_read conn_open_init_reader 3 refl message.ConnOpenInit message_fields (λ q. refl) text behind m rest bytes is e
message_spelled kind.ConnOpenTry text behind m rest bytes is e = tagged_read conn_open_try_reader 4 refl message.ConnOpenTry message_fields (λ q. refl) text behind m rest bytes is e
message_spelled kind.ConnOpenAck text behind m rest bytes is e = tagged_read conn_open_ack_reader 5 refl message.ConnOpenAck message_fields (λ q. refl) text behind m rest bytes is e
message_spelled kind.ConnOpenConfirm text behind m rest bytes is e = tagged_read conn_open_confirm_reader 6 refl message.ConnOpenConfirm message_fields (λ q. refl) text behind m rest bytes is e
message_spelled kind.ChanOpenInit text behind m rest bytes is e = tagged_read chan_open_init_reader 7 refl message.ChanOpenInit message_fields (λ q. refl) text behind m rest bytes is e
message_spelled kind.ChanOpenTry text behind m rest bytes is e = tagged_read chan_open_try_reader 8 refl message.ChanOpenTry message_fields (λ q. refl) text behind m rest bytes is e
message_spelled kind.ChanOpenAck text behind m rest bytes is e = tagged_read chan_open_ack_reader 9 refl message.ChanOpenAck message_fields (λ q. refl) text behind m rest bytes is e
message_spelled kind.ChanOpenConfirm text behind m rest bytes is e = tagged_read chan_open_confirm_reader 10 refl message.ChanOpenConfirm message_fields (λ q. refl) text behind m rest bytes is e
message_spelled kind.ChanCloseInit text behind m rest bytes is e = tagged_read chan_close_init_reader 11 refl message.ChanCloseInit message_fields (λ q. refl) text behind m rest bytes is e
message_spelled kind.ChanCloseConfirm text behind m rest bytes is e = tagged_read chan_close_confirm_reader 12 refl message.ChanCloseConfirm message_fields (λ q. refl) text behind m rest bytes is e
message_spelled kind.Transfer text behind m rest bytes is e = tagged_read transfer_reader 13 refl message.Transfer message_fields (λ q. refl) text behind m rest bytes is e
message_spelled kind.SendNote text behind m rest bytes is e = tagged_read send_note_reader 14 refl message.SendNote message_fields (λ q. refl) text behind m rest bytes is e
message_spelled kind.RecvPacket text behind m rest bytes is e = tagged_read recv_packet_reader 15 refl message.RecvPacket message_fields (λ q. refl) text behind m rest bytes is e
message_spelled kind.AckPacket text behind m rest bytes is e = tagged_read ack_packet_reader 16 refl message.AckPacket message_fields (λ q. refl) text behind m rest bytes is e
message_spelled kind.Timeout text behind m rest bytes is e = tagged_read timeout_reader 17 refl message.Timeout message_fields (λ q. refl) text behind m rest bytes is e
message_spelled kind.TimeoutOnClose text behind m rest bytes is e = tagged_read timeout_on_close_reader 18 refl message.TimeoutOnClose message_fields (λ q. refl) text behind m rest bytes is e
message_spelled kind.TransferMany text behind m rest bytes is e = tagged_read transfer_many_reader 19 refl message.TransferMany message_fields (λ q. refl) text behind m rest bytes is e

abbrev next : ℕ × Text → Front Message
next tag = kind_of_tag tag.0 >>= λ kind. message_behind kind tag.1

message_read : (m : Message) (text rest : Text) → Begins (message_fields m) text rest → (byte_at_front text >>= next) ≡ Some (m, rest)
message_read (message.CreateClient q) text rest h = let w = tagged_front create_client_reader 1 message.CreateClient q text rest h in ap (λ o. o >>= next) w.1 ∙ w.2
message_read (message.UpdateClient q) text rest h = let w = tagged_front update_client_reader 2 message.UpdateClient q text rest h in ap (λ o. o >>= next) w.1 ∙ w.2
message_read (message.ConnOpenInit q) text rest h = let w = tagged_front conn_open_init_reader 3 message.ConnOpenInit q text rest h in ap (λ o. o >>= next) w.1 ∙ w.2
message_read (message.ConnOpenTry q) text rest h = let w = tagged_front conn_open_try_reader 4 message.ConnOpenTry q text rest h in ap (λ o. o >>= next) w.1 ∙ w.2
message_read (message.ConnOpenAck q) text rest h = let w = tagged_front conn_open_ack_reader 5 message.ConnOpenAck q text rest h in ap (λ o. o >>= next) w.1 ∙ w.2
message_read (message.ConnOpenConfirm q) text rest h = let w = tagged_front conn_open_confirm_reader 6 message.ConnOpenConfirm q text rest h in ap (λ o. o >>= next) w.1 ∙ w.2
message_read (message.ChanOpenInit q) text rest h = let w = tagged_front chan_open_init_reader 7 message.ChanOpenInit q text rest h in ap (λ o. o >>= next) w.1 ∙ w.2
message_read (message.ChanOpenTry q) text rest h = let w = tagged_front chan_open_try_reader 8 message.ChanOpenTry q text rest h in ap (λ o. o >>= next) w.1 ∙ w.2
message_read (message.ChanOpenAck q) text rest h = let w = tagged_front chan_open_ack_reader 9 message.ChanOpenAck q text rest h in ap (λ o. o >>= next) w.1 ∙ w.2
message_read (message.ChanOpenConfirm q) text rest h = let w = tagged_front chan_open_confirm_reader 10 message.ChanOpenConfirm q text rest h in ap (λ o. o >>= next) w.1 ∙ w.2
message_read (message.ChanCloseInit q) text rest h = let w = tagged_front chan_close_init_reader 11 message.ChanCloseInit q text rest h in ap (λ o. o >>= next) w.1 ∙ w.2
message_read (message.ChanCloseConfirm q) text rest h = let w = tagged_front chan_close_confirm_reader 12 message.ChanCloseConfirm q text rest h in ap (λ o. o >>= next) w.1 ∙ w.2
message_read (message.Transfer q) text rest h = let w = tagged_front transfer_reader 13 message.Transfer q text rest h in ap (λ o. o >>= next) w.1 ∙ w.2
message_read (message.SendNote q) text rest h = let w = tagged_front send_note_reader 14 message.SendNote q text rest h in ap (λ o. o >>= next) w.1 ∙ w.2
message_read (message.RecvPacket q) text rest h = let w = tagged_front recv_packet_reader 15 message.RecvPacket q text rest h in ap (λ o. o >>= next) w.1 ∙ w.2
message_read (message.AckPacket q) text rest h = let w = tagged_front ack_packet_reader 16 message.AckPacket q text rest h in ap (λ o. o >>= next) w.1 ∙ w.2
message_read (message.Timeout q) text rest h = let w = tagged_front timeout_reader 17 message.Timeout q text rest h in ap (λ o. o >>= next) w.1 ∙ w.2
message_read (message.TimeoutOnClose q) text rest h = let w = tagged_front timeout_on_close_reader 18 message.TimeoutOnClose q text rest h in ap (λ o. o >>= next) w.1 ∙ w.2
message_read (message.TransferMany q) text rest h = let w = tagged_front transfer_many_reader 19 message.TransferMany q text rest h in ap (λ o. o >>= next) w.1 ∙ w.2

pub message_reader : IsReader message_fields message_at_front
unfolding message_at_front
message_reader = record {
  spelled = λ text m rest bytes e.
      let tag = bind_some (byte_at_front text) _ e in
      let found = bind_some (kind_of_tag tag.0.0) _ tag.2 in
      let is = byte_read text tag.0.0 tag.0.1 tag.1 in
      let behind = (bytes_parts (tag.0.0 ∷ []) tag.0.1 (subst AreBytes is bytes)).1 in
      let n = tags tag.0.0 found.0 found.1 in
      message_spelled found.0 text tag.0.1 m rest behind (is ∙ ap (λ b. b ∷ tag.0.1) n) found.2;
  read = λ m text rest h. message_read m text rest h;
}
