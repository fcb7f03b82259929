-- The fields of the messages that send tokens and notes behind their tags, and how they are read.
use Rattle.std.specs.Prelude.{List, [], ◌∷◌, ◌++◌, Some}
use Rattle.std.specs.Int.{w64}
use Rattle.ibc_ids.specs.Texts.{Text}
use Rattle.ibc_ids.specs.Names.{is_channel, is_user, is_denom, is_receiver, is_memo}
use Rattle.ibc_wire.specs.Fields.{Field, be64, be128, str, name}
use Rattle.ibc_wire.specs.Spelling.{tokens_fields}
use Rattle.ibc_wire.specs.Reading.{◌>>=◌, Front, str_at_front}
use Rattle.ibc_wire.specs.Fronts.{number_at_front, amount_at_front, name_at_front}
use Rattle.ibc_wire.specs.RecordFronts.{tokens_at_front}
use Rattle.ibc_wire.specs.declared.messages.Transfer.{Transfer}
use Rattle.ibc_wire.specs.declared.messages.SendNote.{SendNote}
use Rattle.ibc_wire.specs.declared.messages.TransferMany.{TransferMany}

abbrev pub transfer_fields : Transfer → List Field
transfer_fields m = name is_channel m.channel ∷ name is_user m.user ∷ name is_denom m.denom ∷ be128 m.amount ∷ name is_receiver m.receiver ∷ name is_memo m.memo ∷ be64 m.timeout_height ∷ be64 m.timeout_time ∷ []

unfoldable pub transfer_at_front : Text → Front Transfer
transfer_at_front text = do
  channel ← name_at_front is_channel text
  user ← name_at_front is_user channel.1
  denom ← name_at_front is_denom user.1
  amount ← amount_at_front denom.1
  receiver ← name_at_front is_receiver amount.1
  memo ← name_at_front is_memo receiver.1
  timeout_height ← number_at_front w64 memo.1
  timeout_time ← number_at_front w64 timeout_height.1
  Some (record { channel = channel.0; user = user.0; denom = denom.0; amount = amount.0; receiver = receiver.0; memo = memo.0; timeout_height = timeout_height.0; timeout_time = timeout_time.0 }, timeout_time.1)

abbrev pub send_note_fields : SendNote → List Field
send_note_fields m = name is_channel m.channel ∷ str m.payload ∷ be64 m.timeout_height ∷ be64 m.timeout_time ∷ []

unfoldable pub send_note_at_front : Text → Front SendNote
send_note_at_front text = do
  channel ← name_at_front is_channel text
  payload ← str_at_front 65535 channel.1
  timeout_height ← number_at_front w64 payload.1
  timeout_time ← number_at_front w64 timeout_height.1
  Some (record { channel = channel.0; payload = payload.0; timeout_height = timeout_height.0; timeout_time = timeout_time.0 }, timeout_time.1)

abbrev pub transfer_many_fields : TransferMany → List Field
transfer_many_fields m = name is_channel m.channel ∷ name is_user m.user ∷ (tokens_fields m.tokens ++ (name is_receiver m.receiver ∷ name is_memo m.memo ∷ be64 m.timeout_height ∷ be64 m.timeout_time ∷ []))

unfoldable pub transfer_many_at_front : Text → Front TransferMany
transfer_many_at_front text = do
  channel ← name_at_front is_channel text
  user ← name_at_front is_user channel.1
  tokens ← tokens_at_front user.1
  receiver ← name_at_front is_receiver tokens.1
  memo ← name_at_front is_memo receiver.1
  timeout_height ← number_at_front w64 memo.1
  timeout_time ← number_at_front w64 timeout_height.1
  Some (record { channel = channel.0; user = user.0; tokens = tokens.0; receiver = receiver.0; memo = memo.0; timeout_height = timeout_height.0; timeout_time = timeout_time.0 }, timeout_time.1)
