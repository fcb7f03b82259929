-- How an answer is spelled: the reply, and behind it what was read.
use Rattle.std.specs.Prelude.{ℕ, true, false, Bool, Option, Some, None, List, [], ◌∷◌, ◌++◌}
use Rattle.ibc_ids.specs.Names.{is_client, is_connection, is_channel}
use Rattle.ibc_ids.specs.Refusals.{number_of}
use Rattle.ibc_wire.specs.Fields.{Field, one_byte, be64, str, name, root32}
use Rattle.ibc_machine.specs.declared.reply.Effect.{Effect}
use Rattle.ibc_machine.specs.declared.reply.Effect.TheVariants as effect
use Rattle.ibc_machine.specs.declared.reply.Reply.{Reply}
use Rattle.ibc_machine.specs.declared.reply.Reply.TheVariants as reply
use Rattle.ibc_machine.specs.declared.entry.Reading.{Reading}
use Rattle.ibc_entry_codec.specs.declared.answer.EntryAnswer.{EntryAnswer}

-- what an accepted event gave, behind a tag
abbrev pub effect_fields : Effect → List Field
effect_fields effect.None = one_byte 1 ∷ []
effect_fields (effect.Client id) = one_byte 2 ∷ name is_client id ∷ []
effect_fields (effect.Connection id) = one_byte 3 ∷ name is_connection id ∷ []
effect_fields (effect.Channel id) = one_byte 4 ∷ name is_channel id ∷ []
effect_fields (effect.Sent sequence) = one_byte 5 ∷ be64 sequence ∷ []
effect_fields (effect.Ack ack) = one_byte 6 ∷ str ack ∷ []
effect_fields (effect.Block height root) = one_byte 7 ∷ be64 height ∷ root32 root ∷ []

-- behind a 1 what an accepted event gave, and behind a 2 the number of a refusal
abbrev pub reply_fields : Reply → List Field
reply_fields (reply.Ok given) = one_byte 1 ∷ effect_fields given
reply_fields (reply.No why) = one_byte 2 ∷ one_byte (number_of why) ∷ []

-- whether a row was looked for, and was there
abbrev pub row_number : Option Bool → ℕ
row_number None = 0
row_number (Some false) = 1
row_number (Some true) = 2

abbrev pub sight_fields : Reading → List Field
sight_fields seen = be64 seen.published ∷ one_byte (row_number seen.row_was_there) ∷ []

-- behind a 1 what was read, and a 0 where nothing was
abbrev pub reading_fields : Option Reading → List Field
reading_fields None = one_byte 0 ∷ []
reading_fields (Some seen) = one_byte 1 ∷ sight_fields seen

abbrev pub answer_fields : EntryAnswer → List Field
answer_fields answer = reply_fields answer.reply ++ reading_fields answer.reading
