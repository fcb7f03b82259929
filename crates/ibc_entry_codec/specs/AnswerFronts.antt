-- How an answer is read, field by field.
use Rattle.std.specs.Prelude.{ℕ, zero, suc, true, false, Bool, Option, Some, None}
use Rattle.std.specs.Int.{w64}
use Rattle.ibc_ids.specs.Texts.{Text}
use Rattle.ibc_ids.specs.Names.{is_client, is_connection, is_channel}
use Rattle.ibc_wire.specs.Reading.{◌>>=◌, Front, byte_at_front, bytes_at_front, str_at_front}
use Rattle.ibc_wire.specs.Fronts.{number_at_front, name_at_front, coded_at_front}
use Rattle.ibc_machine.specs.declared.reply.Effect.{Effect}
use Rattle.ibc_machine.specs.declared.reply.Effect.TheVariants as effect
use Rattle.ibc_machine.specs.declared.reply.Reply.{Reply}
use Rattle.ibc_machine.specs.declared.reply.Reply.TheVariants as reply
use Rattle.ibc_machine.specs.declared.entry.Reading.{Reading}
use Rattle.ibc_entry_codec.specs.Refusals.{refusal_of}
use Rattle.ibc_entry_codec.specs.declared.answer.EntryAnswer.{EntryAnswer}

-- a height and its root
abbrev pub block_at_front : Text → Front (ℕ × Text)
block_at_front text = do
  height ← number_at_front w64 text
  root ← bytes_at_front 32 height.1
  Some ((height.0, root.0), root.1)

abbrev pub effect_behind : ℕ → Text → Front Effect
effect_behind zero text = None
effect_behind (suc zero) text = Some (effect.None, text)
effect_behind (suc (suc zero)) text = do
  id ← name_at_front is_client text
  Some (effect.Client id.0, id.1)
effect_behind (suc (suc (suc zero))) text = do
  id ← name_at_front is_connection text
  Some (effect.Connection id.0, id.1)
effect_behind (suc (suc (suc (suc zero)))) text = do
  id ← name_at_front is_channel text
  Some (effect.Channel id.0, id.1)
effect_behind (suc (suc (suc (suc (suc zero))))) text = do
  sequence ← number_at_front w64 text
  Some (effect.Sent sequence.0, sequence.1)
effect_behind (suc (suc (suc (suc (suc (suc zero)))))) text = do
  ack ← str_at_front 65535 text
  Some (effect.Ack ack.0, ack.1)
effect_behind (suc (suc (suc (suc (suc (suc (suc zero))))))) text = do
  block ← block_at_front text
  Some (effect.Block block.0.0 block.0.1, block.1)
effect_behind (suc (suc (suc (suc (suc (suc (suc (suc n)))))))) text = None

unfoldable pub effect_at_front : Text → Front Effect
effect_at_front text = do
  tag ← byte_at_front text
  effect_behind tag.0 tag.1

abbrev pub reply_behind : ℕ → Text → Front Reply
reply_behind zero text = None
reply_behind (suc zero) text = do
  given ← effect_at_front text
  Some (reply.Ok given.0, given.1)
reply_behind (suc (suc zero)) text = do
  why ← coded_at_front refusal_of text
  Some (reply.No why.0, why.1)
reply_behind (suc (suc (suc n))) text = None

unfoldable pub reply_at_front : Text → Front Reply
reply_at_front text = do
  tag ← byte_at_front text
  reply_behind tag.0 tag.1

abbrev pub row_of : ℕ → Option (Option Bool)
row_of zero = Some None
row_of (suc zero) = Some (Some false)
row_of (suc (suc zero)) = Some (Some true)
row_of (suc (suc (suc n))) = None

abbrev pub sight_at_front : Text → Front Reading
sight_at_front text = do
  published ← number_at_front w64 text
  row ← coded_at_front row_of published.1
  Some (record { published = published.0; row_was_there = row.0 }, row.1)

abbrev pub reading_behind : ℕ → Text → Front (Option Reading)
reading_behind zero text = Some (None, text)
reading_behind (suc zero) text = do
  seen ← sight_at_front text
  Some (Some seen.0, seen.1)
reading_behind (suc (suc n)) text = None

unfoldable pub reading_at_front : Text → Front (Option Reading)
reading_at_front text = do
  flag ← byte_at_front text
  reading_behind flag.0 flag.1

unfoldable pub answer_at_front : Text → Front EntryAnswer
answer_at_front text = do
  told ← reply_at_front text
  seen ← reading_at_front told.1
  Some (record { reply = told.0; reading = seen.0 }, seen.1)
