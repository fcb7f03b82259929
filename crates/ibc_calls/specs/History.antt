-- What ledgers' histories tell, and how long lists are.
use Rattle.std.specs.Prelude.{◌≡◌, ℕ, [], length, Option, Some, None, Result, Ok, Err}
use Rattle.std.specs.List.{slice_get}
use Rattle.ibc_ids.specs.Texts.{Text}
use Rattle.ibc_ids.specs.Refusals.{number_of}
use Rattle.ibc_wire.specs.Kinds.{kind_of, tag_of}
use Rattle.ibc_machine.specs.declared.event.Event.{Event}
use Rattle.ibc_machine.specs.declared.event.Event.TheVariants as event
use Rattle.ibc_machine.specs.declared.entry.Entry.{Entry}
use Rattle.ibc_machine.specs.declared.entry.Reading.{Reading}
use Rattle.ibc_machine.specs.declared.reply.Reply.{Reply}
use Rattle.ibc_machine.specs.declared.reply.Reply.TheVariants as reply
use Rattle.ibc_machine.specs.declared.reply.Effect.TheVariants as effect
use Rattle.ibc_machine.specs.ledger.Replay.{StampedEntry}
use Rattle.ibc_handle.specs.declared.handle_value.HandleValue.{HandleValue}
use Rattle.ibc_handle.specs.declared.handle_value.HandleValue.TheVariants as held
use Rattle.ibc_calls.specs.declared.answer.Refused.{Refused}
use Rattle.ibc_calls.specs.declared.answer.Refused.TheVariants.{Empty, OtherKind, NothingThere}
use Rattle.ibc_calls.specs.declared.history.EventCode.{EventCode}
use Rattle.ibc_calls.specs.declared.history.ReplyCode.{ReplyCode}
use Rattle.ibc_calls.specs.CallAnswers.{Answer}
use Rattle.ibc_calls.specs.Handles.{IsWritten}
use Rattle.ibc_calls.specs.Reads.{IsSpelling}

-- ---- lengths

unfoldable pub TellsLength : Option HandleValue → ℕ → ℕ → Answer → Type 0
TellsLength None old new answer = (new ≡ old) × (answer ≡ Err Empty)
TellsLength (Some (held.Ledger l)) old new answer = (new ≡ length l.ledger.ledger.history) × (answer ≡ Ok tt)
TellsLength (Some (held.Plan messages)) old new answer = (new ≡ length messages.items) × (answer ≡ Ok tt)
TellsLength (Some (held.Balances list)) old new answer = (new ≡ length list.items) × (answer ≡ Ok tt)
TellsLength (Some (held.Notes list)) old new answer = (new ≡ length list.items) × (answer ≡ Ok tt)
TellsLength (Some (held.Audit audit)) old new answer = (new ≡ length audit.balances.items) × (answer ≡ Ok tt)
TellsLength (Some (held.Entries list)) old new answer = (new ≡ length list.items) × (answer ≡ Ok tt)
TellsLength (Some other) old new answer = (new ≡ old) × (answer ≡ Err OtherKind)

-- ---- replies

-- the kind of a reply: 0 a refusal, and then its number; 1 nothing to tell; 2, 3 and 4 the name of a new client, connection and
-- channel; 5 the sequence of a packet; 6 an acknowledgement; 7 the height of a block, and its root
abbrev pub reply_code : Reply → ReplyCode
reply_code (reply.No refusal) = record { kind = 0; number = number_of refusal }
reply_code (reply.Ok effect.None) = record { kind = 1; number = 0 }
reply_code (reply.Ok (effect.Client name)) = record { kind = 2; number = 0 }
reply_code (reply.Ok (effect.Connection name)) = record { kind = 3; number = 0 }
reply_code (reply.Ok (effect.Channel name)) = record { kind = 4; number = 0 }
reply_code (reply.Ok (effect.Sent sequence)) = record { kind = 5; number = sequence }
reply_code (reply.Ok (effect.Ack ack)) = record { kind = 6; number = 0 }
reply_code (reply.Ok (effect.Block height root)) = record { kind = 7; number = height }

-- the bytes that go with it
abbrev pub reply_bytes : Reply → Text
reply_bytes (reply.Ok (effect.Client name)) = name
reply_bytes (reply.Ok (effect.Connection name)) = name
reply_bytes (reply.Ok (effect.Channel name)) = name
reply_bytes (reply.Ok (effect.Ack ack)) = ack
reply_bytes (reply.Ok (effect.Block height root)) = root
reply_bytes _ = []

-- where a reply's parts are told
pub record ReplyOutput : Type 0 where
  pub told : ReplyCode
  pub bytes : Text
  pub size : ℕ

-- a reply's code, its bytes, and how many they are
abbrev pub reply_output : ReplyCode → Text → ℕ → ReplyOutput
reply_output told bytes size = record { told = told; bytes = bytes; size = size }

-- the bytes that go with an entry's reply are written
abbrev pub IsReplyWritten : Entry → Text → Text → ℕ → Answer → Type 0
IsReplyWritten entry old new size answer = IsWritten (reply_bytes entry.reply) old new size answer

abbrev pub WritesReply : Option StampedEntry → ReplyOutput → ReplyOutput → Answer → Type 0
WritesReply None old new answer = (new ≡ old) × (answer ≡ Err NothingThere)
WritesReply (Some e) old new answer =
    (new.told ≡ reply_code e.entry.reply) × IsWritten (reply_bytes e.entry.reply) old.bytes new.bytes new.size answer

unfoldable pub TellsReply : ℕ → Option HandleValue → ReplyOutput → ReplyOutput → Answer → Type 0
TellsReply index None old new answer = (new ≡ old) × (answer ≡ Err Empty)
TellsReply index (Some (held.Ledger l)) old new answer = WritesReply (slice_get l.ledger.ledger.history index) old new answer
TellsReply index (Some other) old new answer = (new ≡ old) × (answer ≡ Err OtherKind)

-- ---- what was asked

-- how many heights an update's chain had published when that was read, 0 where nothing was read
abbrev pub published_in : Option Reading → ℕ
published_in None = 0
published_in (Some reading) = reading.published

-- the tag of a message; 0 for the end of a block, and then the time of the next one; and what an update read
abbrev pub asked_code : Event → ℕ → EventCode
asked_code (event.Message _ m) published = record { kind = tag_of (kind_of m); next_time = 0; published = published }
asked_code (event.Block _ next_time) published = record { kind = 0; next_time = next_time; published = published }

abbrev pub event_code : Entry → EventCode
event_code entry = asked_code entry.event (published_in entry.reading)

-- the bytes that spell what was asked: those of a message, none of the end of a block
abbrev pub IsEventText : Event → Result Text Refused → Type 0
IsEventText (event.Message _ m) found = IsSpelling (Some m) found
IsEventText (event.Block _ next_time) found = found ≡ Ok []

-- where an event's parts are told
pub record EventOutput : Type 0 where
  pub asked : EventCode
  pub bytes : Text
  pub size : ℕ

-- an event's code, its bytes, and how many they are
abbrev pub event_output : EventCode → Text → ℕ → EventOutput
event_output asked bytes size = record { asked = asked; bytes = bytes; size = size }

-- what was asked is told with the bytes that spell it, where they could be written out
abbrev pub WritesEventCode : Entry → Result Text Refused → EventOutput → EventOutput → Answer → Type 0
WritesEventCode given (Ok bytes) old new answer = (new.asked ≡ event_code given) × IsWritten bytes old.bytes new.bytes new.size answer
WritesEventCode given (Err why) old new answer = (new ≡ old) × (answer ≡ Err why)

abbrev pub WritesSpelledEvent : Entry → EventOutput → EventOutput → Answer → Type 0
WritesSpelledEvent given old new answer = (found : Result Text Refused) × IsEventText given.event found × WritesEventCode given found old new answer

-- the same, where each part is told at a place of its own
abbrev pub IsEventGiven : Entry → EventCode → EventCode → Text → Text → ℕ → ℕ → Answer → Type 0
IsEventGiven given asked asked' bytes bytes' size size' answer =
    WritesSpelledEvent given (record { asked = asked; bytes = bytes; size = size }) (record { asked = asked'; bytes = bytes'; size = size' }) answer

abbrev pub WritesEvent : Option StampedEntry → EventOutput → EventOutput → Answer → Type 0
WritesEvent None old new answer = (new ≡ old) × (answer ≡ Err NothingThere)
WritesEvent (Some e) old new answer = WritesSpelledEvent e.entry old new answer

unfoldable pub TellsEvent : ℕ → Option HandleValue → EventOutput → EventOutput → Answer → Type 0
TellsEvent index None old new answer = (new ≡ old) × (answer ≡ Err Empty)
TellsEvent index (Some (held.Ledger l)) old new answer = WritesEvent (slice_get l.ledger.ledger.history index) old new answer
TellsEvent index (Some other) old new answer = (new ≡ old) × (answer ≡ Err OtherKind)
