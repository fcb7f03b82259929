-- What a call does to the ledger that a handle holds.
use Rattle.std.specs.Prelude.{◌≡◌, ◌⊎◌, ℕ, Option, Some, None, Err}
use Rattle.ibc_ids.specs.Texts.{Text}
use Rattle.ibc_ids.specs.declared.refusal.Refusal.TheVariants.{NoMemory}
use Rattle.ibc_wire.specs.Fields.{Spells}
use Rattle.ibc_wire.specs.Messages.{message_fields}
use Rattle.ibc_wire.specs.declared.messages.Message.{Message}
use Rattle.ibc_machine.specs.declared.event.Event.{Event}
use Rattle.ibc_machine.specs.declared.event.Event.TheVariants as event
use Rattle.ibc_machine.specs.declared.reply.Reply.{Reply}
use Rattle.ibc_ledger.specs.LedgerModel.{LedgerModel}
use Rattle.ibc_ledger.specs.HistoryGrowth.{AddsOrNot}
use Rattle.ibc_handle.specs.declared.handle_value.HandleValue.{HandleValue}
use Rattle.ibc_handle.specs.declared.handle_value.HandleValue.TheVariants as held
use Rattle.ibc_calls.specs.declared.history.ReplyCode.{ReplyCode}
use Rattle.ibc_calls.specs.declared.answer.Refused.TheVariants.{Core, Empty, OtherKind, NoMessage}
use Rattle.ibc_calls.specs.CallAnswers.{Answer, answer_to}
use Rattle.ibc_calls.specs.Handles.{IsPut}
use Rattle.ibc_calls.specs.History.{ReplyOutput, reply_code, reply_bytes}

-- A ledger goes on, of the same world, and its reply is told; another value is refused, and stays, and nothing is told.
abbrev pub LedgerReplies : (LedgerModel → LedgerModel → ReplyOutput → ReplyOutput → Answer → Type 0) → Option HandleValue → Option HandleValue → ReplyOutput → ReplyOutput → Answer → Type 0
LedgerReplies does None new out out' answer = (new ≡ None) × (out' ≡ out) × (answer ≡ Err Empty)
LedgerReplies does (Some (held.Ledger old)) (Some (held.Ledger new)) out out' answer =
    (new.number ≡ old.number) × does old.ledger new.ledger out out' answer
LedgerReplies does (Some (held.Ledger old)) new out out' answer = ⊥
LedgerReplies does (Some old) new out out' answer = (new ≡ Some old) × (out' ≡ out) × (answer ≡ Err OtherKind)

-- the reply is told, and the bytes that go with it are written where there is room
abbrev pub IsReplyTold : Reply → ReplyOutput → ReplyOutput → Type 0
IsReplyTold said out out' = (out'.told ≡ reply_code said) × IsPut (reply_bytes said) out.bytes out'.bytes out'.size

-- the same, where each part is told at a place of its own
abbrev pub IsReplyGiven : Reply → ReplyCode → ReplyCode → Text → Text → ℕ → ℕ → Type 0
IsReplyGiven said told told' bytes bytes' size size' =
    IsReplyTold said (record { told = told; bytes = bytes; size = size }) (record { told = told'; bytes = bytes'; size = size' })

-- the ledger was asked for the event, publishes in the same table, and its reply is the answer, and is told
unfoldable pub IsAsked : Event → LedgerModel → LedgerModel → ReplyOutput → ReplyOutput → Answer → Type 0
IsAsked given old new out out' answer =
    (said : Reply) × (answer ≡ answer_to said) × IsReplyTold said out out'
    × (new.table ≡ old.table) × AddsOrNot old.ledger given said new.ledger

-- The bytes spell a message, for which the ledger was asked; or they spell none, or memory ran out, and the ledger is as it was.
unfoldable pub IsApplied : Text → LedgerModel → LedgerModel → ReplyOutput → ReplyOutput → Answer → Type 0
IsApplied bytes old new out out' answer =
    ((m : Message) × Spells (message_fields m) bytes × IsAsked (event.Message old.ledger.chain m) old new out out' answer)
    ⊎ ((new ≡ old) × (out' ≡ out)
    × (((answer ≡ Err NoMessage) × ((m : Message) → Spells (message_fields m) bytes → ⊥)) ⊎ (answer ≡ Err (Core NoMemory))))

-- an application of bytes at a handle
unfoldable pub AppliesMessage : Text → Option HandleValue → Option HandleValue → ReplyOutput → ReplyOutput → Answer → Type 0
AppliesMessage bytes = LedgerReplies (IsApplied bytes)

-- the end of a block
unfoldable pub IsBlockEnded : ℕ → LedgerModel → LedgerModel → ReplyOutput → ReplyOutput → Answer → Type 0
IsBlockEnded next_time old new out out' answer = IsAsked (event.Block old.ledger.chain next_time) old new out out' answer

unfoldable pub EndsBlock : ℕ → Option HandleValue → Option HandleValue → ReplyOutput → ReplyOutput → Answer → Type 0
EndsBlock next_time = LedgerReplies (IsBlockEnded next_time)
