-- What is read of ledgers and of plans.
use Rattle.std.specs.Prelude.{◌≡◌, ◌⊎◌, ◌+◌, ◌*◌, ◌^◌, ℕ, Option, Some, None, Result, Ok, Err, IsTrue}
use Rattle.std.specs.List.{slice_get}
use Rattle.ibc_ids.specs.Texts.{Text, text_cmp}
use Rattle.ibc_ids.specs.Maps.{at}
use Rattle.ibc_ids.specs.Names.{is_channel, is_denom}
use Rattle.ibc_ids.specs.Paths.{path}
use Rattle.ibc_ids.specs.declared.refusal.Refusal.TheVariants.{NoMemory, BadMessage, BadName}
use Rattle.ibc_wire.specs.Fields.{Spells, have_form}
use Rattle.ibc_wire.specs.Messages.{message_fields}
use Rattle.ibc_wire.specs.declared.messages.Message.{Message}
use Rattle.ibc_machine.specs.ics24.Image.{image}
use Rattle.ibc_machine.specs.ics20.Bank.{balance, escrow, supply}
use Rattle.ibc_machine.specs.ledger.Ledgers.{Ledger, state_of}
use Rattle.ibc_handle.specs.declared.handle_value.HandleValue.{HandleValue}
use Rattle.ibc_handle.specs.declared.handle_value.HandleValue.TheVariants as held
use Rattle.ibc_calls.specs.declared.answer.Refused.{Refused}
use Rattle.ibc_calls.specs.declared.answer.Refused.TheVariants.{Core, Empty, OtherKind, NothingThere}
use Rattle.ibc_calls.specs.declared.reads.Amount.{Amount}
use Rattle.ibc_calls.specs.CallAnswers.{Answer}
use Rattle.ibc_calls.specs.GenesisHandles.{AreNames}
use Rattle.ibc_calls.specs.Views.{AtPath}

-- ---- the value of a key

abbrev pub value_or : Option Text → Result Text Refused
value_or None = Err NothingThere
value_or (Some value) = Ok value

-- the value at the path in the working block
abbrev pub IsValueAt : Text → Ledger → Result Text Refused → Type 0
IsValueAt bytes ledger =
    AtPath bytes (λ key found. found ≡ value_or (at text_cmp (path key) (image (state_of ledger).chain.records.core)))

unfoldable pub FindsValue : Text → Option HandleValue → Result Text Refused → Type 0
FindsValue bytes None found = found ≡ Err Empty
FindsValue bytes (Some (held.Ledger l)) found = IsValueAt bytes l.ledger.ledger found
FindsValue bytes (Some other) found = found ≡ Err OtherKind

-- ---- plans

abbrev pub IsSpelling : Option Message → Result Text Refused → Type 0
IsSpelling None found = found ≡ Err NothingThere
IsSpelling (Some m) (Ok bytes) = Spells (message_fields m) bytes
IsSpelling (Some m) (Err why) = (why ≡ Core NoMemory) ⊎ ((why ≡ Core BadMessage) × (IsTrue (have_form (message_fields m)) → ⊥))

-- the bytes of a plan's message
unfoldable pub FindsMessage : ℕ → Option HandleValue → Result Text Refused → Type 0
FindsMessage index None found = found ≡ Err Empty
FindsMessage index (Some (held.Plan messages)) found = IsSpelling (slice_get messages.items index) found
FindsMessage index (Some other) found = found ≡ Err OtherKind

-- ---- balances

abbrev pub amount_of : Amount → ℕ
amount_of amount = amount.high * 2 ^ 64 + amount.low

-- What a user holds of a denomination in the working block; or a name is none of its kind, or memory ran out, and nothing is told.
abbrev pub IsBalance : Text → Text → Ledger → Amount → Amount → Answer → Type 0
IsBalance user denom ledger old new answer =
    ((answer ≡ Ok tt) × AreNames user denom
    × (amount_of new ≡ balance (state_of ledger).chain.records.apps.balances user denom))
    ⊎ ((new ≡ old) × (((answer ≡ Err (Core BadName)) × (AreNames user denom → ⊥)) ⊎ (answer ≡ Err (Core NoMemory))))

unfoldable pub TellsBalance : Text → Text → Option HandleValue → Amount → Amount → Answer → Type 0
TellsBalance user denom None old new answer = (new ≡ old) × (answer ≡ Err Empty)
TellsBalance user denom (Some (held.Ledger l)) old new answer = IsBalance user denom l.ledger.ledger old new answer
TellsBalance user denom (Some other) old new answer = (new ≡ old) × (answer ≡ Err OtherKind)

-- a channel and a denomination
abbrev pub AreEscrow : Text → Text → Type 0
AreEscrow channel denom = IsTrue (is_channel channel) × IsTrue (is_denom denom)

-- these names, which are of their kinds
abbrev pub AreEscrowNames : Text → Text → Text × Text → Type 0
AreEscrowNames channel denom names = (names.0 ≡ channel) × (names.1 ≡ denom) × AreEscrow channel denom

-- What the escrow account of a channel holds in the working block; or a name is none of its kind, or memory ran out.
abbrev pub IsEscrow : Text → Text → Ledger → Amount → Amount → Answer → Type 0
IsEscrow channel denom ledger old new answer =
    ((answer ≡ Ok tt) × AreEscrow channel denom
    × (amount_of new ≡ balance (state_of ledger).chain.records.apps.balances (escrow channel) denom))
    ⊎ ((new ≡ old) × (((answer ≡ Err (Core BadName)) × (AreEscrow channel denom → ⊥)) ⊎ (answer ≡ Err (Core NoMemory))))

unfoldable pub TellsEscrow : Text → Text → Option HandleValue → Amount → Amount → Answer → Type 0
TellsEscrow channel denom None old new answer = (new ≡ old) × (answer ≡ Err Empty)
TellsEscrow channel denom (Some (held.Ledger l)) old new answer = IsEscrow channel denom l.ledger.ledger old new answer
TellsEscrow channel denom (Some other) old new answer = (new ≡ old) × (answer ≡ Err OtherKind)

-- What all accounts hold of a denomination in the working block; or the name is none, or memory ran out.
abbrev pub IsSupply : Text → Ledger → Amount → Amount → Answer → Type 0
IsSupply denom ledger old new answer =
    ((answer ≡ Ok tt) × IsTrue (is_denom denom)
    × (amount_of new ≡ supply (state_of ledger).chain.records.apps.balances denom))
    ⊎ ((new ≡ old) × (((answer ≡ Err (Core BadName)) × (IsTrue (is_denom denom) → ⊥)) ⊎ (answer ≡ Err (Core NoMemory))))

unfoldable pub TellsSupply : Text → Option HandleValue → Amount → Amount → Answer → Type 0
TellsSupply denom None old new answer = (new ≡ old) × (answer ≡ Err Empty)
TellsSupply denom (Some (held.Ledger l)) old new answer = IsSupply denom l.ledger.ledger old new answer
TellsSupply denom (Some other) old new answer = (new ≡ old) × (answer ≡ Err OtherKind)
