-- The data of packets of tokens, taken apart (ICS 20, "FungibleTokenPacketData").
use Rattle.std.specs.Prelude.{◌≡◌, ◌⊎◌, ◌==◌, ℕ, length, Option, Some, None, Result, Ok, Err, if◌then◌else◌}
use Rattle.std.specs.List.{slice_get}
use Rattle.std.specs.Option.{option_map, option_or}
use Rattle.ibc_ids.specs.Texts.{Text}
use Rattle.ibc_ids.specs.declared.refusal.Refusal.TheVariants.{NoMemory}
use Rattle.ibc_wire.specs.declared.token.Token.{Token}
use Rattle.ibc_machine.specs.ics20.TokenData.{Data, data_of, one_token, several_tokens}
use Rattle.ibc_calls.specs.declared.answer.Refused.{Refused}
use Rattle.ibc_calls.specs.declared.answer.Refused.TheVariants.{Core, NothingThere, NoData}
use Rattle.ibc_calls.specs.declared.reads.Amount.{Amount}
use Rattle.ibc_calls.specs.CallAnswers.{Answer}
use Rattle.ibc_calls.specs.Handles.{IsWritten}
use Rattle.ibc_calls.specs.PacketReads.{IsCopied}
use Rattle.ibc_calls.specs.Reads.{amount_of}

-- the version of channels, and the data that bytes spell over them
abbrev pub VersionedData : Type 0
VersionedData = Text × Data

-- the data that the bytes spell over a channel of the version
unfoldable pub data_by : Text → Text → Option VersionedData
data_by version bytes = option_map (λ d. (version, d)) (data_of version bytes)

-- the data that the bytes spell over a channel of one token a packet, or else over one of several tokens
unfoldable pub data_told : Text → Option VersionedData
data_told bytes = option_or (data_by one_token bytes) (data_by several_tokens bytes)

-- 1 the sender, 2 the receiver, 3 the memo, which is empty where there is none, 4 the version
abbrev pub data_part : ℕ → VersionedData → Option Text
data_part part (version, d) =
    if part == 1 then Some d.sender
    else if part == 2 then Some d.receiver
    else if part == 3 then Some d.memo
    else if part == 4 then Some version
    else None

-- The bytes spell data, whose part is found; or they spell none, or memory ran out.
unfoldable pub FindsDataPart : ℕ → Text → Result Text Refused → Type 0
FindsDataPart part bytes found =
    ((told : VersionedData) × (data_told bytes ≡ Some told) × IsCopied (data_part part told) found)
    ⊎ ((found ≡ Err NoData) × (data_told bytes ≡ None)) ⊎ (found ≡ Err (Core NoMemory))

-- The bytes spell data, the number of whose tokens is told; or they spell none, or memory ran out, and nothing is told.
unfoldable pub TellsDataCount : Text → ℕ → ℕ → Answer → Type 0
TellsDataCount bytes old new answer =
    ((told : VersionedData) × (data_told bytes ≡ Some told) × (new ≡ length told.1.tokens) × (answer ≡ Ok tt))
    ⊎ ((new ≡ old) × (((answer ≡ Err NoData) × (data_told bytes ≡ None)) ⊎ (answer ≡ Err (Core NoMemory))))

-- where a token's amount and denomination are told
pub record TokenOutput : Type 0 where
  pub amount : Amount
  pub bytes : Text
  pub size : ℕ

-- a token's amount, the bytes of its denomination, and how many they are
abbrev pub token_output : Amount → Text → ℕ → TokenOutput
token_output amount bytes size = record { amount = amount; bytes = bytes; size = size }

abbrev pub WritesToken : Option Token → TokenOutput → TokenOutput → Answer → Type 0
WritesToken None old new answer = (new ≡ old) × (answer ≡ Err NothingThere)
WritesToken (Some token) old new answer =
    (amount_of new.amount ≡ token.amount) × IsWritten token.denom old.bytes new.bytes new.size answer

-- The bytes spell data, whose token at the index is told; or they spell none, or memory ran out, and nothing is told.
unfoldable pub TellsDataToken : ℕ → Text → TokenOutput → TokenOutput → Answer → Type 0
TellsDataToken index bytes old new answer =
    ((told : VersionedData) × (data_told bytes ≡ Some told) × WritesToken (slice_get told.1.tokens index) old new answer)
    ⊎ ((new ≡ old) × (((answer ≡ Err NoData) × (data_told bytes ≡ None)) ⊎ (answer ≡ Err (Core NoMemory))))
