-- What bytes spell of messages and packets, and references to parts of messages.
use Rattle.std.specs.Prelude.{◌≡◌, ℕ, Option, Some, None, option_map, MatchOption}
use Rattle.std.specs.Borrow.{Bor}
use Rattle.ibc_ids.specs.Texts.{Text}
use Rattle.ibc_wire.specs.Fields.{Spells}
use Rattle.ibc_wire.specs.Kinds.{kind_of, tag_of}
use Rattle.ibc_wire.specs.Messages.{message_fields}
use Rattle.ibc_wire.specs.Spelling.{packet_fields}
use Rattle.ibc_wire.specs.declared.messages.Message.{Message}
use Rattle.ibc_wire.specs.declared.packet.Packet.{Packet}
use Rattle.ibc_token_data.specs.declared.token_data.TokenData.{TokenData}
use Rattle.ibc_token_data.specs.AbstractData.{abstract_data}
use Rattle.ibc_calls.specs.declared.messages.Carried.{Carried}
use Rattle.ibc_calls.specs.CarriedProofs.{carried_proof}
use Rattle.ibc_calls.specs.TokenReads.{VersionedData}

-- the bytes spell no message
abbrev pub SpellNoMessage : Text → Type 0
SpellNoMessage bytes = (message : Message) → ¬ Spells (message_fields message) bytes

-- the bytes spell no packet
abbrev pub SpellNoPacket : Text → Type 0
SpellNoPacket bytes = (packet : Packet) → ¬ Spells (packet_fields packet) bytes

-- the bytes spell a message with this tag
abbrev pub SpellsTag : Text → ℕ → Type 0
SpellsTag bytes tag = (message : Message) × Spells (message_fields message) bytes × (tag ≡ tag_of (kind_of message))

-- the bytes spell a message that carries this proof at the index, or none
abbrev pub SpellsProof : ℕ → Text → Option Carried → Type 0
SpellsProof index bytes found = (message : Message) × Spells (message_fields message) bytes × (found ≡ carried_proof index message)

-- the data that was read with its version, where there is some
abbrev pub versioned_data : Option (Text × TokenData) → Option VersionedData
versioned_data found = option_map (λ told. (told.0, abstract_data told.1)) found

-- the reference is to what is there, or there is none
abbrev pub PointsTo : {A : Type 0} → Option A → Option (Bor A) → Type 0
PointsTo there found = MatchOption found (there ≡ None) (λ part. there ≡ Some part.now)
