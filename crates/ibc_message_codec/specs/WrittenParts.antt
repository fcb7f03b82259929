-- What is written of the parts that several messages share, and what is known of a message's bytes.
use Rattle.std.specs.Prelude.{ℕ, [], ◌∷◌, IsTrue, Result, Vec, IsErrOf, IsOkUnless}
use Rattle.std.specs.declared.alloc.Global.{Global}
use Rattle.ibc_ids.specs.Names.{is_connection, is_memo, is_port, is_receiver}
use Rattle.ibc_ids.specs.Texts.{Text}
use Rattle.ibc_ids.specs.declared.refusal.Refusal.{Refusal}
use Rattle.ibc_ids.specs.declared.refusal.Refusal.TheVariants.{BadMessage, NoMemory}
use Rattle.ibc_wire.specs.Fields.{Spells, be64, have_form, name, one_byte, str}
use Rattle.ibc_wire.specs.Fronts.{Writes}
use Rattle.ibc_wire.specs.Messages.{message_fields}
use Rattle.ibc_wire.specs.Spelling.{order_number}
use Rattle.ibc_wire.specs.declared.records.Order.{Order}
use Rattle.ibc_wire.specs.declared.messages.Message.{Message}

-- the port of a channel, its order, its connection, and the peer's port
abbrev pub WritesOpening : {X : Type 0} → Text → Order → Text → Text → Vec ℕ Global → Result X Refusal → Vec ℕ Global → Type 0
WritesOpening port order connection peer_port before result after =
    Writes (name is_port port ∷ one_byte (order_number order) ∷ name is_connection connection ∷ name is_port peer_port ∷ []) before.items result after.items

-- an acknowledgement, and its proof with the height
abbrev pub WritesProvenAck : {X : Type 0} → Text → ℕ → Text → Vec ℕ Global → Result X Refusal → Vec ℕ Global → Type 0
WritesProvenAck ack height proof before result after =
    Writes (str ack ∷ be64 height ∷ str proof ∷ []) before.items result after.items

-- the peer's next sequence, and the proof that no packet was received, with the height
abbrev pub WritesProvenAbsence : {X : Type 0} → ℕ → ℕ → Text → Vec ℕ Global → Result X Refusal → Vec ℕ Global → Type 0
WritesProvenAbsence next_recv height proof before result after =
    Writes (be64 next_recv ∷ be64 height ∷ str proof ∷ []) before.items result after.items

-- the same, and the proof that the peer's channel is closed
abbrev pub WritesProvenClose : {X : Type 0} → ℕ → ℕ → Text → Text → Vec ℕ Global → Result X Refusal → Vec ℕ Global → Type 0
WritesProvenClose next_recv height proof proof_close before result after =
    Writes (be64 next_recv ∷ be64 height ∷ str proof ∷ str proof_close ∷ []) before.items result after.items

-- a height and two proofs
abbrev pub WritesProofs : {X : Type 0} → ℕ → Text → Text → Vec ℕ Global → Result X Refusal → Vec ℕ Global → Type 0
WritesProofs height first second before result after =
    Writes (be64 height ∷ str first ∷ str second ∷ []) before.items result after.items

-- to whom tokens go, the memo, and the timeouts
abbrev pub WritesDelivery : {X : Type 0} → Text → Text → ℕ → ℕ → Vec ℕ Global → Result X Refusal → Vec ℕ Global → Type 0
WritesDelivery receiver memo timeout_height timeout_time before result after =
    Writes (name is_receiver receiver ∷ name is_memo memo ∷ be64 timeout_height ∷ be64 timeout_time ∷ []) before.items result after.items

-- only a message outside its form is refused as such
abbrev pub IsBadOutsideForm : {X : Type 0} → Result X Refusal → Message → Type 0
IsBadOutsideForm result message = IsErrOf result BadMessage → ¬ IsTrue (have_form (message_fields message))

-- a message in its form is written, unless memory is missing
abbrev pub IsWrittenInForm : {X : Type 0} → Result X Refusal → Message → Type 0
IsWrittenInForm result message = IsTrue (have_form (message_fields message)) → IsOkUnless result NoMemory

-- only bytes that spell no message are refused as such
abbrev pub IsBadUnspelt : {X : Type 0} → Result X Refusal → Text → Type 0
IsBadUnspelt result bytes = IsErrOf result BadMessage → (message : Message) → ¬ Spells (message_fields message) bytes

-- bytes that spell a message are read, unless memory is missing
abbrev pub IsReadIfSpelt : {X : Type 0} → Result X Refusal → Text → Type 0
IsReadIfSpelt result bytes = (message : Message) → Spells (message_fields message) bytes → IsOkUnless result NoMemory
