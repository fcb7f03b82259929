-- The spellings on examples.
use Rattle.std.proofs.Common.{◌≡◌, ℕ, true, false, codes, [], ◌∷◌, ◌++◌, refl, replicate, Some, None, length, take}
use Rattle.ibc_wire.specs.Fields.{bytes_of, have_form, str}
use Rattle.ibc_wire.specs.Spelling.{client_state_bytes, connection_end_fields, connection_end_bytes, proof_bytes, proof_fields}
use Rattle.ibc_wire.specs.Messages.{message_fields}
use Rattle.ibc_wire.specs.Reading.{proof_of}
use Rattle.ibc_wire.specs.declared.records.ConnectionState.TheVariants as conn
use Rattle.ibc_wire.specs.declared.records.ConnectionEnd.{ConnectionEnd}
use Rattle.ibc_wire.specs.declared.messages.Message.TheVariants as message
use Rattle.ibc_merkle.specs.declared.proof.Operation.{Operation}
use Rattle.ibc_merkle.specs.declared.proof.Presence.{Presence}
use Rattle.ibc_merkle.specs.declared.proof.Proof.{Proof}
use Rattle.ibc_merkle.specs.declared.proof.Proof.TheVariants.{Present, Absent}

a_client_state : client_state_bytes (record { chain = 1; latest = 5 }) ≡ 1 ∷ 0 ∷ 0 ∷ 0 ∷ 0 ∷ 0 ∷ 0 ∷ 0 ∷ 5 ∷ []
a_client_state = refl

a_text : bytes_of (str (codes "inprocess-0") ∷ []) ≡ 0 ∷ 0x0b ∷ codes "inprocess-0"
a_text = refl

abbrev begun : ConnectionEnd
begun = record { state = conn.Init; client = codes "inprocess-0"; peer_client = codes "inprocess-0"; peer_connection = None }

a_connection : connection_end_bytes begun ≡ 1 ∷ 0 ∷ 0x0b ∷ codes "inprocess-0" ++ 0 ∷ 0x0b ∷ codes "inprocess-0" ++ 0 ∷ 0 ∷ 0 ∷ 1 ∷ 0x31 ∷ []
a_connection = refl

a_connection_has_form : have_form (connection_end_fields begun) ≡ true
a_connection_has_form = refl

-- a peer identifier stands in no connection that was only begun
no_peer_yet : have_form (connection_end_fields (record begun { peer_connection = Some (codes "connection-0") })) ≡ false
no_peer_yet = refl

a_message : bytes_of (message_fields (message.CreateClient (record { chain = 1 }))) ≡ 1 ∷ 1 ∷ []
a_message = refl

-- the presence of the second of three keys, with two hashes that are made up
abbrev of_three : Proof
of_three = Present (record {
  key = codes "nextClientSequence";
  value = replicate 8 0;
  leaf_prefix = 0 ∷ [];
  operations = record { prefix = 1 ∷ replicate 32 7; suffix = [] } ∷ record { prefix = 1 ∷ []; suffix = replicate 32 9 } ∷ [];
})

its_length : length (proof_bytes of_three) ≡ 109
its_length = refl

its_form : have_form (proof_fields of_three) ≡ true
its_form = refl

it_is_read : proof_of (proof_bytes of_three) ≡ Some of_three
unfolding proof_of
it_is_read = refl

not_with_a_byte_more : proof_of (proof_bytes of_three ++ 0 ∷ []) ≡ None
unfolding proof_of
not_with_a_byte_more = refl

not_with_a_byte_less : proof_of (take 108 (proof_bytes of_three)) ≡ None
unfolding proof_of
not_with_a_byte_less = refl

abbrev of_absence : Proof
of_absence = Absent (record { key = codes "a"; left = None; right = Some (record { key = codes "b"; value = []; leaf_prefix = 0 ∷ []; operations = [] }) })

absence_is_read : proof_of (proof_bytes of_absence) ≡ Some of_absence
unfolding proof_of
absence_is_read = refl

-- ---- the longest proofs, and what is longer

abbrev longest_operation : Operation
longest_operation = record { prefix = replicate 64 1; suffix = replicate 64 2 }

abbrev with_sizes : ℕ → ℕ → ℕ → Presence
with_sizes key value operations = record {
  key = replicate key 7;
  value = replicate value 8;
  leaf_prefix = replicate 64 0;
  operations = replicate operations longest_operation;
}

abbrev longest : Presence
longest = with_sizes 256 512 64

abbrev longest_absence : Proof
longest_absence = Absent (record { key = replicate 256 7; left = Some longest; right = Some longest })

longest_lengths : length (proof_bytes (Present longest)) ∷ length (proof_bytes longest_absence) ∷ [] ≡ 9288 ∷ 18835 ∷ []
longest_lengths = refl

longest_have_form : have_form (proof_fields (Present longest)) ∷ have_form (proof_fields longest_absence) ∷ [] ≡ true ∷ true ∷ []
longest_have_form = refl

the_longest_is_read : proof_of (proof_bytes (Present longest)) ≡ Some (Present longest)
unfolding proof_of
the_longest_is_read = refl

longer_have_none :
    have_form (proof_fields (Present (with_sizes 257 0 0))) ∷ have_form (proof_fields (Present (with_sizes 0 513 0)))
    ∷ have_form (proof_fields (Present (with_sizes 0 0 65))) ∷ [] ≡ false ∷ false ∷ false ∷ []
longer_have_none = refl

longer_are_not_read :
    proof_of (proof_bytes (Present (with_sizes 257 0 0))) ∷ proof_of (proof_bytes (Present (with_sizes 0 513 0)))
    ∷ proof_of (proof_bytes (Present (with_sizes 0 0 65))) ∷ proof_of [] ∷ proof_of (3 ∷ []) ∷ [] ≡ replicate 5 None
unfolding proof_of
longer_are_not_read = refl
