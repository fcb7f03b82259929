-- The fields of the messages of connections behind their tags, and how they are read.
use Rattle.std.specs.Prelude.{List, [], ◌∷◌, ◌++◌, Some}
use Rattle.std.specs.Int.{w64}
use Rattle.ibc_ids.specs.Texts.{Text}
use Rattle.ibc_ids.specs.Names.{is_client, is_connection}
use Rattle.ibc_wire.specs.Fields.{Field, be64, str, name}
use Rattle.ibc_wire.specs.Spelling.{client_state_fields}
use Rattle.ibc_wire.specs.Reading.{◌>>=◌, Front, str_at_front}
use Rattle.ibc_wire.specs.Fronts.{number_at_front, name_at_front}
use Rattle.ibc_wire.specs.RecordFronts.{client_state_at_front}
use Rattle.ibc_wire.specs.declared.messages.ConnOpenInit.{ConnOpenInit}
use Rattle.ibc_wire.specs.declared.messages.ConnOpenTry.{ConnOpenTry}
use Rattle.ibc_wire.specs.declared.messages.ConnOpenAck.{ConnOpenAck}
use Rattle.ibc_wire.specs.declared.messages.ConnOpenConfirm.{ConnOpenConfirm}

abbrev pub conn_open_init_fields : ConnOpenInit → List Field
conn_open_init_fields m = name is_client m.client ∷ name is_client m.peer_client ∷ []

unfoldable pub conn_open_init_at_front : Text → Front ConnOpenInit
conn_open_init_at_front text = do
  client ← name_at_front is_client text
  peer_client ← name_at_front is_client client.1
  Some (record { client = client.0; peer_client = peer_client.0 }, peer_client.1)

abbrev pub conn_open_try_fields : ConnOpenTry → List Field
conn_open_try_fields m = name is_client m.client ∷ name is_client m.peer_client ∷ name is_connection m.peer_connection ∷ (client_state_fields m.claim ++ (be64 m.height ∷ str m.proof_end ∷ str m.proof_client ∷ []))

unfoldable pub conn_open_try_at_front : Text → Front ConnOpenTry
conn_open_try_at_front text = do
  client ← name_at_front is_client text
  peer_client ← name_at_front is_client client.1
  peer_connection ← name_at_front is_connection peer_client.1
  claim ← client_state_at_front peer_connection.1
  height ← number_at_front w64 claim.1
  proof_end ← str_at_front 65535 height.1
  proof_client ← str_at_front 65535 proof_end.1
  Some (record { client = client.0; peer_client = peer_client.0; peer_connection = peer_connection.0; claim = claim.0; height = height.0; proof_end = proof_end.0; proof_client = proof_client.0 }, proof_client.1)

abbrev pub conn_open_ack_fields : ConnOpenAck → List Field
conn_open_ack_fields m = name is_connection m.connection ∷ name is_connection m.peer_connection ∷ (client_state_fields m.claim ++ (be64 m.height ∷ str m.proof_end ∷ str m.proof_client ∷ []))

unfoldable pub conn_open_ack_at_front : Text → Front ConnOpenAck
conn_open_ack_at_front text = do
  connection ← name_at_front is_connection text
  peer_connection ← name_at_front is_connection connection.1
  claim ← client_state_at_front peer_connection.1
  height ← number_at_front w64 claim.1
  proof_end ← str_at_front 65535 height.1
  proof_client ← str_at_front 65535 proof_end.1
  Some (record { connection = connection.0; peer_connection = peer_connection.0; claim = claim.0; height = height.0; proof_end = proof_end.0; proof_client = proof_client.0 }, proof_client.1)

abbrev pub conn_open_confirm_fields : ConnOpenConfirm → List Field
conn_open_confirm_fields m = name is_connection m.connection ∷ be64 m.height ∷ str m.proof ∷ []

unfoldable pub conn_open_confirm_at_front : Text → Front ConnOpenConfirm
conn_open_confirm_at_front text = do
  connection ← name_at_front is_connection text
  height ← number_at_front w64 connection.1
  proof ← str_at_front 65535 height.1
  Some (record { connection = connection.0; height = height.0; proof = proof.0 }, proof.1)
