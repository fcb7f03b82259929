-- The fields of the messages of clients behind their tags, and how they are read.
use Rattle.std.specs.Prelude.{List, [], ◌∷◌, Some}
use Rattle.ibc_ids.specs.Texts.{Text}
use Rattle.ibc_ids.specs.Names.{is_client}
use Rattle.ibc_wire.specs.Fields.{Field, one_byte, name}
use Rattle.ibc_wire.specs.Reading.{◌>>=◌, Front, byte_at_front}
use Rattle.ibc_wire.specs.Fronts.{name_at_front}
use Rattle.ibc_wire.specs.RecordFronts.{header_fields, header_at_front}
use Rattle.ibc_wire.specs.declared.messages.CreateClient.{CreateClient}
use Rattle.ibc_wire.specs.declared.messages.UpdateClient.{UpdateClient}

abbrev pub create_client_fields : CreateClient → List Field
create_client_fields m = one_byte m.chain ∷ []

unfoldable pub create_client_at_front : Text → Front CreateClient
create_client_at_front text = do
  chain ← byte_at_front text
  Some (record { chain = chain.0 }, chain.1)

abbrev pub update_client_fields : UpdateClient → List Field
update_client_fields m = name is_client m.client ∷ header_fields m.header

unfoldable pub update_client_at_front : Text → Front UpdateClient
update_client_at_front text = do
  client ← name_at_front is_client text
  header ← header_at_front client.1
  Some (record { client = client.0; header = header.0 }, header.1)
