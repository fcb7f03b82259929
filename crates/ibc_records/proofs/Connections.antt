-- An end of a connection is added or set: the store is again the image.
use Rattle.std.proofs.Common.{◌≡◌, ◌+◌, List, refl, sym, subst}
use Rattle.std.specs.Prelude.{IsTrue}
use Rattle.ibc_ids.specs.Texts.{Text, text_cmp}
use Rattle.ibc_ids.specs.Maps.{with}
use Rattle.ibc_ids.specs.Names.{is_connection}
use Rattle.ibc_ids.specs.Paths.{path}
use Rattle.ibc_ids.specs.declared.key.Key.TheVariants as key
use Rattle.ibc_merkle.specs.Tree.{Pairs}
use Rattle.ibc_wire.specs.declared.records.ConnectionEnd.{ConnectionEnd}
use Rattle.ibc_machine.specs.chain.Records.{Core, with_connection}
use Rattle.ibc_machine.specs.ics03.Connections.{with_new_connection}
use Rattle.ibc_machine.specs.ics24.Values.{ConnectionIs, NumberIs, value_bytes}
use Rattle.ibc_machine.proofs.CoreChanges.{changes-with_connection, keyed-with_connection, changes-next_connection, keyed-next_connection}
use Rattle.ibc_path_store.specs.StoreModel.{StoreModel}
use Rattle.ibc_records.specs.RecordsModel.{RecordsModel, IsSoundRecords, AddsConnection, SetsConnection, core_of}
use Rattle.ibc_records.proofs.Stores.{Sets, becomes_roomy, becomes_set}
use Rattle.ibc_records.proofs.Images.{IsImageOf, image_in, image_set, is_held, is_stored}

module _ (old : RecordsModel) (id : Text) (end : ConnectionEnd) (connections : List (Text × ConnectionEnd)) (entries : connections ≡ with text_cmp id end old.connections) (held : IsSoundRecords old) (named : IsTrue (is_connection id)) where
  abbrev with_it : Core
  with_it = with_connection id end (core_of old)

  abbrev set_pairs : Pairs
  set_pairs = with text_cmp (path (key.Connection id)) (value_bytes (ConnectionIs end)) old.store.pairs

  image_with : IsImageOf with_it set_pairs
  image_with =
      image_set (core_of old) with_it (key.Connection id) (ConnectionIs end) old.store.pairs (image_in old held)
      (keyed-with_connection (core_of old) id end held.keyed named) (changes-with_connection (core_of old) id end)

  -- from what the calls on the map and the store say
  pub sets : (s1 s2 : StoreModel) {p v : Text} → p ≡ path (key.Connection id) → v ≡ value_bytes (ConnectionIs end)
      → s1 ≡ record old.store { room = s1.room } → Sets s1 p v s2
      → IsSoundRecords (record old { connections = connections; store = s2 }) × SetsConnection old id end (record old { connections = connections; store = s2 })
  sets s1 s2 {p} {v} ep ev e f =
      let becomes = becomes_set old.store _ s1 s2 (becomes_roomy old.store s1 e) f ep ev in
      let after : RecordsModel = record old { connections = with text_cmp id end old.connections; store = s2 } in
      subst (λ cs. IsSoundRecords (record old { connections = cs; store = s2 }) × SetsConnection old id end (record old { connections = cs; store = s2 })) (sym entries)
      (is_held old after with_it set_pairs image_with becomes refl refl held.orderly, record { records = refl; stored = is_stored old after with_it set_pairs image_with becomes refl refl; core = refl })

  pub adds : (s1 s2 s3 : StoreModel) {p v q w : Text} → p ≡ path (key.Connection id) → v ≡ value_bytes (ConnectionIs end)
      → q ≡ path key.NextConnectionSequence → w ≡ value_bytes (NumberIs (old.next_connection + 1))
      → s1 ≡ record old.store { room = s1.room } → Sets s1 p v s2 → Sets s2 q w s3
      → IsSoundRecords (record old { connections = connections; next_connection = old.next_connection + 1; store = s3 })
      × AddsConnection old id end (record old { connections = connections; next_connection = old.next_connection + 1; store = s3 })
  adds s1 s2 s3 {p} {v} {q} {w} ep ev eq ew e f g =
      let becomes = becomes_set old.store _ s2 s3 (becomes_set old.store _ s1 s2 (becomes_roomy old.store s1 e) f ep ev) g eq ew in
      let core = with_new_connection id end (core_of old) in
      let is_image = image_set with_it core key.NextConnectionSequence (NumberIs (old.next_connection + 1)) set_pairs image_with
      (keyed-next_connection with_it (old.next_connection + 1) image_with.keyed) (changes-next_connection with_it (old.next_connection + 1)) in
      let after : RecordsModel = record old { connections = with text_cmp id end old.connections; next_connection = old.next_connection + 1; store = s3 } in
      subst (λ cs. IsSoundRecords (record old { connections = cs; next_connection = old.next_connection + 1; store = s3 }) × AddsConnection old id end (record old { connections = cs; next_connection = old.next_connection + 1; store = s3 })) (sym entries)
      (is_held old after core _ is_image becomes refl refl held.orderly, record { records = refl; stored = is_stored old after core _ is_image becomes refl refl; core = refl })
