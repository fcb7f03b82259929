-- A client is added: the core has it, and the store is again the image.
use Rattle.std.proofs.Common.{◌≡◌, ℕ, ◌+◌, List, refl, sym, ap, subst}
use Rattle.std.specs.Prelude.{IsTrue}
use Rattle.ibc_ids.specs.Texts.{Text, text_cmp}
use Rattle.ibc_ids.specs.Maps.{with}
use Rattle.ibc_ids.specs.Names.{is_client}
use Rattle.ibc_ids.specs.Paths.{path}
use Rattle.ibc_ids.specs.declared.key.Key.TheVariants as key
use Rattle.ibc_ids.proofs.Maps.{map_values-with}
use Rattle.ibc_merkle.specs.Tree.{Pairs}
use Rattle.ibc_machine.specs.chain.Records.{Core, with_client}
use Rattle.ibc_machine.specs.ics02.Clients.{new_client}
use Rattle.ibc_machine.specs.ics24.Values.{ClientIs, NumberIs, value_bytes}
use Rattle.ibc_machine.proofs.CoreChanges.{changes-with_client, keyed-with_client, changes-next_client, keyed-next_client}
use Rattle.ibc_path_store.specs.StoreModel.{StoreModel}
use Rattle.ibc_records.specs.ClientModels.{ClientModel, abstract_client, new_client_model}
use Rattle.ibc_records.specs.RecordsModel.{RecordsModel, IsSoundRecords, AddsClient, core_of}
use Rattle.ibc_records.proofs.Stores.{Sets, Becomes, becomes_roomy, becomes_set}
use Rattle.ibc_records.proofs.Images.{IsImageOf, image_in, image_set, is_held, is_stored}

module _ (old : RecordsModel) (id : Text) (chain : ℕ) (store : StoreModel) where
  abbrev pub after : RecordsModel
  after = record old { clients = with text_cmp id (new_client_model chain) old.clients; next_client = old.next_client + 1; store = store }

  abbrev with_it : Core
  with_it = with_client id (new_client chain) (core_of old)

  -- the pairs with both paths set
  abbrev set_pairs : Pairs
  set_pairs =
      with text_cmp (path key.NextClientSequence) (value_bytes (NumberIs (old.next_client + 1)))
      (with text_cmp (path (key.ClientState id)) (value_bytes (ClientIs (new_client chain).state)) old.store.pairs)

  pub core-after : core_of after ≡ record (with_client id (new_client chain) (core_of old)) { next_client = old.next_client + 1 }
  core-after =
      ap (λ clients. record (core_of old) { clients = clients; next_client = old.next_client + 1 })
      (map_values-with text_cmp abstract_client id (new_client_model chain) old.clients)

  image_after : IsSoundRecords old → IsTrue (is_client id) → IsImageOf (record with_it { next_client = old.next_client + 1 }) set_pairs
  image_after held named =
      let keyed = keyed-with_client (core_of old) id (new_client chain) held.keyed named in
      image_set with_it (record with_it { next_client = old.next_client + 1 }) key.NextClientSequence (NumberIs (old.next_client + 1)) _
      (image_set (core_of old) with_it (key.ClientState id) (ClientIs (new_client chain).state) old.store.pairs (image_in old held) keyed (changes-with_client (core_of old) id (new_client chain)))
      (keyed-next_client with_it (old.next_client + 1) keyed) (changes-next_client with_it (old.next_client + 1))

  pub adds_client : IsSoundRecords old → IsTrue (is_client id) → Becomes old.store set_pairs store → IsSoundRecords after × AddsClient old id chain after
  adds_client held named becomes =
      let is_image = image_after held named in
      (is_held old after _ set_pairs is_image becomes core-after refl held.orderly, record { records = refl; stored = is_stored old after _ set_pairs is_image becomes core-after refl; core = core-after })

-- the same, from what the calls on the map and the store say
pub added : (old : RecordsModel) (id : Text) (chain : ℕ) (clients : List (Text × ClientModel)) (s1 s2 s3 : StoreModel) {p v q w : Text} → IsSoundRecords old → IsTrue (is_client id)
    → clients ≡ with text_cmp id (new_client_model chain) old.clients
    → p ≡ path (key.ClientState id) → v ≡ value_bytes (ClientIs (new_client chain).state) → q ≡ path key.NextClientSequence → w ≡ value_bytes (NumberIs (old.next_client + 1))
    → s1 ≡ record old.store { room = s1.room } → Sets s1 p v s2 → Sets s2 q w s3
    → IsSoundRecords (record old { clients = clients; next_client = old.next_client + 1; store = s3 }) × AddsClient old id chain (record old { clients = clients; next_client = old.next_client + 1; store = s3 })
added old id chain clients s1 s2 s3 {p} {v} {q} {w} held named entries ep ev eq ew e f g =
    let sets = becomes_set old.store _ s2 s3 (becomes_set old.store _ s1 s2 (becomes_roomy old.store s1 e) f ep ev) g eq ew in
    subst (λ cs. IsSoundRecords (record old { clients = cs; next_client = old.next_client + 1; store = s3 }) × AddsClient old id chain (record old { clients = cs; next_client = old.next_client + 1; store = s3 }))
    (sym entries) (adds_client old id chain s3 held named sets)
