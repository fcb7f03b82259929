-- A client knows a height more: the core has it so, and the store is again the image.
use Rattle.std.proofs.Common.{◌≡◌, ℕ, max, List, Some, None, refl, sym, ap, subst, ◌∙◌}
use Rattle.std.specs.Prelude.{IsTrue, IsNone, IsSome}
use Rattle.std.specs.Ordering.{nat_cmp}
use Rattle.ibc_ids.specs.Texts.{Text, text_cmp}
use Rattle.ibc_ids.specs.Maps.{at, with}
use Rattle.ibc_ids.specs.Names.{is_client}
use Rattle.ibc_ids.specs.Paths.{path}
use Rattle.ibc_ids.specs.declared.key.Key.TheVariants as key
use Rattle.ibc_ids.proofs.Maps.{map_values-with, keys_of-with}
use Rattle.ibc_machine.specs.chain.Records.{with_client}
use Rattle.ibc_machine.specs.ics02.Clients.{with_known_height}
use Rattle.ibc_machine.specs.ics24.Values.{ClientIs, value_bytes}
use Rattle.ibc_machine.proofs.CoreChanges.{changes-with_client, keyed-with_client}
use Rattle.ibc_path_store.specs.StoreModel.{StoreModel}
use Rattle.ibc_records.specs.declared.client.ConsensusState.{ConsensusState}
use Rattle.ibc_records.specs.ClientModels.{ClientModel, abstract_client, with_height}
use Rattle.ibc_records.specs.RecordsModel.{RecordsModel, IsSoundRecords, UpdatesClient, core_of}
use Rattle.ibc_records.proofs.Stores.{Sets, Becomes, becomes_roomy, becomes_set}
use Rattle.ibc_records.proofs.Images.{image_in, image_set, is_held, is_stored}

-- the client in plain
pub plain-with_height : (height : ℕ) (known : ConsensusState) (client : ClientModel) → abstract_client (with_height height known client) ≡ with_known_height height (abstract_client client)
plain-with_height height known client =
    ap (λ heights. record { state = record { chain = client.state.chain; latest = max client.state.latest height }; known = heights })
    (keys_of-with nat_cmp height known client.known)

module _ (old : RecordsModel) (id : Text) (height : ℕ) (known : ConsensusState) (client : ClientModel) (store : StoreModel) where
  abbrev pub after : RecordsModel
  after = record old { clients = with text_cmp id (with_height height known client) old.clients; store = store }

  pub core-after : core_of after ≡ with_client id (with_known_height height (abstract_client client)) (core_of old)
  core-after =
      ap (λ clients. record (core_of old) { clients = clients })
      (map_values-with text_cmp abstract_client id (with_height height known client) old.clients)
      ∙ ap (λ c. with_client id c (core_of old)) (plain-with_height height known client)

  pub updates_client : IsSoundRecords old → IsTrue (is_client id) → at text_cmp id old.clients ≡ Some client
      → Becomes old.store (with text_cmp (path (key.ClientState id)) (value_bytes (ClientIs (with_known_height height (abstract_client client)).state)) old.store.pairs) store
      → IsSoundRecords after × UpdatesClient old id height known after
  updates_client held named there becomes =
      let told = with_known_height height (abstract_client client) in
      let is_image = image_set (core_of old) (with_client id told (core_of old)) (key.ClientState id) (ClientIs told.state) old.store.pairs (image_in old held)
      (keyed-with_client (core_of old) id told held.keyed named) (changes-with_client (core_of old) id told) in (
        is_held old after _ _ is_image becomes core-after refl held.orderly,
        record {
          client = client;
          stood = there;
          records = refl;
          stored = is_stored old after _ _ is_image becomes core-after refl;
          core = core-after;
        },
      )

-- the same, from what the calls on the map and the store say
pub updated_from : (old : RecordsModel) (id : Text) (height : ℕ) (known : ConsensusState) (client : ClientModel) (clients : List (Text × ClientModel)) (s1 s2 : StoreModel) {p v : Text} → IsSoundRecords old → IsTrue (is_client id)
    → at text_cmp id old.clients ≡ Some client → clients ≡ with text_cmp id (with_height height known client) old.clients
    → p ≡ path (key.ClientState id) → v ≡ value_bytes (ClientIs (with_known_height height (abstract_client client)).state)
    → s1 ≡ record old.store { room = s1.room } → Sets s1 p v s2
    → IsSoundRecords (record old { clients = clients; store = s2 }) × UpdatesClient old id height known (record old { clients = clients; store = s2 })
updated_from old id height known client clients s1 s2 held named there entries ep ev e f =
    let sets = becomes_set old.store _ s1 s2 (becomes_roomy old.store s1 e) f ep ev in
    subst (λ cs. IsSoundRecords (record old { clients = cs; store = s2 }) × UpdatesClient old id height known (record old { clients = cs; store = s2 }))
    (sym entries) (updates_client old id height known client s2 held named there sets)

-- a client that is found in the view of records is there
pub is_there : (view value : RecordsModel) (id : Text) (client : ClientModel) → Some client ≡ at text_cmp id view.clients → view ≡ value → IsNone (at text_cmp id value.clients) → ⊥
is_there view value id client found same none =
    let here : IsNone {T = ClientModel} (Some client) = subst IsNone (ap (λ (held : RecordsModel). at text_cmp id held.clients) (sym same) ∙ sym found) none in
    cc

pub is_not_there : (view value : RecordsModel) (id : Text) → None ≡ at text_cmp id view.clients → view ≡ value → IsSome (at text_cmp id value.clients) → ⊥
is_not_there view value id missing same some =
    let here : IsSome {T = ClientModel} None = subst IsSome (ap (λ (held : RecordsModel). at text_cmp id held.clients) (sym same) ∙ sym missing) some in
    cc
