-- The records of a chain in the beginning: the three counters are the image of their core.
use Rattle.std.proofs.Common.{◌≡◌, ℕ, List, [], Some, refl, sym, ap, subst, ◌∙◌}
use Rattle.std.specs.Prelude.{IsTrue}
use Rattle.ibc_ids.specs.Texts.{Text, text_cmp}
use Rattle.ibc_ids.specs.Maps.{with}
use Rattle.ibc_ids.specs.Paths.{path, is_key}
use Rattle.ibc_ids.specs.declared.key.Key.{Key}
use Rattle.ibc_ids.specs.declared.key.Key.TheVariants as key
use Rattle.ibc_wire.specs.declared.records.ConnectionEnd.{ConnectionEnd}
use Rattle.ibc_machine.specs.chain.Records.{Channel}
use Rattle.ibc_machine.specs.ics24.Values.{Value, NumberIs, value_at, value_bytes}
use Rattle.ibc_machine.specs.ics24.Image.{image, IsKeyed}
use Rattle.ibc_path_store.specs.StoreModel.{StoreModel}
use Rattle.ibc_records.specs.ClientModels.{ClientModel}
use Rattle.ibc_records.specs.declared.records.NextNumbers.{NextNumbers}
use Rattle.ibc_records.specs.RecordsModel.{RecordsModel, LastBlock, no_block, IsSoundRecords, IsCountingFrom, core_from}
use Rattle.ibc_records.proofs.Stores.{Sets, becomes_roomy, becomes_set}

-- three counters, set in this order
pub image-counters : (next : NextNumbers) → with text_cmp (path key.NextChannelSequence) (value_bytes (NumberIs next.channel)) (with text_cmp (path key.NextConnectionSequence) (value_bytes (NumberIs next.connection)) (with text_cmp (path key.NextClientSequence) (value_bytes (NumberIs next.client)) [])) ≡ image (core_from next)
unfolding image
image-counters next = refl

pub keyed-counters : (next : NextNumbers) → IsKeyed (core_from next)
keyed-counters next = record { keyed = keyed }
  where
    keyed : (k : Key) (v : Value) → value_at (core_from next) k ≡ Some v → IsTrue (is_key k)
    keyed key.NextClientSequence v e = refl
    keyed key.NextConnectionSequence v e = refl
    keyed key.NextChannelSequence v e = refl
    keyed k v e = absurd (cc)

abbrev pub new_records : NextNumbers → StoreModel → RecordsModel
new_records next store = record { clients = []; connections = []; channels = []; next_client = next.client; next_connection = next.connection; next_channel = next.channel; store = store; last = no_block }

-- clients, connections and channels, and what was committed last
abbrev Maps : Type 0
Maps = List (Text × ClientModel) × List (Text × ConnectionEnd) × List ((Text × Text) × Channel) × LastBlock

abbrev pub with_maps : Maps → RecordsModel → RecordsModel
with_maps maps held = record held { clients = maps.0; connections = maps.1; channels = maps.2; last = maps.3 }

pub new_held_records : (maps : Maps) (window time : ℕ) (next : NextNumbers) (s0 s1 s2 s3 s4 : StoreModel) {p q r u v w : Text}
    → maps.0 ≡ [] → maps.1 ≡ [] → maps.2 ≡ [] → maps.3 ≡ no_block → s0.pairs ≡ [] → s0.time ≡ time → s0.window ≡ window → s0.gone ≡ 0 → s0.kept ≡ [] → s0.hashed ≡ record { last = []; digests = 0 }
    → s1 ≡ record s0 { room = s1.room } → Sets s1 p u s2 → Sets s2 q v s3 → Sets s3 r w s4
    → p ≡ path key.NextClientSequence → q ≡ path key.NextConnectionSequence → r ≡ path key.NextChannelSequence
    → u ≡ value_bytes (NumberIs next.client) → v ≡ value_bytes (NumberIs next.connection) → w ≡ value_bytes (NumberIs next.channel)
    → IsSoundRecords (with_maps maps (new_records next s4)) × IsCountingFrom window time next (with_maps maps (new_records next s4))
new_held_records maps window time next s0 s1 s2 s3 s4 {p} {q} {r} {u} {v} {w} no_client no_connection no_channel no_last empty et ew eg ek eh e f g h ep eq er eu ev ewv =
    let becomes = becomes_set s0 _ s3 s4 (becomes_set s0 _ s2 s3 (becomes_set s0 _ s1 s2 (becomes_roomy s0 s1 e) f ep eu) g eq ev) h er ewv in
    let pairs : s4.pairs ≡ image (core_from next) = becomes.pairs_are ∙ ap (λ pairs. with text_cmp (path key.NextChannelSequence) (value_bytes (NumberIs next.channel)) (with text_cmp (path key.NextConnectionSequence) (value_bytes (NumberIs next.connection)) (with text_cmp (path key.NextClientSequence) (value_bytes (NumberIs next.client)) pairs))) empty ∙ image-counters next in
    let held : RecordsModel = new_records next s4 in
    subst (λ (z : Maps). IsSoundRecords (with_maps z held) × IsCountingFrom window time next (with_maps z held))
    (λ i. (sym no_client i, sym no_connection i, sym no_channel i, sym no_last i)) (
      record { keyed = keyed-counters next; stored = pairs; orderly = record { sorted = refl; numbered = λ port id channel found. absurd (cc); ends = λ port id mine found. absurd (cc) } },
      record {
        clients = refl;
        connections = refl;
        channels = refl;
        core = refl;
        last = refl;
        store = λ i. record {
          pairs = pairs i;
          room = s4.room;
          time = (ap (λ (s : StoreModel). s.time) becomes.rewrites ∙ et) i;
          window = (ap (λ (s : StoreModel). s.window) becomes.rewrites ∙ ew) i;
          gone = (ap (λ (s : StoreModel). s.gone) becomes.rewrites ∙ eg) i;
          kept = (ap (λ (s : StoreModel). s.kept) becomes.rewrites ∙ ek) i;
          hashed = (ap (λ (s : StoreModel). s.hashed) becomes.rewrites ∙ eh) i;
        };
      },
    )
