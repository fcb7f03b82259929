-- A channel is added, or its end is set: the store is again the image.
use Rattle.std.proofs.Common.{◌≡◌, ◌+◌, ◌-◌, ◌^◌, ◌<◌, arith, ◌&&◌, true, is_some, Option, Some, None, refl, sym, ap, subst, ◌∙◌}
use Rattle.std.specs.Prelude.{IsTrue, IfSome, IsNone}
use Rattle.ibc_ids.specs.Texts.{Text, pair_cmp}
use Rattle.ibc_ids.specs.Maps.{at, with}
use Rattle.ibc_ids.specs.Names.{is_port, is_channel}
use Rattle.ibc_ids.specs.Paths.{path, nth_channel}
use Rattle.ibc_ids.specs.declared.key.Key.TheVariants as key
use Rattle.ibc_merkle.specs.Tree.{Pairs}
use Rattle.ibc_wire.specs.declared.records.ChannelEnd.{ChannelEnd}
use Rattle.ibc_machine.specs.chain.Records.{Core, Channel, with_channel}
use Rattle.ibc_machine.specs.ics04.Channels.{new_channel, with_new_channel}
use Rattle.ibc_machine.specs.ics24.Values.{ChannelIs, NumberIs, value_bytes}
use Rattle.ibc_machine.proofs.CoreChanges.{changes-next_channel, keyed-next_channel}
use Rattle.ibc_machine.proofs.ChannelChanges.{HasNoPackets, new_channel_at, changes-with_new_channel, keyed-with_new_channel, changes-with_channel_end, keyed-with_channel_end}
use Rattle.ibc_path_store.specs.StoreModel.{StoreModel}
use Rattle.ibc_records.specs.Entries.{new_entries}
use Rattle.ibc_records.specs.RecordsModel.{RecordsModel, IsSoundRecords, AddsChannel, SetsChannelEnd, core_of}
use Rattle.ibc_records.proofs.Orderly.{Channels, orderly_new, orderly_alike, still_orderly, still_there, counted, is_free}
use Rattle.ibc_records.proofs.Stores.{Sets, SetsAll, becomes_roomy, becomes_set, becomes_set_all}
use Rattle.ibc_records.proofs.Images.{image_in, image_set, image_changed, is_held, is_stored}

module _ (old : RecordsModel) (port id : Text) (end : ChannelEnd) (channels : Channels) (held : IsSoundRecords old) (named : IsTrue (is_port port && is_channel id)) where
  -- from what the calls on the map and the store say
  pub adds : (s1 s3 : StoreModel) {entries : Pairs} → old.next_channel < 2 ^ 64 - 1 → id ≡ nth_channel old.next_channel → channels ≡ with pair_cmp (port, id) (new_channel end) old.channels
      → entries ≡ new_entries port id end (old.next_channel + 1) → s1 ≡ record old.store { room = s1.room } → SetsAll s1 entries s3
      → IsSoundRecords (record old { channels = channels; next_channel = old.next_channel + 1; store = s3 })
      × AddsChannel old port id end (record old { channels = channels; next_channel = old.next_channel + 1; store = s3 })
  adds s1 s3 {entries} fits next is ee e f =
      let becomes = becomes_set_all old.store _ s1 s3 (becomes_roomy old.store s1 e) f ee in
      let with_it : Core = with_channel port id (new_channel end) (core_of old) in
      let next_fits : old.next_channel < 2 ^ 64 = omega (arith, fits) in
      let quiet : (c : Channel) → at pair_cmp (port, id) old.channels ≡ Some c → HasNoPackets c = λ c found. absurd (is_free old.next_channel old.channels held.orderly next_fits port id next c found) in
      let image_with = image_changed (core_of old) with_it (new_channel_at port id end) old.store.pairs (image_in old held)
      (keyed-with_new_channel (core_of old) port id end quiet held.keyed named) (changes-with_new_channel (core_of old) port id end quiet named) in
      let core = with_new_channel port id end (core_of old) in
      let is_image = image_set with_it core key.NextChannelSequence (NumberIs (old.next_channel + 1)) _ image_with
      (keyed-next_channel with_it (old.next_channel + 1) image_with.keyed) (changes-next_channel with_it (old.next_channel + 1)) in
      let after : RecordsModel = record old { channels = with pair_cmp (port, id) (new_channel end) old.channels; next_channel = old.next_channel + 1; store = s3 } in
      let above : old.next_channel < old.next_channel + 1 = omega arith in
      let still = still_orderly (old.next_channel + 1) old.channels (port, id) (new_channel end) (counted old.next_channel old.channels held.orderly) (old.next_channel, above, next) (orderly_new end) in
      subst (λ cs. IsSoundRecords (record old { channels = cs; next_channel = old.next_channel + 1; store = s3 }) × AddsChannel old port id end (record old { channels = cs; next_channel = old.next_channel + 1; store = s3 })) (sym is)
      (is_held old after core _ is_image becomes refl refl still, record { records = refl; stored = is_stored old after core _ is_image becomes refl refl; core = refl })

  pub sets : (channel : Channel) (s1 s2 : StoreModel) {p v : Text} → at pair_cmp (port, id) old.channels ≡ Some channel
      → channels ≡ with pair_cmp (port, id) (record channel { end = end }) old.channels
      → p ≡ path (key.ChannelEnd port id) → v ≡ value_bytes (ChannelIs end)
      → s1 ≡ record old.store { room = s1.room } → Sets s1 p v s2
      → IsSoundRecords (record old { channels = channels; store = s2 }) × SetsChannelEnd old port id end (record old { channels = channels; store = s2 })
  sets channel s1 s2 {p} {v} there is ep ev e f =
      let becomes = becomes_set old.store _ s1 s2 (becomes_roomy old.store s1 e) f ep ev in
      let core : Core = with_channel port id (record channel { end = end }) (core_of old) in
      let is_image = image_set (core_of old) core (key.ChannelEnd port id) (ChannelIs end) old.store.pairs (image_in old held)
      (keyed-with_channel_end (core_of old) port id channel end there held.keyed named) (changes-with_channel_end (core_of old) port id channel end there) in
      let after : RecordsModel = record old { channels = with pair_cmp (port, id) (record channel { end = end }) old.channels; store = s2 } in
      let still = still_there old port id channel (record channel { end = end }) held there (orderly_alike channel (record channel { end = end }) refl refl (held.orderly.ends port id channel there)) in
      subst (λ cs. IsSoundRecords (record old { channels = cs; store = s2 }) × SetsChannelEnd old port id end (record old { channels = cs; store = s2 })) (sym is) (
        is_held old after core _ is_image becomes refl refl still,
        record {
          channel = channel;
          stood = there;
          records = refl;
          stored = is_stored old after core _ is_image becomes refl refl;
          core = refl;
        },
      )

  -- the same, where it is known that there is a channel
  pub sets_there : (s1 s2 : StoreModel) {p v : Text} → is_some (at pair_cmp (port, id) old.channels) ≡ true
      → IfSome (at pair_cmp (port, id) old.channels) (λ channel. channels ≡ with pair_cmp (port, id) (record channel { end = end }) old.channels)
      → p ≡ path (key.ChannelEnd port id) → v ≡ value_bytes (ChannelIs end)
      → s1 ≡ record old.store { room = s1.room } → Sets s1 p v s2
      → IsSoundRecords (record old { channels = channels; store = s2 }) × SetsChannelEnd old port id end (record old { channels = channels; store = s2 })
  sets_there s1 s2 some is ep ev e f = go (at pair_cmp (port, id) old.channels) refl some is
    where
      go : (o : Option Channel) → at pair_cmp (port, id) old.channels ≡ o → is_some o ≡ true
          → IfSome o (λ channel. channels ≡ with pair_cmp (port, id) (record channel { end = end }) old.channels)
          → IsSoundRecords (record old { channels = channels; store = s2 }) × SetsChannelEnd old port id end (record old { channels = channels; store = s2 })
      go None there some is = absurd (cc)
      go (Some channel) there some is = sets channel s1 s2 there is ep ev e f

-- room was made, and no channel came
pub roomy : (old : RecordsModel) (channels : Channels) (s1 : StoreModel) → IsSoundRecords old → channels ≡ old.channels → s1 ≡ record old.store { room = s1.room }
    → IsSoundRecords (record old { channels = channels; store = s1 })
roomy old channels s1 held same e =
    subst (λ cs. IsSoundRecords (record old { channels = cs; store = s1 })) (sym same)
    (record { keyed = held.keyed; stored = ap (λ (s : StoreModel). s.pairs) e ∙ held.stored; orderly = held.orderly })

-- a channel that is there in the view of records isn't missing
pub is_not_missing : (view value : RecordsModel) (name : Text × Text) → is_some (at pair_cmp name view.channels) ≡ true → view ≡ value
    → IsNone (at pair_cmp name value.channels) → ⊥
is_not_missing view value name some same none =
    go (at pair_cmp name value.channels) (ap (λ (held : RecordsModel). is_some (at pair_cmp name held.channels)) (sym same) ∙ some) none
  where
    go : (o : Option Channel) → is_some o ≡ true → IsNone o → ⊥
    go None some none = cc
    go (Some channel) some none = cc
