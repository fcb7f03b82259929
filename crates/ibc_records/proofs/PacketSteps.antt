-- A packet changes a channel that is there: the store is again the image.
use Rattle.std.proofs.Common.{◌≡◌, ℕ, true, false, is_some, ◌+◌, ◌<◌, ◌^◌, ◌&&◌, ◌⊎◌, inl, inr, Err, List, map, Option, Some, None, option_map, refl, sym, ap, subst, ◌∙◌}
use Rattle.std.specs.Prelude.{IsTrue, IsSome, IfSome}
use Rattle.std.specs.Option.{IsSomeAnd}
use Rattle.std.specs.Ordering.{nat_cmp}
use Rattle.ibc_ids.specs.Texts.{Text, pair_cmp}
use Rattle.ibc_ids.specs.Maps.{at, with}
use Rattle.ibc_ids.specs.Names.{is_port, is_channel}
use Rattle.ibc_ids.specs.Paths.{path}
use Rattle.ibc_ids.specs.declared.key.Key.TheVariants as key
use Rattle.ibc_ids.specs.declared.refusal.Refusal.{Refusal}
use Rattle.ibc_ids.specs.declared.refusal.Refusal.TheVariants.{NoMemory}
use Rattle.ibc_wire.specs.declared.records.ChannelEnd.{ChannelEnd}
use Rattle.ibc_machine.specs.chain.Checks.{Checked}
use Rattle.ibc_machine.specs.chain.Records.{Core, Channel, Commitment, channel_at, with_channel}
use Rattle.ibc_machine.specs.ics04.Packets.{after_send, after_receive, after_ack, after_timeout}
use Rattle.ibc_machine.specs.ics04.Parts.{Part, entry_of, part_after_receive, part_after_ack, part_after_timeout}
use Rattle.ibc_machine.specs.ics24.Values.{Value, CommitmentIs, NumberIs, AckIs, value_bytes}
use Rattle.ibc_machine.proofs.SortedMaps.{Sorted, Sorted-from}
use Rattle.ibc_machine.proofs.ImageChanges.{with_changes}
use Rattle.ibc_machine.proofs.PacketChanges.{Edit, EditsOf, change_of, edits_of_send, edits_of_receive, edits_of_settling, changes-with_edits, keyed-with_edits, edits-after_send, edits-after_receive, edits-after_ack, edits-after_timeout}
use Rattle.ibc_path_store.specs.StoreModel.{StoreModel}
use Rattle.ibc_machine.specs.chain.Orderly.{IsOrderlyEnd}
use Rattle.ibc_records.specs.RecordsModel.{RecordsModel, IsSoundRecords, AreOrderly, core_of}
use Rattle.ibc_records.specs.HandlerContract.{AreWrittenRecords}
use Rattle.ibc_records.proofs.Orderly.{Channels, still_there, orderly_sent, orderly_received, orderly_acknowledged, orderly_timed_out}
use Rattle.ibc_records.proofs.Images.{IsImageOf, image_in, image_changed, is_held, is_stored}
use Rattle.ibc_records.proofs.Stores.{Becomes, Sets, Settles, becomes_roomy, becomes_set, becomes_settled}
use Rattle.ibc_records.proofs.WrittenRecords.{same_clients}

module _ (old : RecordsModel) (port id : Text) (mine after : Channel) (edits : List Edit) (channels : Channels) (store : StoreModel) (held : IsSoundRecords old) (stood : at pair_cmp (port, id) old.channels ≡ Some mine) (is : EditsOf port id mine after edits) (orderly : IsOrderlyEnd after) (entries : channels ≡ with pair_cmp (port, id) after old.channels) (becomes : Becomes old.store (with_changes (map (change_of port id) edits) old.store.pairs) store) where
  abbrev new : RecordsModel
  new = record old { channels = channels; store = store }

  abbrev core : Core
  core = with_channel port id after (core_of old)

  core_is : core_of new ≡ core
  core_is = ap (λ cs. record (core_of old) { channels = cs }) entries

  image_is : IsImageOf core (with_changes (map (change_of port id) edits) old.store.pairs)
  image_is =
      image_changed (core_of old) core (map (change_of port id) edits) old.store.pairs (image_in old held)
      (keyed-with_edits (core_of old) port id mine after edits stood is held.keyed) (changes-with_edits (core_of old) port id mine after edits stood is)

  pub edited_held : IsSoundRecords new
  edited_held =
      is_held old new core _ image_is becomes core_is refl
      (subst (λ cs. AreOrderly old.next_channel cs) (sym entries) (still_there old port id mine after held stood orderly))

  pub edited_written : AreWrittenRecords core old new
  edited_written = record { core_is = core_is; stored = is_stored old new core _ image_is becomes core_is refl; knows = same_clients old new refl }

-- ---- the four steps, from what the calls on the map and the store say

module _ (old : RecordsModel) (port id : Text) (mine : Channel) (channels : Channels) (held : IsSoundRecords old) (named : IsTrue (is_port port && is_channel id)) (stood : at pair_cmp (port, id) old.channels ≡ Some mine) where
  was_orderly : IsOrderlyEnd mine
  was_orderly = held.orderly.ends port id mine stood

  abbrev pub with_both : StoreModel → RecordsModel
  with_both store = record old { channels = channels; store = store }

  pub sends : (c : Commitment) (s1 s2 s3 : StoreModel) {p v q w : Text} → mine.next_send < 2 ^ 64 → channels ≡ with pair_cmp (port, id) (after_send c mine) old.channels
      → p ≡ path (key.Commitment port id mine.next_send) → v ≡ value_bytes (CommitmentIs c)
      → q ≡ path (key.NextSequenceSend port id) → w ≡ value_bytes (NumberIs (mine.next_send + 1))
      → s1 ≡ record old.store { room = s1.room } → Sets s1 p v s2 → Sets s2 q w s3
      → IsSoundRecords (with_both s3) × AreWrittenRecords (with_channel port id (after_send c mine) (core_of old)) old (with_both s3)
  sends c s1 s2 s3 fits entries ep ev eq ew e f g =
      let becomes = becomes_set old.store _ s2 s3 (becomes_set old.store _ s1 s2 (becomes_roomy old.store s1 e) f ep ev) g eq ew in
      let edits = edits-after_send port id mine named c fits in
      let orderly = orderly_sent mine was_orderly c in
      (edited_held old port id mine (after_send c mine) (edits_of_send c mine) channels s3 held stood edits orderly entries becomes, edited_written old port id mine (after_send c mine) (edits_of_send c mine) channels s3 held stood edits orderly entries becomes)

  pub receives : (n : ℕ) (ack : Text) (s1 s2 s3 : StoreModel) {p v q w : Text} → n < 2 ^ 64 → channels ≡ with pair_cmp (port, id) (after_receive n ack mine) old.channels
      → p ≡ path (key.Acknowledgement port id n) → v ≡ value_bytes (AckIs ack) → (q, w) ≡ entry_of port id (part_after_receive n mine)
      → s1 ≡ record old.store { room = s1.room } → Sets s1 p v s2 → Sets s2 q w s3
      → IsSoundRecords (with_both s3) × AreWrittenRecords (with_channel port id (after_receive n ack mine) (core_of old)) old (with_both s3)
  receives n ack s1 s2 s3 fits entries ep ev other e f g =
      let becomes = becomes_set old.store _ s2 s3 (becomes_set old.store _ s1 s2 (becomes_roomy old.store s1 e) f ep ev) g (ap (λ (x : Text × Text). x.0) other) (ap (λ (x : Text × Text). x.1) other) in
      let edits = edits-after_receive port id mine named n ack fits in
      let orderly = orderly_received mine was_orderly n ack in
      (edited_held old port id mine (after_receive n ack mine) (edits_of_receive n ack mine) channels s3 held stood edits orderly entries becomes, edited_written old port id mine (after_receive n ack mine) (edits_of_receive n ack mine) channels s3 held stood edits orderly entries becomes)

  -- a packet is settled
  module _ (n : ℕ) (s1 s2 : StoreModel) {p : Text} (fits : n < 2 ^ 64) (ep : p ≡ path (key.Commitment port id n)) (e : s1 ≡ record old.store { room = s1.room }) where
    settled : (after : Channel) (more : Option (Part × Value)) {other : Option (Text × Text)} → EditsOf port id mine after (edits_of_settling n more) → IsOrderlyEnd after
        → channels ≡ with pair_cmp (port, id) after old.channels
        → other ≡ option_map (entry_of port id) more → Settles s1 p other s2
        → IsSoundRecords (with_both s2) × AreWrittenRecords (with_channel port id after (core_of old)) old (with_both s2)
    settled after None edits orderly entries same f =
        let becomes = becomes_settled old.store _ s1 s2 (becomes_roomy old.store s1 e) f ep same in
        (edited_held old port id mine after (edits_of_settling n None) channels s2 held stood edits orderly entries becomes, edited_written old port id mine after (edits_of_settling n None) channels s2 held stood edits orderly entries becomes)
    settled after (Some entry) edits orderly entries same f =
        let becomes = becomes_settled old.store _ s1 s2 (becomes_roomy old.store s1 e) f ep same in
        (edited_held old port id mine after (edits_of_settling n (Some entry)) channels s2 held stood edits orderly entries becomes, edited_written old port id mine after (edits_of_settling n (Some entry)) channels s2 held stood edits orderly entries becomes)

    in_order : Sorted nat_cmp mine.commitments
    in_order = Sorted-from nat_cmp mine.commitments was_orderly.sorted

    pub acknowledges : {other : Option (Text × Text)} → channels ≡ with pair_cmp (port, id) (after_ack n mine) old.channels → other ≡ option_map (entry_of port id) (part_after_ack mine) → Settles s1 p other s2
        → IsSoundRecords (with_both s2) × AreWrittenRecords (with_channel port id (after_ack n mine) (core_of old)) old (with_both s2)
    acknowledges = settled (after_ack n mine) (part_after_ack mine) (edits-after_ack port id mine named n fits in_order) (orderly_acknowledged mine was_orderly n)

    pub times_out : {other : Option (Text × Text)} → channels ≡ with pair_cmp (port, id) (after_timeout n mine) old.channels → other ≡ option_map (entry_of port id) (part_after_timeout mine) → Settles s1 p other s2
        → IsSoundRecords (with_both s2) × AreWrittenRecords (with_channel port id (after_timeout n mine) (core_of old)) old (with_both s2)
    times_out = settled (after_timeout n mine) (part_after_timeout mine) (edits-after_timeout port id mine named n fits in_order) (orderly_timed_out mine was_orderly n)

-- ---- a channel that the caller knows of, in the value of the records and under its name

pub where_found : {X : Type 0} (o : Option X) (Said : X → Type 0) (x : X) → o ≡ Some x → IfSome o Said → Said x
where_found o Said x there said = subst (λ found. IfSome found Said) there said

module _ (view value : RecordsModel) (name : Text × Text) (port id : Text) (same : view ≡ value) (is : name ≡ (port, id)) where
  found_at : channel_at (core_of value) port id ≡ at pair_cmp name view.channels
  found_at = λ i. at pair_cmp (sym is i) (sym same i).channels

  pub found : (mine : Channel) → at pair_cmp name view.channels ≡ Some mine → channel_at (core_of value) port id ≡ Some mine
  found mine there = found_at ∙ there

  -- what is asked of the channel holds of the one that is found
  pub asked : (Asked : Channel → Type 0) (mine : Channel) → IsSomeAnd (channel_at (core_of value) port id) Asked → at pair_cmp name view.channels ≡ Some mine → Asked mine
  asked Asked mine some there = subst (λ o. IsSomeAnd o Asked) (found mine there) some

  -- and it isn't missing
  pub not_missing : (Asked : Channel → Type 0) → IsSomeAnd (channel_at (core_of value) port id) Asked → at pair_cmp name view.channels ≡ None → ⊥
  not_missing Asked some none = subst (λ o. IsSomeAnd o Asked) (found_at ∙ none) some

  pub not_absent : IsSome (channel_at (core_of value) port id) → at pair_cmp name view.channels ≡ None → ⊥
  not_absent some none = let both : false ≡ true = sym (ap is_some (found_at ∙ none)) ∙ some in absurd (cc)

  pub written_at : (after : Channel) (new : RecordsModel) → AreWrittenRecords (with_channel name.0 name.1 after (core_of view)) view new → AreWrittenRecords (with_channel port id after (core_of value)) value new
  written_at after new written =
      subst (λ (x : RecordsModel × (Text × Text)). AreWrittenRecords (with_channel x.1.0 x.1.1 after (core_of x.0)) x.0 new) (λ i. (same i, is i)) written

  -- why the application refused it
  pub why : {A : Type 0} (mine : Channel) (end : ChannelEnd) (told : ChannelEnd → Checked A) (e : Refusal) → at pair_cmp name view.channels ≡ Some mine → end ≡ mine.end
      → ((e ≡ NoMemory) ⊎ (told end ≡ Err e)) → (e ≡ NoMemory) ⊎ IfSome (channel_at (core_of value) port id) (λ (x : Channel). told x.end ≡ Err e)
  why mine end told e there is_end (inl no_memory) = inl no_memory
  why mine end told e there is_end (inr refused) =
      inr (subst (λ o. IfSome o (λ (x : Channel). told x.end ≡ Err e)) (sym (found mine there)) (ap told (sym is_end) ∙ refused))
