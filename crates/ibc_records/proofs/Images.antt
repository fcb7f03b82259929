-- Where a core changes at some keys, and their paths are set in the pairs of a store, the pairs are again the core's image.
use Rattle.std.proofs.Common.{◌≡◌, List, [], ◌∷◌, Some, sym, ap, subst, ◌∙◌}
use Rattle.ibc_ids.specs.Texts.{text_cmp}
use Rattle.ibc_ids.specs.Maps.{with}
use Rattle.ibc_ids.specs.Paths.{path}
use Rattle.ibc_ids.specs.declared.key.Key.{Key}
use Rattle.ibc_merkle.specs.Tree.{Pairs}
use Rattle.ibc_machine.specs.chain.Records.{Core}
use Rattle.ibc_machine.specs.ics24.Values.{Value, value_bytes}
use Rattle.ibc_machine.specs.ics24.Image.{image, IsKeyed}
use Rattle.ibc_machine.proofs.ImageChanges.{Change, ChangesAt, ChangesIn, with_changes, image_changes_in, one_change}
use Rattle.ibc_records.specs.RecordsModel.{RecordsModel, IsSoundRecords, AreOrderly, IsStored, core_of}
use Rattle.ibc_records.proofs.Stores.{Becomes}

-- the pairs are the image of the core, every key of which has names for its names
pub record IsImageOf (core : Core) (pairs : Pairs) : Type 0 where
  pub keyed : IsKeyed core
  pub pairs_are : pairs ≡ image core

pub image_in : (held : RecordsModel) → IsSoundRecords held → IsImageOf (core_of held) held.store.pairs
image_in held is = record { keyed = is.keyed; pairs_are = is.stored }

-- several keys changed
pub image_changed : (old new : Core) (changes : List Change) (pairs : Pairs) → IsImageOf old pairs → IsKeyed new → ChangesIn old new changes
    → IsImageOf new (with_changes changes pairs)
image_changed old new changes pairs before keyed is = record {
  keyed = keyed;
  pairs_are = ap (with_changes changes) before.pairs_are ∙ sym (image_changes_in old new changes before.keyed keyed is);
}

-- one key has a value
pub image_set : (old new : Core) (k : Key) (v : Value) (pairs : Pairs) → IsImageOf old pairs → IsKeyed new → ChangesAt old new k v
    → IsImageOf new (with text_cmp (path k) (value_bytes v) pairs)
image_set old new k v pairs before keyed changes =
    image_changed old new ((k, Some v) ∷ []) pairs before keyed (one_change old new k v keyed changes)

-- records whose store became the image of their core
module _ (old new : RecordsModel) (core : Core) (pairs : Pairs) (is_image : IsImageOf core pairs) (becomes : Becomes old.store pairs new.store) (core_is : core_of new ≡ core) (same_last : new.last ≡ old.last) where
  image_of : new.store.pairs ≡ image (core_of new)
  image_of = becomes.pairs_are ∙ is_image.pairs_are ∙ ap image (sym core_is)

  pub is_held : AreOrderly new.next_channel new.channels → IsSoundRecords new
  is_held orderly = record { keyed = subst IsKeyed (sym core_is) is_image.keyed; stored = image_of; orderly = orderly }

  pub is_stored : IsStored old new
  is_stored = record { store = becomes.rewrites; image_of = image_of; last = same_last }
