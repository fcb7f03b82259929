-- Where a core changes at some keys, its image changes at those keys' paths.
use Rattle.std.proofs.Common.{◌≡◌, refl, sym, ap, subst, ◌∙◌, Bool, true, false, cond, List, [], ◌∷◌, Option, Some, None, is_eq, option_map}
use Rattle.std.specs.Prelude.{IsTrue}
use Rattle.std.specs.List.{AllByRecursion}
use Rattle.std.specs.Bool.{passes}
use Rattle.std.specs.FinMap.{is_sorted}
use Rattle.std.specs.FinMap.Entries.{same_entries}
use Rattle.ibc_ids.specs.Texts.{Text, text_cmp}
use Rattle.ibc_ids.specs.Maps.{at, with, without}
use Rattle.ibc_ids.specs.Paths.{path, is_key}
use Rattle.ibc_ids.specs.declared.key.Key.{Key}
use Rattle.ibc_ids.proofs.Texts.{text_cmp_total, text_tied, text_ties}
use Rattle.ibc_ids.proofs.Paths.{different_paths}
use Rattle.ibc_merkle.specs.Tree.{Pairs}
use Rattle.ibc_machine.specs.chain.Records.{Core}
use Rattle.ibc_machine.specs.ics24.Values.{Value, value_at, value_bytes}
use Rattle.ibc_machine.specs.ics24.Image.{image, IsKeyed}
use Rattle.ibc_machine.proofs.FiniteMaps.{by_text, same_key, at-with, at-with_same}
use Rattle.ibc_machine.proofs.SortedMaps.{Sorted-from, Sorted-to, Sorted-without, at-without_same, at-without_other}
use Rattle.ibc_machine.proofs.Images.{image_sorted, image_at, image_from, sorted-with, at_is_find}

-- the core has the value at the key, and at every other path what it had
pub record ChangesAt (old new : Core) (k : Key) (v : Value) : Type 0 where
  pub here : value_at new k ≡ Some v
  pub others : (l : Key) → (path l ≡ path k → ⊥) → value_at new l ≡ value_at old l

-- a key with its new value, or with none
abbrev pub Change : Type 0
Change = Key × Option Value

-- a text is no path of these changes
abbrev pub IsApart : Text → List Change → Type 0
IsApart q changes = AllByRecursion (λ (c : Change). q ≡ path c.0 → ⊥) changes

-- the core has the changes at their keys, and at every other path what it had
pub record ChangesIn (old new : Core) (changes : List Change) : Type 0 where
  pub here : AllByRecursion (λ (c : Change). IsTrue (is_key c.0) × (value_at new c.0 ≡ c.1)) changes
  pub others : (l : Key) → IsApart (path l) changes → value_at new l ≡ value_at old l

-- the pairs with this value at the path, or with none
abbrev pub with_change : Text → Option Value → Pairs → Pairs
with_change q (Some v) pairs = with text_cmp q (value_bytes v) pairs
with_change q None pairs = without text_cmp q pairs

-- the pairs with the changes, one after another
abbrev pub with_changes : List Change → Pairs → Pairs
with_changes [] pairs = pairs
with_changes (c ∷ cs) pairs = with_changes cs (with_change (path c.0) c.1 pairs)

tells : (core : Core) → IsKeyed core → (k : Key) → IsTrue (is_key k) → (l : Key) (v : Value) → value_at core l ≡ Some v → path l ≡ path k → l ≡ k
tells core is_keyed k named l v there same = different_paths l k (is_keyed.keyed l v there) named same

-- pairs that answer alike are the same
pub same_pairs : (es fs : Pairs) → is_sorted text_cmp es ≡ true → is_sorted text_cmp fs ≡ true → ((q : Text) → at text_cmp q es ≡ at text_cmp q fs) → es ≡ fs
same_pairs es fs g h is =
    same_entries text_cmp text_cmp_total text_tied es fs (passes _ g) (passes _ h)
    (λ q. sym (at_is_find text_cmp q es) ∙ is q ∙ at_is_find text_cmp q fs)

-- ---- what pairs answer after changes

sorted-change : (q : Text) (o : Option Value) (pairs : Pairs) → is_sorted text_cmp pairs ≡ true → is_sorted text_cmp (with_change q o pairs) ≡ true
sorted-change q (Some v) pairs h = sorted-with text_cmp text_cmp_total q (value_bytes v) pairs h
sorted-change q None pairs h =
    Sorted-to text_cmp (without text_cmp q pairs) (Sorted-without text_cmp_total by_text q pairs (Sorted-from text_cmp pairs h))

sorted-changes : (changes : List Change) (pairs : Pairs) → is_sorted text_cmp pairs ≡ true → is_sorted text_cmp (with_changes changes pairs) ≡ true
sorted-changes [] pairs h = h
sorted-changes (c ∷ cs) pairs h = sorted-changes cs (with_change (path c.0) c.1 pairs) (sorted-change (path c.0) c.1 pairs h)

at-change_same : (q : Text) (o : Option Value) (pairs : Pairs) → is_sorted text_cmp pairs ≡ true → at text_cmp q (with_change q o pairs) ≡ option_map value_bytes o
at-change_same q (Some v) pairs h = at-with_same by_text q (value_bytes v) pairs
at-change_same q None pairs h = at-without_same text_cmp_total by_text q pairs (Sorted-from text_cmp pairs h)

is_apart : (q k : Text) → is_eq (text_cmp q k) ≡ false → q ≡ k → ⊥
is_apart q k other same =
    let both : false ≡ true = sym other ∙ ap (λ x. is_eq (text_cmp x k)) same ∙ ap is_eq (text_ties k) in
    absurd (cc)

at-change_other : (k : Text) (o : Option Value) (pairs : Pairs) (q : Text) → is_eq (text_cmp q k) ≡ false → at text_cmp q (with_change k o pairs) ≡ at text_cmp q pairs
at-change_other k (Some v) pairs q other =
    at-with by_text k q (value_bytes v) pairs ∙ ap (λ b. cond b (Some (value_bytes v)) (at text_cmp q pairs)) other
at-change_other k None pairs q other = at-without_other text_cmp_total by_text k q pairs (is_apart q k other)

-- an answer that each change at its path gives, and that the pairs gave where there is none
after_changes : (answer : Option Text) (q : Text) (changes : List Change) (pairs : Pairs) → is_sorted text_cmp pairs ≡ true
    → AllByRecursion (λ (c : Change). q ≡ path c.0 → answer ≡ option_map value_bytes c.1) changes
    → (IsApart q changes → answer ≡ at text_cmp q pairs) → answer ≡ at text_cmp q (with_changes changes pairs)
after_changes answer q [] pairs sorted here elsewhere = elsewhere tt
after_changes answer q (c ∷ cs) pairs sorted here elsewhere =
    after_changes answer q cs (with_change (path c.0) c.1 pairs) (sorted-change (path c.0) c.1 pairs sorted) here.1 (go (is_eq (text_cmp q (path c.0))) refl)
  where
    go : (b : Bool) → is_eq (text_cmp q (path c.0)) ≡ b → IsApart q cs → answer ≡ at text_cmp q (with_change (path c.0) c.1 pairs)
    go true is apart =
        let same = same_key by_text q (path c.0) is in
        here.0 same ∙ sym (at-change_same (path c.0) c.1 pairs sorted) ∙ ap (λ p. at text_cmp p (with_change (path c.0) c.1 pairs)) (sym same)
    go false is apart = elsewhere (is_apart q (path c.0) is, apart) ∙ sym (at-change_other (path c.0) c.1 pairs q is)

-- ---- images

-- a pair of one image at another path is one of the other's
kept : (a b : Core) (changes : List Change) → IsKeyed b → ((l : Key) → IsApart (path l) changes → value_at a l ≡ value_at b l)
    → (q w : Text) → IsApart q changes → at text_cmp q (image a) ≡ Some w → at text_cmp q (image b) ≡ Some w
kept a b changes keyed others q w apart e =
    let found = image_from a q w e in
    let there = sym (others found.0 (subst (λ p. IsApart p changes) (sym found.3) apart)) ∙ found.2 in
    let mine = image_at b found.0 (tells b keyed found.0 (keyed.keyed found.0 found.1 there)) in
    ap (λ p. at text_cmp p (image b)) (sym found.3) ∙ mine ∙ ap (option_map value_bytes) there ∙ ap Some found.4

module _ (old new : Core) (changes : List Change) (old_keyed : IsKeyed old) (new_keyed : IsKeyed new) (is : ChangesIn old new changes) where
  elsewhere : (q : Text) → IsApart q changes → at text_cmp q (image new) ≡ at text_cmp q (image old)
  elsewhere q apart = go (at text_cmp q (image new)) (at text_cmp q (image old)) refl refl
    where
      go : (a b : Option Text) → at text_cmp q (image new) ≡ a → at text_cmp q (image old) ≡ b → a ≡ b
      go (Some w) b e f = sym (kept new old changes old_keyed is.others q w apart e) ∙ f
      go None None e f = refl
      go None (Some w) e f = sym e ∙ kept old new changes new_keyed (λ l h. sym (is.others l h)) q w apart f

  listed : (q : Text) (cs : List Change) → AllByRecursion (λ (c : Change). IsTrue (is_key c.0) × (value_at new c.0 ≡ c.1)) cs
      → AllByRecursion (λ (c : Change). q ≡ path c.0 → at text_cmp q (image new) ≡ option_map value_bytes c.1) cs
  listed q [] here = tt
  listed q (c ∷ cs) here = (
    λ same. ap (λ p. at text_cmp p (image new)) same ∙ image_at new c.0 (tells new new_keyed c.0 here.0.0) ∙ ap (option_map value_bytes) here.0.1,
    listed q cs here.1,
  )

  -- the image has the changes at their paths
  pub image_changes_in : image new ≡ with_changes changes (image old)
  image_changes_in =
      same_pairs (image new) (with_changes changes (image old)) (image_sorted new).0 (sorted-changes changes (image old) (image_sorted old).0)
      (λ q. after_changes (at text_cmp q (image new)) q changes (image old) (image_sorted old).0 (listed q changes is.here) (elsewhere q))

-- one key with its value
pub one_change : (old new : Core) (k : Key) (v : Value) → IsKeyed new → ChangesAt old new k v → ChangesIn old new ((k, Some v) ∷ [])
one_change old new k v keyed changes =
    record { here = ((keyed.keyed k v changes.here, changes.here), tt); others = λ l apart. changes.others l apart.0 }
