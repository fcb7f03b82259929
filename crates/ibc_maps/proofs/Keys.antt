-- The keys of sorted pairs, as a set of keys.
use Rattle.std.proofs.Common.{◌≡◌, true, false, [], ◌∷◌, refl, ap, List, Ordering, Less, Equal, Greater, Some, cond, is_eq, ◌||◌}
use Rattle.std.specs.Prelude.{map, is_some}
use Rattle.std.specs.List.{list_any}
use Rattle.std.specs.BTreeSet.{insert_key}
use Rattle.std.specs.Ordering.{match_ordering}
use Rattle.ibc_ids.specs.Maps.{Map, at, with}

module _ {K V : Type 0} (order : K → K → Ordering) where
  abbrev pub keys : Map K V → List K
  keys es = map (λ (e : K × V). e.0) es

  -- a key that is set is added to the keys
  pub keys-with : (key : K) (value : V) (es : Map K V) → keys (with order key value es) ≡ insert_key order (keys es) key
  keys-with key value [] = refl
  keys-with key value (e ∷ es) =
      elim (order key e.0) as (λ o.
      keys (match_ordering o ((key, value) ∷ e ∷ es) ((e.0, value) ∷ es) (e ∷ with order key value es))
      ≡ match_ordering o (key ∷ e.0 ∷ keys es) (e.0 ∷ keys es) (e.0 ∷ insert_key order (keys es) key)) [
        | Less ↦ refl
        | Equal ↦ refl
        | Greater ↦ ap (λ ks. e.0 ∷ ks) (keys-with key value es)
      ]

  -- a key has a value where it is one of the keys
  pub keys-at : (key : K) (es : Map K V) → is_some (at order key es) ≡ list_any (λ k. is_eq (order key k)) (keys es)
  keys-at key [] = refl
  keys-at key (e ∷ es) =
      elim (is_eq (order key e.0)) as (λ b. is_some (cond b (Some e.1) (at order key es)) ≡ (b || list_any (λ k. is_eq (order key k)) (keys es))) [
        | true ↦ refl
        | false ↦ keys-at key es
      ]
