-- Maps as lists of entries in the order of their keys: writing at a key that is there, mapping the values, and the
-- keys after a write.
use Rattle.std.proofs.Common.{◌≡◌, true, false, option_map, refl, sym, ap, ◌∙◌, cond, List, [], ◌∷◌, map, Option, Some, None, Ordering, Less, Equal, Greater, is_eq}
use Rattle.std.specs.Cmp.{IsTotalOrder}
use Rattle.std.specs.Ordering.{match_ordering}
use Rattle.std.specs.List.{AllByRecursion}
use Rattle.std.specs.List.Sorted.{IsStrictlySortedBy}
use Rattle.std.specs.Map.{keys_of, set_value}
use Rattle.std.specs.BTreeMap.{is_at, insert_entry}
use Rattle.std.specs.BTreeSet.{insert_key}
use Rattle.ibc_ids.specs.Maps.{at, with}

-- nothing stands at a key below all others
absent_below : {K X : Type 0} (R : K → K → Ordering) → IsTotalOrder R → (k x : K) (es : List (K × X)) → R k x ≡ Less → AllByRecursion (λ y. R x y ≡ Less) (keys_of es) → at R k es ≡ None
absent_below R total k x [] below above = refl
absent_below R total k x (e ∷ es) below above =
    ap (λ o. cond (is_eq o) (Some e.1) (at R k es)) (total.trans k x e.0 below above.0) ∙ absent_below R total k x es below above.1

-- a value written at a key that is there is inserted there
pub set_value-with : {K X : Type 0} (R : K → K → Ordering) → IsTotalOrder R → (k : K) (v w : X) (es : List (K × X)) → IsStrictlySortedBy R (keys_of es) → at R k es ≡ Some v → set_value (is_at (R k)) es w ≡ with R k w es
unfolding IsStrictlySortedBy
set_value-with R total k v w [] sorted there = absurd (cc)
set_value-with {K} {X} R total k v w (e ∷ es) sorted there =
    elim (R k e.0) as (λ o. R k e.0 ≡ o → ◌≡◌ {A = Option X} (cond (is_eq o) (Some e.1) (at R k es)) (Some v)
    → cond (is_eq o) ((e.0, w) ∷ es) (e ∷ set_value (is_at (R k)) es w) ≡ match_ordering o ((k, w) ∷ e ∷ es) ((e.0, w) ∷ es) (e ∷ insert_entry R es k w)) [
      | Equal ↦ λ is found. refl
      | Greater ↦ λ is found. ap (λ rest. e ∷ rest) (set_value-with R total k v w es sorted.1 found)
      | Less ↦ λ is found. absurd (not_there (absent_below R total k e.0 es is sorted.0) found)
    ] refl there
  where
    not_there : {o : Option X} → o ≡ None → o ≡ Some v → ⊥
    not_there none some = let e : ◌≡◌ {A = Option X} None (Some v) = sym none ∙ some in cc

-- the values of a map, each through a function
abbrev pub map_values : {K X Y : Type 0} → (X → Y) → List (K × X) → List (K × Y)
map_values {K} {X} {Y} f es = map {B = K × Y} (λ (e : K × X). (e.0, f e.1)) es

pub map_values-with : {K X Y : Type 0} (R : K → K → Ordering) (f : X → Y) (k : K) (v : X) (es : List (K × X)) → map_values f (with R k v es) ≡ with R k (f v) (map_values f es)
map_values-with R f k v [] = refl
map_values-with {K} {X} {Y} R f k v (e ∷ es) =
    elim (R k e.0) as (λ o. map_values f (match_ordering o ((k, v) ∷ e ∷ es) ((e.0, v) ∷ es) (e ∷ insert_entry R es k v))
    ≡ match_ordering o ((k, f v) ∷ (e.0, f e.1) ∷ map_values f es) ((e.0, f v) ∷ map_values f es) ((e.0, f e.1) ∷ insert_entry R (map_values f es) k (f v))) [
      | Less ↦ refl
      | Equal ↦ refl
      | Greater ↦ ap (λ (rest : List (K × Y)). (e.0, f e.1) ∷ rest) (map_values-with R f k v es)
    ]

pub at-map_values : {K X Y : Type 0} (R : K → K → Ordering) (f : X → Y) (k : K) (es : List (K × X)) → at R k (map_values f es) ≡ option_map f (at R k es)
at-map_values R f k [] = refl
at-map_values {K} {X} {Y} R f k (e ∷ es) =
    elim (is_eq (R k e.0)) as (λ b. cond b (Some (f e.1)) (at R k (map_values f es)) ≡ option_map f (cond b (Some e.1) (at R k es))) [
      | true ↦ refl
      | false ↦ at-map_values R f k es
    ]

-- the keys after a write
pub keys_of-with : {K X : Type 0} (R : K → K → Ordering) (k : K) (v : X) (es : List (K × X)) → keys_of (with R k v es) ≡ insert_key R (keys_of es) k
keys_of-with R k v [] = refl
keys_of-with {K} {X} R k v (e ∷ es) =
    elim (R k e.0) as (λ o. keys_of (match_ordering o ((k, v) ∷ e ∷ es) ((e.0, v) ∷ es) (e ∷ insert_entry R es k v))
    ≡ match_ordering o (k ∷ e.0 ∷ keys_of es) (e.0 ∷ keys_of es) (e.0 ∷ insert_key R (keys_of es) k)) [
      | Less ↦ refl
      | Equal ↦ refl
      | Greater ↦ ap (λ (rest : List K). e.0 ∷ rest) (keys_of-with R k v es)
    ]
