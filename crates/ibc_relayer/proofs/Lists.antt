-- Lists that are filtered and mapped, and the entries of sorted maps.
use Rattle.std.proofs.Common.{◌≡◌, ℕ, zero, suc, ◌+◌, ◌<◌, append_assoc, length, take, get_or, sym, arith, ◌++◌, Bool, true, false, cond, List, [], ◌∷◌, map, filter, refl, ap, ◌∙◌, Option, Some, None, option_and_then, is_eq, Ordering, Greater}
use Rattle.std.specs.Prelude.{IsTrue}
use Rattle.std.specs.List.{AllByRecursion, filter_map, cons_option}
use Rattle.std.specs.FinMap.{is_sorted}
use Rattle.std.specs.FinMap.Entries.{below_all}
use Rattle.std.specs.Ordering.{nat_cmp, is_lt, ordering_reverse}
use Rattle.std.proofs.lemmas.Bool.{and_parts}
use Rattle.std.proofs.lemmas.Cmp.{nat_cmp_total}
use Rattle.ibc_ids.specs.Maps.{Map, at}
use Rattle.ibc_ids.proofs.Texts.{lt_is_less}
use Rattle.ibc_machine.proofs.FiniteMaps.{by_number}

-- one after another
pub filter_map_on : {X Y Z : Type 0} (k : X → Option Y) (g : Y → Option Z) (item : X → Option Z) (xs : List X)
    → AllByRecursion (λ x. option_and_then g (k x) ≡ item x) xs → filter_map g (filter_map k xs) ≡ filter_map item xs
filter_map_on k g item [] all = refl
filter_map_on {X} {Y} {Z} k g item (x ∷ xs) all =
    let rest = filter_map_on k g item xs all.1 in
    elim (k x) as (λ o. option_and_then g o ≡ item x → filter_map g (cons_option o (filter_map k xs)) ≡ cons_option (item x) (filter_map item xs)) [
      | None ↦ λ e. rest ∙ ap (λ (o : Option Z). cons_option o (filter_map item xs)) e
      | Some y ↦ λ e. λ i. cons_option (e i) (rest i)
    ] all.0

-- what passes, as what is kept
abbrev pub kept_if : {Y : Type 0} → Bool → Y → Option Y
kept_if true y = Some y
kept_if false y = None

pub map_filter : {X Y : Type 0} (p : X → Bool) (h : X → Y) (xs : List X) → map h (filter p xs) ≡ filter_map (λ x. kept_if (p x) (h x)) xs
map_filter p h [] = refl
map_filter {X} {Y} p h (x ∷ xs) =
    elim (p x) as (λ b. map h (cond b (x ∷ filter p xs) (filter p xs)) ≡ cons_option (kept_if b (h x)) (filter_map (λ x. kept_if (p x) (h x)) xs)) [
      | true ↦ ap (λ (rest : List Y). h x ∷ rest) (map_filter p h xs)
      | false ↦ map_filter p h xs
    ]

-- what holds of all that may be given holds of all that is given
pub all_filter_map : {X Y : Type 0} (P : Y → Type 0) (k : X → Option Y) (xs : List X) → AllByRecursion (λ x. (y : Y) → k x ≡ Some y → P y) xs → AllByRecursion P (filter_map k xs)
all_filter_map P k [] all = tt
all_filter_map {X} {Y} P k (x ∷ xs) all =
    elim (k x) as (λ o. ((y : Y) → o ≡ Some y → P y) → AllByRecursion P (cons_option o (filter_map k xs))) [
      | None ↦ λ h. all_filter_map P k xs all.1
      | Some y ↦ λ h. (h y refl, all_filter_map P k xs all.1)
    ] all.0

pub all_append : {X : Type 0} (P : X → Type 0) (xs ys : List X) → AllByRecursion P xs → AllByRecursion P ys → AllByRecursion P (xs ++ ys)
all_append P [] ys a b = b
all_append P (x ∷ xs) ys a b = (a.0, all_append P xs ys a.1 b)

-- ---- entries of a sorted map

below_apart : (n m : ℕ) → is_lt (nat_cmp n m) ≡ true → is_eq (nat_cmp m n) ≡ false
below_apart n m below =
    let e : nat_cmp m n ≡ Greater = nat_cmp_total.antisymm m n ∙ ap ordering_reverse (lt_is_less (nat_cmp n m) below) in
    ap is_eq e

above_first : {V : Type 0} (e : ℕ × V) (fs all : Map ℕ V) → below_all nat_cmp e.0 fs ≡ true → AllByRecursion (λ f. at nat_cmp f.0 all ≡ Some f.1) fs
    → AllByRecursion (λ f. at nat_cmp f.0 (e ∷ all) ≡ Some f.1) fs
above_first e [] all below each = tt
above_first {V} e (f ∷ fs) all below each =
    let parts = and_parts (is_lt (nat_cmp e.0 f.0)) (below_all nat_cmp e.0 fs) below in
    (ap (λ (b : Bool). cond b (Some e.1) (at nat_cmp f.0 all)) (below_apart e.0 f.0 parts.0) ∙ each.0, above_first e fs all parts.1 each.1)

pub each_at : {V : Type 0} (es : Map ℕ V) → IsTrue (is_sorted nat_cmp es) → AllByRecursion (λ e. at nat_cmp e.0 es ≡ Some e.1) es
each_at [] sorted = tt
each_at {V} (e ∷ es) sorted =
    let parts = and_parts (below_all nat_cmp e.0 es) (is_sorted nat_cmp es) sorted in
    (ap (λ (o : Ordering). cond (is_eq o) (Some e.1) (at nat_cmp e.0 es)) (by_number.self e.0), above_first e es es parts.0 (each_at es parts.1))

-- ---- one element more

added_behind : {Y : Type 0} (o : Option Y) (xs ys : List Y) → cons_option o (xs ++ ys) ≡ cons_option o xs ++ ys
added_behind None xs ys = refl
added_behind (Some y) xs ys = refl

pub one_more : {X Y : Type 0} (item : X → Option Y) (xs : List X) (i : ℕ) (x : X) → i < length xs → x ≡ get_or xs i x
    → filter_map item (take (suc i) xs) ≡ filter_map item (take i xs) ++ cons_option (item x) []
one_more item [] i x inside here = absurd (omega (arith, inside))
one_more item (y ∷ ys) zero x inside here = ap (λ z. cons_option (item z) []) (sym here)
one_more {X} {Y} item (y ∷ ys) (suc i) x inside here =
    ap (λ (rest : List Y). cons_option (item y) rest) (one_more item ys i x (omega (arith, inside)) here)
    ∙ added_behind (item y) (filter_map item (take i ys)) (cons_option (item x) [])

-- what is made for the element at a place is added
pub added_one : {X Y : Type 0} (old now new : List Y) (item : X → Option Y) (xs : List X) (i : ℕ) (x : X) (made : Option Y) → i < length xs → x ≡ get_or xs i x
    → now ≡ old ++ filter_map item (take i xs) → made ≡ item x → new ≡ now ++ cons_option made [] → new ≡ old ++ filter_map item (take (i + 1) xs)
added_one {X} {Y} old now new item xs i x made inside here so_far is added =
    added
    ∙ (λ j. so_far j ++ cons_option (is j) [])
    ∙ append_assoc old (filter_map item (take i xs)) (cons_option (item x) [])
    ∙ ap (λ (rest : List Y). old ++ rest) (sym (one_more item xs i x inside here))
    ∙ (let e : suc i ≡ i + 1 = omega arith in ap (λ n. old ++ filter_map item (take n xs)) e)
