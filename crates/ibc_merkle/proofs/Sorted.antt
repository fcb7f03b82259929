-- Pairs in the order of their keys, cut at a key: what is found there, and the neighbours.
use Rattle.std.proofs.Common.{◌≡◌, Bool, true, false, cond, List, [], ◌∷◌, ◌++◌, refl, ap, ◌∙◌, Less, Equal, Greater, is_lt, is_eq, Option, Some, None, inl, inr, ◌⊎◌}
use Rattle.std.specs.Prelude.{⊤, filter, find}
use Rattle.std.specs.List.{AllByRecursion, last_or}
use Rattle.std.specs.FinMap.{is_sorted}
use Rattle.std.specs.FinMap.Entries.{below_all}
use Rattle.std.specs.Ordering.{ordering_reverse}
use Rattle.std.proofs.lemmas.Bool.{and_parts}
use Rattle.ibc_ids.specs.Texts.{Text, text_cmp}
use Rattle.ibc_ids.specs.Maps.{at}
use Rattle.ibc_ids.proofs.Texts.{text_cmp_total, text_ties, lt_is_less}
use Rattle.ibc_merkle.specs.Tree.{Pairs}
use Rattle.ibc_merkle.specs.Proofs.{is_below}
use Rattle.ibc_merkle.specs.Written.{last_below, first_above}

-- every key is below this one, or above it
abbrev pub AllBelow : Text → Pairs → Type 0
AllBelow key pairs = AllByRecursion (λ (e : Text × Text). text_cmp e.0 key ≡ Less) pairs

abbrev pub AllAbove : Text → Pairs → Type 0
AllAbove key pairs = AllByRecursion (λ (e : Text × Text). text_cmp key e.0 ≡ Less) pairs

abbrev pub AreRising : Pairs → Type 0
AreRising [] = ⊤
AreRising (e ∷ es) = AllAbove e.0 es × AreRising es

above_from_below_all : (key : Text) (es : Pairs) → below_all text_cmp key es ≡ true → AllAbove key es
above_from_below_all key [] h = tt
above_from_below_all key (e ∷ es) h =
    let parts = and_parts (is_lt (text_cmp key e.0)) (below_all text_cmp key es) h in
    (lt_is_less _ parts.0, above_from_below_all key es parts.1)

pub rising_from_sorted : (es : Pairs) → is_sorted text_cmp es ≡ true → AreRising es
rising_from_sorted [] h = tt
rising_from_sorted (e ∷ es) h =
    let parts = and_parts (below_all text_cmp e.0 es) (is_sorted text_cmp es) h in
    (above_from_below_all e.0 es parts.0, rising_from_sorted es parts.1)

pub above-left : (key : Text) (xs ys : Pairs) → AllAbove key (xs ++ ys) → AllAbove key xs
above-left key [] ys h = tt
above-left key (x ∷ xs) ys h = (h.0, above-left key xs ys h.1)

pub above-right : (key : Text) (xs ys : Pairs) → AllAbove key (xs ++ ys) → AllAbove key ys
above-right key [] ys h = h
above-right key (x ∷ xs) ys h = above-right key xs ys h.1

pub rising-right : (xs ys : Pairs) → AreRising (xs ++ ys) → AreRising ys
rising-right [] ys h = h
rising-right (x ∷ xs) ys h = rising-right xs ys h.1

pub rising-left : (xs ys : Pairs) → AreRising (xs ++ ys) → AreRising xs
rising-left [] ys h = tt
rising-left (x ∷ xs) ys h = (above-left x.0 xs ys h.0, rising-left xs ys h.1)

-- what stands before a pair is below it, and what stands behind it above
pub before_is_below : (xs : Pairs) (y : Text × Text) (ys : Pairs) → AreRising (xs ++ y ∷ ys) → AllBelow y.0 xs
before_is_below [] y ys h = tt
before_is_below (x ∷ xs) y ys h = ((above-right x.0 xs (y ∷ ys) h.0).0, before_is_below xs y ys h.1)

pub behind_is_above : (xs : Pairs) (y : Text × Text) (ys : Pairs) → AreRising (xs ++ y ∷ ys) → AllAbove y.0 ys
behind_is_above xs y ys h = (rising-right xs (y ∷ ys) h).0

pub below_further : (low high : Text) (es : Pairs) → text_cmp low high ≡ Less → AllBelow low es → AllBelow high es
below_further low high [] l h = tt
below_further low high (e ∷ es) l h = (text_cmp_total.trans e.0 low high h.0 l, below_further low high es l h.1)

pub above_further : (low high : Text) (es : Pairs) → text_cmp low high ≡ Less → AllAbove high es → AllAbove low es
above_further low high [] l h = tt
above_further low high (e ∷ es) l h = (text_cmp_total.trans low high e.0 l h.0, above_further low high es l h.1)

pub below-append : (key : Text) (xs ys : Pairs) → AllBelow key xs → AllBelow key ys → AllBelow key (xs ++ ys)
below-append key [] ys f g = g
below-append key (x ∷ xs) ys f g = (f.0, below-append key xs ys f.1 g)

-- ---- the way round

pub greater_from : (x y : Text) → text_cmp x y ≡ Less → text_cmp y x ≡ Greater
greater_from x y l = text_cmp_total.antisymm y x ∙ ap ordering_reverse l

pub less_from : (x y : Text) → text_cmp x y ≡ Greater → text_cmp y x ≡ Less
less_from x y l = text_cmp_total.antisymm y x ∙ ap ordering_reverse l

-- ---- what is at a key

pub at-none : (key : Text) (es : Pairs) → AllAbove key es → at text_cmp key es ≡ None
at-none key [] h = refl
at-none key (e ∷ es) h = ap (λ o. cond (is_eq o) (Some e.1) (at text_cmp key es)) h.0 ∙ at-none key es h.1

pub at-behind : (key : Text) (xs ys : Pairs) → AllBelow key xs → at text_cmp key (xs ++ ys) ≡ at text_cmp key ys
at-behind key [] ys h = refl
at-behind key (x ∷ xs) ys h = ap (λ o. cond (is_eq o) (Some x.1) (at text_cmp key (xs ++ ys))) (greater_from x.0 key h.0) ∙ at-behind key xs ys h.1

pub at-here : (x : Text × Text) (ys : Pairs) → at text_cmp x.0 (x ∷ ys) ≡ Some x.1
at-here x ys = ap (λ o. cond (is_eq o) (Some x.1) (at text_cmp x.0 ys)) (text_ties x.0)

-- ---- a cut at a key that isn't there

pub record IsCut (pairs : Pairs) (key : Text) (low high : Pairs) : Type 0 where
  pub parts : pairs ≡ low ++ high
  pub below : AllBelow key low
  pub above : AllAbove key high

some_is_none : {A : Type 0} (x : A) {B : Type 0} → ◌≡◌ {A = Option A} (Some x) None → B
some_is_none x e = absurd (cc)

pub cut_at : (pairs : Pairs) (key : Text) → AreRising pairs → at text_cmp key pairs ≡ None → (low high : Pairs) × IsCut pairs key low high
cut_at [] key rising none = ([], [], record { parts = refl; below = tt; above = tt })
cut_at (e ∷ es) key rising none =
    elim (text_cmp key e.0) as (λ o. text_cmp key e.0 ≡ o → cond (is_eq o) (Some e.1) (at text_cmp key es) ≡ None → (low high : Pairs) × IsCut (e ∷ es) key low high) [
      | Less ↦ λ o none. ([], e ∷ es, record { parts = refl; below = tt; above = (o, above_further key e.0 es o rising.0) })
      | Equal ↦ λ o none. some_is_none e.1 none
      | Greater ↦ λ o none.
          let rest = cut_at es key rising.1 none in
          (e ∷ rest.0, rest.1, record { parts = ap (λ xs. e ∷ xs) rest.2.parts; below = (less_from key e.0 o, rest.2.below); above = rest.2.above })
    ] refl none

pub cut-none : (pairs low high : Pairs) (key : Text) → IsCut pairs key low high → at text_cmp key pairs ≡ None
cut-none pairs low high key cut = ap (at text_cmp key) cut.parts ∙ at-behind key low high cut.below ∙ at-none key high cut.above

-- ---- the neighbours

filter-low : (key : Text) (low : Pairs) → AllBelow key low → filter (λ (e : Text × Text). is_below e.0 key) low ≡ low
filter-low key [] h = refl
filter-low key (e ∷ es) h =
    ap (λ o. cond (is_lt o) (e ∷ filter (λ (e : Text × Text). is_below e.0 key) es) (filter (λ (e : Text × Text). is_below e.0 key) es)) h.0 ∙ ap (λ xs. e ∷ xs) (filter-low key es h.1)

filter-high : (key : Text) (high : Pairs) → AllAbove key high → filter (λ (e : Text × Text). is_below e.0 key) high ≡ []
filter-high key [] h = refl
filter-high key (e ∷ es) h =
    ap (λ o. cond (is_lt o) (e ∷ filter (λ (e : Text × Text). is_below e.0 key) es) (filter (λ (e : Text × Text). is_below e.0 key) es)) (greater_from key e.0 h.0) ∙ filter-high key es h.1

filter-both : {A : Type 0} (test : A → Bool) (xs ys : List A) → filter test (xs ++ ys) ≡ filter test xs ++ filter test ys
filter-both test [] ys = refl
filter-both test (x ∷ xs) ys = elim (test x) as (λ b. cond b (x ∷ filter test (xs ++ ys)) (filter test (xs ++ ys)) ≡ cond b (x ∷ filter test xs) (filter test xs) ++ filter test ys) [ true ↦ ap (λ zs. x ∷ zs) (filter-both test xs ys) | false ↦ filter-both test xs ys ]

append-nothing : {A : Type 0} (xs ys : List A) → ys ≡ [] → xs ++ ys ≡ xs
append-nothing [] ys e = e
append-nothing (x ∷ xs) ys e = ap (λ zs. x ∷ zs) (append-nothing xs ys e)

pub last_below_is : (pairs low high : Pairs) (key : Text) → IsCut pairs key low high → last_below pairs key ≡ last_or None low
last_below_is pairs low high key cut =
    let test = λ (e : Text × Text). is_below e.0 key in
    let kept : filter test pairs ≡ low =
    ap (filter test) cut.parts ∙ filter-both test low high ∙ append-nothing (filter test low) (filter test high) (filter-high key high cut.above) ∙ filter-low key low cut.below
    in
    ap (last_or None) kept

abbrev pub first_of_all : Pairs → Option (Text × Text)
first_of_all [] = None
first_of_all (x ∷ xs) = Some x

find-high : (key : Text) (high : Pairs) → AllAbove key high → find (λ (e : Text × Text). is_below key e.0) high ≡ first_of_all high
find-high key [] h = refl
find-high key (e ∷ es) h = ap (λ o. cond (is_lt o) (Some e) (find (λ (e : Text × Text). is_below key e.0) es)) h.0

find-low : (key : Text) (low high : Pairs) → AllBelow key low → find (λ (e : Text × Text). is_below key e.0) (low ++ high) ≡ find (λ (e : Text × Text). is_below key e.0) high
find-low key [] high h = refl
find-low key (e ∷ es) high h = ap (λ o. cond (is_lt o) (Some e) (find (λ (e : Text × Text). is_below key e.0) (es ++ high))) (greater_from e.0 key h.0) ∙ find-low key es high h.1

pub first_above_is : (pairs low high : Pairs) (key : Text) → IsCut pairs key low high → first_above pairs key ≡ first_of_all high
first_above_is pairs low high key cut =
    ap (find (λ (e : Text × Text). is_below key e.0)) cut.parts ∙ find-low key low high cut.below ∙ find-high key high cut.above

-- ---- the last of a list

pub last-push : {A : Type 0} (o : Option A) (xs : List A) (x : A) → last_or o (xs ++ x ∷ []) ≡ Some x
last-push o [] x = refl
last-push o (y ∷ xs) x = last-push (Some y) xs x

-- a list is empty or has a last
pub last_of : {A : Type 0} (xs : List A) → (xs ≡ []) ⊎ ((ys : List A) × (y : A) × (xs ≡ ys ++ y ∷ []))
last_of [] = inl refl
last_of (x ∷ xs) = elim (last_of xs) [
  | inl e ↦ inr ([], x, ap (λ zs. x ∷ zs) e)
  | inr w ↦ inr (x ∷ w.0, w.1, ap (λ zs. x ∷ zs) w.2)
]
