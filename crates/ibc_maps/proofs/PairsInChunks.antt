-- Pairs in chunks, cut at a chunk, and a chunk changed.
use Rattle.std.proofs.Common.{◌≡◌, ℕ, zero, suc, ◌+◌, ◌<◌, Result, Ok, Err, IsOk, OnOk, OnErr, List, [], ◌∷◌, ◌++◌, length, get_or, set, take, drop, refl, sym, ap, ap₂, ◌∙◌, subst, arith, append_assoc}
use Rattle.std.specs.Arc.{arc_value}
use Rattle.std.specs.List.{AllByRecursion, insert, remove}
use Rattle.ibc_ids.specs.Maps.{Map}
use Rattle.ibc_maps.specs.SortedMapModel.{SortedMapModel}
use Rattle.ibc_maps.proofs.SearchedKeys.{parts_at, set_parts}
use Rattle.ibc_maps.specs.Chunks.{ChunkPairs, joined_chunks, HasPairs}

pub one_more : (n : ℕ) → n + 1 ≡ suc n
one_more n = omega arith

pub on_ok : {T E P Q : Type 0} (r : Result T E) → OnOk r P → (P → Q) → OnOk r Q
on_ok (Ok x) p f = f p
on_ok (Err e) p f = tt

pub on_err : {T E P Q : Type 0} (r : Result T E) → OnErr r P → (P → Q) → OnErr r Q
on_err (Ok x) p f = tt
on_err (Err e) p f = f p

pub if_err : {T E P : Type 0} (r : Result T E) → P → OnErr r P
if_err (Ok x) p = tt
if_err (Err e) p = p

-- what a call says where it isn't refused
pub when_ok : {T E P : Type 0} (r : Result T E) → IsOk r → OnOk r P → P
when_ok (Ok x) is p = p
when_ok (Err e) is p = absurd (cc)

-- by both ends of a call
pub either : {T E P Q X : Type 0} (r : Result T E) → OnOk r P → OnErr r Q → (P → X) → (Q → X) → X
either (Ok x) p q f h = f p
either (Err e) p q f h = h q

pub set_there : {A : Type 0} (xs : List A) (i : ℕ) (x d : A) → i < length xs → get_or (set xs i x) i d ≡ x
set_there [] i x d l = absurd (omega arith)
set_there (y ∷ ys) zero x d l = refl
set_there (y ∷ ys) (suc i) x d l = set_there ys i x d (omega arith)

set_long : {A : Type 0} (xs : List A) (i : ℕ) (x : A) → length (set xs i x) ≡ length xs
set_long [] i x = refl
set_long (y ∷ ys) zero x = refl
set_long (y ∷ ys) (suc i) x = ap suc (set_long ys i x)

no_pairs : {A : Type 0} (xs : List A) → length xs ≡ 0 → xs ≡ []
no_pairs [] l = refl
no_pairs (x ∷ xs) l = absurd (omega arith)

pub take_more : {A : Type 0} (xs : List A) (i : ℕ) (x : A) → i < length xs → x ≡ get_or xs i x → take (suc i) xs ≡ take i xs ++ x ∷ []
take_more [] i x l is = absurd (omega arith)
take_more (y ∷ ys) zero x l is = ap (λ z. z ∷ []) (sym is)
take_more (y ∷ ys) (suc i) x l is = ap (λ zs. y ∷ zs) (take_more ys i x (omega arith) is)

module _ {K V : Type 0} where
  pub joined-append : (xs ys : List (ChunkPairs K V)) → joined_chunks (xs ++ ys) ≡ joined_chunks xs ++ joined_chunks ys
  joined-append [] ys = refl
  joined-append (x ∷ xs) ys = ap (λ es. (arc_value x).pairs ++ es) (joined-append xs ys) ∙ sym (append_assoc (arc_value x).pairs (joined_chunks xs) (joined_chunks ys))

  -- the pairs before a chunk, its own, and those behind it
  pub joined-parts : (chunks : List (ChunkPairs K V)) (i : ℕ) (chunk : ChunkPairs K V) → i < length chunks → chunk ≡ get_or chunks i chunk
      → joined_chunks chunks ≡ joined_chunks (take i chunks) ++ ((arc_value chunk).pairs ++ joined_chunks (drop (suc i) chunks))
  joined-parts chunks i chunk l is = ap joined_chunks (parts_at chunks i chunk l is) ∙ joined-append (take i chunks) (chunk ∷ drop (suc i) chunks)

  pub joined-set : (chunks : List (ChunkPairs K V)) (i : ℕ) (chunk : ChunkPairs K V) → i < length chunks
      → joined_chunks (set chunks i chunk) ≡ joined_chunks (take i chunks) ++ ((arc_value chunk).pairs ++ joined_chunks (drop (suc i) chunks))
  joined-set chunks i chunk l = ap joined_chunks (set_parts chunks i chunk l) ∙ joined-append (take i chunks) (chunk ∷ drop (suc i) chunks)

  pub same_when_set : (chunks : List (ChunkPairs K V)) (i : ℕ) (chunk after : ChunkPairs K V) → i < length chunks → chunk ≡ get_or chunks i chunk
      → (arc_value after).pairs ≡ (arc_value chunk).pairs → joined_chunks (set chunks i after) ≡ joined_chunks chunks
  same_when_set chunks i chunk after l is same =
      joined-set chunks i after l
      ∙ ap (λ ps. joined_chunks (take i chunks) ++ (ps ++ joined_chunks (drop (suc i) chunks))) same
      ∙ sym (joined-parts chunks i chunk l is)

  -- a chunk without pairs is taken out
  pub joined-removed : (chunks : List (ChunkPairs K V)) (i : ℕ) (chunk : ChunkPairs K V) → i < length chunks → chunk ≡ get_or chunks i chunk → (arc_value chunk).pairs ≡ []
      → joined_chunks (remove chunks i) ≡ joined_chunks chunks
  joined-removed chunks i chunk l is none =
      joined-append (take i chunks) (drop (suc i) chunks)
      ∙ ap (λ ps. joined_chunks (take i chunks) ++ (ps ++ joined_chunks (drop (suc i) chunks))) (sym none)
      ∙ sym (joined-parts chunks i chunk l is)

  -- .. one that was set
  pub joined-emptied : (chunks : List (ChunkPairs K V)) (i : ℕ) (after : ChunkPairs K V) → i < length chunks → length (arc_value after).pairs ≡ 0
      → joined_chunks (remove (set chunks i after) i) ≡ joined_chunks (set chunks i after)
  joined-emptied chunks i after l none =
      let n = set_long chunks i after in
      joined-removed (set chunks i after) i after (omega arith) (sym (set_there chunks i after after l)) (no_pairs (arc_value after).pairs none)

  -- how many pairs the chunk at a place has, that was set there
  pub counted_there : (chunks : List (ChunkPairs K V)) (i : ℕ) (after there : ChunkPairs K V) (m : SortedMapModel K V) (n : ℕ) → i < length chunks → there ≡ get_or (set chunks i after) i there
      → m ≡ arc_value there → n ≡ length m.pairs → n ≡ length (arc_value after).pairs
  counted_there chunks i after there m n l is held counted =
      counted
      ∙ ap (λ (x : SortedMapModel K V). length x.pairs) held
      ∙ ap (λ (x : ChunkPairs K V). length (arc_value x).pairs) (is ∙ set_there chunks i after there l)

  -- a chunk in two
  pub joined-divided : (chunks : List (ChunkPairs K V)) (i : ℕ) (chunk low high : ChunkPairs K V) → i < length chunks → chunk ≡ get_or chunks i chunk
      → (arc_value low).pairs ++ (arc_value high).pairs ≡ (arc_value chunk).pairs → joined_chunks (set (insert chunks (suc i) high) i low) ≡ joined_chunks chunks
  joined-divided [] i chunk low high l is halves = absurd (omega arith)
  joined-divided (x ∷ xs) zero chunk low high l is halves =
      sym (append_assoc (arc_value low).pairs (arc_value high).pairs (joined_chunks xs))
      ∙ ap (λ ps. ps ++ joined_chunks xs) (halves ∙ ap (λ (c : ChunkPairs K V). (arc_value c).pairs) is)
  joined-divided (x ∷ xs) (suc i) chunk low high l is halves = ap (λ es. (arc_value x).pairs ++ es) (joined-divided xs i chunk low high (omega arith) is halves)

  -- ---- each chunk has some pairs

  pub has_pairs_at : (chunks : List (ChunkPairs K V)) (i : ℕ) (chunk : ChunkPairs K V) → AllByRecursion HasPairs chunks → i < length chunks → chunk ≡ get_or chunks i chunk → HasPairs chunk
  has_pairs_at [] i chunk whole l is = absurd (omega arith)
  has_pairs_at (x ∷ xs) zero chunk whole l is = subst HasPairs (sym is) whole.0
  has_pairs_at (x ∷ xs) (suc i) chunk whole l is = has_pairs_at xs i chunk whole.1 (omega arith) is

  pub whole-set : (chunks : List (ChunkPairs K V)) (i : ℕ) (chunk : ChunkPairs K V) → AllByRecursion HasPairs chunks → HasPairs chunk → AllByRecursion HasPairs (set chunks i chunk)
  whole-set [] i chunk whole h = tt
  whole-set (x ∷ xs) zero chunk whole h = (h, whole.1)
  whole-set (x ∷ xs) (suc i) chunk whole h = (whole.0, whole-set xs i chunk whole.1 h)

  -- whatever stood at the place
  pub whole-removed : (chunks : List (ChunkPairs K V)) (i : ℕ) (chunk : ChunkPairs K V) → AllByRecursion HasPairs chunks → AllByRecursion HasPairs (remove (set chunks i chunk) i)
  whole-removed [] zero chunk whole = tt
  whole-removed [] (suc i) chunk whole = tt
  whole-removed (x ∷ xs) zero chunk whole = whole.1
  whole-removed (x ∷ xs) (suc i) chunk whole = (whole.0, whole-removed xs i chunk whole.1)

  pub whole-divided : (chunks : List (ChunkPairs K V)) (i : ℕ) (low high : ChunkPairs K V) → i < length chunks → AllByRecursion HasPairs chunks → HasPairs low → HasPairs high
      → AllByRecursion HasPairs (set (insert chunks (suc i) high) i low)
  whole-divided [] i low high l whole h k = absurd (omega arith)
  whole-divided (x ∷ xs) zero low high l whole h k = (h, (k, whole.1))
  whole-divided (x ∷ xs) (suc i) low high l whole h k = (whole.0, whole-divided xs i low high (omega arith) whole.1 h k)

  pub some-take : (n : ℕ) (ps : Map K V) → 0 < n → n < length ps → 0 < length (take n ps)
  some-take zero ps some l = absurd (omega arith)
  some-take (suc n) [] some l = absurd (omega arith)
  some-take (suc n) (p ∷ ps) some l = omega arith

  pub some-drop : (n : ℕ) (ps : Map K V) → n < length ps → 0 < length (drop n ps)
  some-drop zero ps l = l
  some-drop (suc n) [] l = absurd (omega arith)
  some-drop (suc n) (p ∷ ps) l = some-drop n ps (omega arith)

  pub whole-push : (chunks : List (ChunkPairs K V)) (chunk : ChunkPairs K V) → AllByRecursion HasPairs chunks → HasPairs chunk → AllByRecursion HasPairs (chunks ++ chunk ∷ [])
  whole-push [] chunk whole h = (h, tt)
  whole-push (x ∷ xs) chunk whole h = (whole.0, whole-push xs chunk whole.1 h)

  -- ---- a copy of a row, chunk by chunk

  pub copied_more : (chunks copies after : List (ChunkPairs K V)) (i : ℕ) (chunk copy : ChunkPairs K V) → joined_chunks copies ≡ joined_chunks (take i chunks) → i < length chunks → chunk ≡ get_or chunks i chunk
      → arc_value copy ≡ arc_value chunk → after ≡ copies ++ copy ∷ [] → joined_chunks after ≡ joined_chunks (take (suc i) chunks)
  copied_more chunks copies after i chunk copy so_far l is same pushed =
      ap joined_chunks pushed
      ∙ joined-append copies (copy ∷ [])
      ∙ ap₂ (λ es (m : _). es ++ (m.pairs ++ [])) so_far same
      ∙ sym (joined-append (take i chunks) (chunk ∷ []))
      ∙ ap joined_chunks (sym (take_more chunks i chunk l is))
