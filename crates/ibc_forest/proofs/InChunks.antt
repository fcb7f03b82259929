-- What stands in chunks, by its place.
use Rattle.std.proofs.Common.{◌≡◌, ℕ, zero, suc, ◌+◌, ◌-◌, ◌*◌, ◌/◌, ◌%◌, ◌<◌, ◌≤◌, List, [], ◌∷◌, ◌++◌, length, get_or, refl, sym, ap, ap₂, ◌∙◌, subst, arith, append_assoc, append-nil, length-append, Vec, Some, None, option_map, Result, Ok, Err, OnErr}
use Rattle.std.specs.Arc.{arc_value}
use Rattle.std.specs.List.{AllZip, slice_get}
use Rattle.std.specs.declared.alloc.Global.{Global}
use Rattle.std.specs.declared.sync.Arc.{Arc}
use Rattle.std.proofs.lemmas.List.{get_or_append_left, get_or-append_right, get_or-map, length-map, map_push}
use Rattle.std.proofs.lemmas.Option.{none-some, slice_get_within, slice_get_past, slice_get_read, slice_get-get_or, slice_get-map, get_or_from_slice_get}
use Rattle.std.proofs.lemmas.List.Elements.{All-head, All-tail, All-push}
use Rattle.ibc_forest.specs.declared.node.ArenaNode.{ArenaNode}
use Rattle.ibc_forest.specs.Shelves.{chunk_items, groups_items, concatenated, AreFull}

abbrev Group : Type 0
Group = Arc (Vec (Arc (Vec ArenaNode Global) Global) Global) Global

abbrev IsFull : {A : Type 0} → List A → Type 0
IsFull chunk = length chunk ≡ 128

pub length-joined : {A : Type 0} (chunks : List (List A)) → AreFull chunks → length (concatenated chunks) ≡ 128 * length chunks
length-joined [] full = omega arith
length-joined (chunk ∷ chunks) full =
    let one : length chunk ≡ 128 = All-head IsFull chunk chunks full in
    let rest = length-joined chunks (All-tail IsFull chunk chunks full) in
    let both = length-append chunk (concatenated chunks) in
    omega arith

in_chunk : {A : Type 0} (chunks : List (List A)) (q r : ℕ) (d : A) → AreFull chunks → q < length chunks → r < 128
    → get_or (concatenated chunks) (128 * q + r) d ≡ get_or (get_or chunks q []) r d
in_chunk [] q r d full l m = absurd (omega arith)
in_chunk (first ∷ chunks) zero r d full l m =
    let one : length first ≡ 128 = All-head IsFull first chunks full in
    ap (λ i. get_or (concatenated (first ∷ chunks)) i d) (let e : 128 * 0 + r ≡ r = omega arith in e) ∙ get_or_append_left first (concatenated chunks) d r (omega arith)
in_chunk (first ∷ chunks) (suc q) r d full l m =
    let one : length first ≡ 128 = All-head IsFull first chunks full in
    get_or-append_right first (concatenated chunks) 128 (128 * suc q + r) d one (omega arith)
    ∙ ap (λ i. get_or (concatenated chunks) i d) (let e : 128 * suc q + r - 128 ≡ 128 * q + r = omega arith in e)
    ∙ in_chunk chunks q r d (All-tail IsFull first chunks full) (omega arith) m

pub in_full : {A : Type 0} (chunks : List (List A)) (rest : List A) (number : ℕ) (d : A) → AreFull chunks → number / 128 < length chunks
    → get_or (concatenated chunks ++ rest) number d ≡ get_or (get_or chunks (number / 128) []) (number % 128) d
in_full chunks rest number d full l =
    let counted = length-joined chunks full in
    get_or_append_left (concatenated chunks) rest d number (omega arith)
    ∙ ap (λ i. get_or (concatenated chunks) i d) (let e : number ≡ 128 * (number / 128) + number % 128 = omega arith in e)
    ∙ in_chunk chunks (number / 128) (number % 128) d full l (omega arith)

pub in_open : {A : Type 0} (chunks : List (List A)) (rest : List A) (number : ℕ) (d : A) → AreFull chunks → length chunks ≤ number / 128
    → get_or (concatenated chunks ++ rest) number d ≡ get_or rest (number - 128 * length chunks) d
in_open chunks rest number d full l =
    let counted = length-joined chunks full in
    get_or-append_right (concatenated chunks) rest (128 * length chunks) number d counted (omega arith)

-- ---- one chunk more

joined-push : {A : Type 0} (chunks : List (List A)) (chunk : List A) → concatenated (chunks ++ chunk ∷ []) ≡ concatenated chunks ++ chunk
joined-push [] chunk = append-nil chunk ∙ refl
joined-push (first ∷ chunks) chunk = ap (λ xs. first ++ xs) (joined-push chunks chunk) ∙ sym (append_assoc first (concatenated chunks) chunk)

-- the same, where what was open is one more full chunk
pub closed_same : {A : Type 0} (chunks after : List (List A)) (rest : List A) → after ≡ chunks ++ rest ∷ [] → concatenated after ++ [] ≡ concatenated chunks ++ rest
closed_same chunks after rest is = append-nil (concatenated after) ∙ ap concatenated is ∙ joined-push chunks rest

pub closed_full : {A : Type 0} (chunks after : List (List A)) (rest : List A) → AreFull chunks → length rest ≡ 128 → after ≡ chunks ++ rest ∷ [] → AreFull after
closed_full chunks after rest full counted is = subst AreFull (sym is) (All-push IsFull chunks rest full counted)

-- one chunk more in the open group, and one group more
pub chunk_more : (before : List (List ArenaNode)) (chunks after : List (Arc (Vec ArenaNode Global) Global)) (chunk : Arc (Vec ArenaNode Global) Global) (items : List ArenaNode)
    → (arc_value chunk).items ≡ items → after ≡ chunks ++ chunk ∷ [] → before ++ chunk_items after ≡ (before ++ chunk_items chunks) ++ items ∷ []
chunk_more before chunks after chunk items its is =
    ap (λ (chunks : List (Arc (Vec ArenaNode Global) Global)). before ++ chunk_items chunks) is
    ∙ ap (λ xs. before ++ xs) (map_push (λ (chunk : Arc (Vec ArenaNode Global) Global). (arc_value chunk).items) chunks chunk)
    ∙ sym (append_assoc before (chunk_items chunks) ((arc_value chunk).items ∷ []))
    ∙ ap (λ xs. (before ++ chunk_items chunks) ++ xs ∷ []) its

pub group_more : (groups after : List Group) (group : Group) (chunks : List (Arc (Vec ArenaNode Global) Global)) → (arc_value group).items ≡ chunks → after ≡ groups ++ group ∷ []
    → groups_items after ≡ groups_items groups ++ chunk_items chunks ∷ []
group_more groups after group chunks its is =
    ap groups_items is
    ∙ map_push (λ (group : Group). chunk_items (arc_value group).items) groups group
    ∙ ap (λ (chunks : List (Arc (Vec ArenaNode Global) Global)). groups_items groups ++ chunk_items chunks ∷ []) its

pub on_err : {T E : Type 0} (r : Result T E) (P : Type 0) → P → OnErr r P
on_err (Ok x) P h = tt
on_err (Err e) P h = h

-- ---- copies

pub same_chunks : {A : Type 0} (chunks copies : List (Arc (Vec A Global) Global)) → AllZip (λ chunk copy. arc_value copy ≡ arc_value chunk) chunks copies
    → chunk_items copies ≡ chunk_items chunks
same_chunks [] [] same = refl
same_chunks [] (copy ∷ copies) same = elim same [ ]
same_chunks (chunk ∷ chunks) [] same = elim same [ ]
same_chunks {A} (chunk ∷ chunks) (copy ∷ copies) same = ap₂ ◌∷◌ (ap (λ (v : Vec A Global). v.items) same.0) (same_chunks chunks copies same.1)

pub same_groups : (groups copies : List Group) → AllZip (λ group copy. arc_value copy ≡ arc_value group) groups copies → groups_items copies ≡ groups_items groups
same_groups [] [] same = refl
same_groups [] (copy ∷ copies) same = elim same [ ]
same_groups (group ∷ groups) [] same = elim same [ ]
same_groups (group ∷ groups) (copy ∷ copies) same =
    ap₂ ◌∷◌ (ap (λ (v : Vec (Arc (Vec ArenaNode Global) Global) Global). chunk_items v.items) same.0) (same_groups groups copies same.1)

-- ---- what is read

get_none : {A : Type 0} (xs : List A) (i : ℕ) → slice_get xs i ≡ None → length xs ≤ i
get_none [] i is = omega arith
get_none (x ∷ xs) zero is = absurd (none-some x (sym is))
get_none (x ∷ xs) (suc i) is = let h = get_none xs i is in omega arith

get_rest : {A : Type 0} (xs ys : List A) (i : ℕ) → length xs ≤ i → slice_get (xs ++ ys) i ≡ slice_get ys (i - length xs)
get_rest [] ys i l = ap (slice_get ys) (let e : i ≡ i - 0 = omega arith in e)
get_rest (x ∷ xs) ys zero l = absurd (omega arith)
get_rest (x ∷ xs) ys (suc i) l = get_rest xs ys i (omega arith) ∙ ap (slice_get ys) (let e : i - length xs ≡ suc i - suc (length xs) = omega arith in e)

-- a node of a full chunk, and one of the open one
pub in_full_chunk : {A : Type 0} (chunks : List (List A)) (rest chunk : List A) (number : ℕ) → AreFull chunks → slice_get chunks (number / 128) ≡ Some chunk
    → (number % 128 < length chunk) × ((d : A) → get_or chunk (number % 128) d ≡ get_or (concatenated chunks ++ rest) number d)
in_full_chunk {A} chunks rest chunk number full is =
    let none : List A = [] in
    let l = slice_get_within chunks (number / 128) chunk is in
    let its : get_or chunks (number / 128) none ≡ chunk = get_or_from_slice_get chunks (number / 128) chunk none is in
    let counted : length chunk ≡ 128 = ap length (sym its) ∙ full (number / 128) none l in
    (omega arith, λ d. ap (λ xs. get_or xs (number % 128) d) (sym its) ∙ sym (in_full chunks rest number d full l))

pub in_open_chunk : {A : Type 0} (chunks : List (List A)) (rest : List A) (number : ℕ) → AreFull chunks → length rest ≤ 128 → slice_get chunks (number / 128) ≡ None
    → number < length (concatenated chunks ++ rest) → (number % 128 < length rest) × ((d : A) → get_or rest (number % 128) d ≡ get_or (concatenated chunks ++ rest) number d)
in_open_chunk {A} chunks rest number full most is there =
    let l = get_none chunks (number / 128) is in
    let counted = length-joined chunks full in
    let both = length-append (concatenated chunks) rest in
    let place : number - 128 * length chunks ≡ number % 128 = omega arith in
    (omega arith, λ d. ap (λ i. get_or rest i d) (sym place) ∙ sym (in_open chunks rest number d full l))

-- a chunk of a full group, and one of the open one
its_group : (groups : List Group) (i : ℕ) (group : Group) → i < length groups → group ≡ get_or groups i group → get_or (groups_items groups) i [] ≡ chunk_items (arc_value group).items
its_group groups i group l is =
    let its = λ (g : Group). chunk_items (arc_value g).items in
    get_or-map its groups i group [] l ∙ ap its (sym is)

pub whole_group : (groups : List Group) (i : ℕ) (group : Group) → AreFull (groups_items groups) → i < length groups → group ≡ get_or groups i group → length (arc_value group).items ≡ 128
whole_group groups i group full l is =
    let counted : length (groups_items groups) ≡ length groups = length-map groups (λ (g : Group). chunk_items (arc_value g).items) in
    sym (length-map (arc_value group).items (λ (chunk : Arc (Vec ArenaNode Global) Global). (arc_value chunk).items))
    ∙ ap length (sym (its_group groups i group l is))
    ∙ full i [] (omega arith)

pub in_full_group : (groups : List Group) (rest : List (List ArenaNode)) (index : ℕ) (group : Group) (chunk : Arc (Vec ArenaNode Global) Global) → AreFull (groups_items groups)
    → index / 128 < length groups → group ≡ get_or groups (index / 128) group → chunk ≡ get_or (arc_value group).items (index % 128) chunk
    → Some (arc_value chunk).items ≡ slice_get (concatenated (groups_items groups) ++ rest) index
in_full_group groups rest index group chunk full l is there =
    let none : List ArenaNode = [] in
    let items = λ (chunk : Arc (Vec ArenaNode Global) Global). (arc_value chunk).items in
    let counted : length (groups_items groups) ≡ length groups = length-map groups (λ (g : Group). chunk_items (arc_value g).items) in
    let all = length-joined (groups_items groups) full in
    let both = length-append (concatenated (groups_items groups)) rest in
    let whole = whole_group groups (index / 128) group full l is in
    let at : get_or (concatenated (groups_items groups) ++ rest) index none ≡ (arc_value chunk).items =
    in_full (groups_items groups) rest index none full (omega arith)
    ∙ ap (λ xs. get_or xs (index % 128) none) (its_group groups (index / 128) group l is)
    ∙ get_or-map items (arc_value group).items (index % 128) chunk none (omega arith)
    ∙ ap items (sym there)
    in
    ap Some (sym at) ∙ sym (slice_get-get_or (concatenated (groups_items groups) ++ rest) index none (omega arith))

in_open_group : (groups : List Group) (rest : List (Arc (Vec ArenaNode Global) Global)) (index : ℕ) → AreFull (groups_items groups) → length groups ≤ index / 128
    → option_map (λ (chunk : Arc (Vec ArenaNode Global) Global). (arc_value chunk).items) (slice_get rest (index - 128 * length groups)) ≡ slice_get (concatenated (groups_items groups) ++ chunk_items rest) index
in_open_group groups rest index full l =
    let items = λ (chunk : Arc (Vec ArenaNode Global) Global). (arc_value chunk).items in
    let counted : length (groups_items groups) ≡ length groups = length-map groups (λ (g : Group). chunk_items (arc_value g).items) in
    let all = length-joined (groups_items groups) full in
    sym (
    get_rest (concatenated (groups_items groups)) (chunk_items rest) index (omega arith)
    ∙ ap (slice_get (chunk_items rest)) (let e : index - length (concatenated (groups_items groups)) ≡ index - 128 * length groups = omega arith in e)
    ∙ slice_get-map items rest (index - 128 * length groups)
    )

pub open_chunk : (groups : List Group) (rest : List (Arc (Vec ArenaNode Global) Global)) (index : ℕ) (chunk : Arc (Vec ArenaNode Global) Global) → AreFull (groups_items groups)
    → length groups ≤ index / 128 → index - 128 * length groups < length rest → chunk ≡ get_or rest (index - 128 * length groups) chunk
    → Some (arc_value chunk).items ≡ slice_get (concatenated (groups_items groups) ++ chunk_items rest) index
open_chunk groups rest index chunk full l there is =
    let items = λ (chunk : Arc (Vec ArenaNode Global) Global). (arc_value chunk).items in
    sym (ap (option_map items) (slice_get_read rest (length rest) (index - 128 * length groups) chunk refl there is)) ∙ in_open_group groups rest index full l

pub no_chunk : (groups : List Group) (rest : List (Arc (Vec ArenaNode Global) Global)) (index : ℕ) → AreFull (groups_items groups) → length groups ≤ index / 128
    → length rest ≤ index - 128 * length groups → None ≡ slice_get (concatenated (groups_items groups) ++ chunk_items rest) index
no_chunk groups rest index full l past =
    let items = λ (chunk : Arc (Vec ArenaNode Global) Global). (arc_value chunk).items in
    sym (ap (option_map items) (slice_get_past rest (index - 128 * length groups) past)) ∙ in_open_group groups rest index full l
