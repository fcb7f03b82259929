-- What is known of pairs that have the keys of a row of leaves: only values are new.
use Rattle.std.specs.Prelude.{◌≡◌, ℕ, ◌+◌, ◌≤◌, List, length, drop, slice_index_or, Result, IfOk, OnOk, Vec}
use Rattle.std.specs.declared.alloc.Global.{Global}
use Rattle.ibc_merkle.specs.Tree.{Pairs}
use Rattle.ibc_forest.specs.Codes.{ArenaModel}
use Rattle.ibc_forest.specs.Leaves.{count_new, differ_count, differing_count, keys, row_pairs}

-- the leaf is that of the row at the place, but for a new pair
abbrev pub DiffersIfNew : {E : Type 0} → ArenaModel → List ℕ → Pairs → ℕ → Result ℕ E → Type 0
DiffersIfNew before old pairs index result =
    let last = row_pairs before.trees old in
    keys pairs ≡ keys last → IfOk result (λ leaf. differ_count leaf (slice_index_or old index 0) ≤ count_new last pairs)

-- the row differs at as many places as pairs are new, at most
abbrev pub DiffersWhereNew : {E : Type 0} → ArenaModel → List ℕ → Pairs → Result (Vec ℕ Global) E → Type 0
DiffersWhereNew before old pairs result =
    keys pairs ≡ keys (row_pairs before.trees old) → IfOk result (λ row. differing_count row.items old ≤ count_new (row_pairs before.trees old) pairs)

-- of the leaves that were added up to a place as many are others as pairs are new, at most
abbrev pub AddsOthersWhereNew : {A E : Type 0} → ArenaModel → List ℕ → Pairs → Vec ℕ Global → Vec ℕ Global → ℕ → Result A E → Type 0
AddsOthersWhereNew before old pairs row row' end result =
    let last = row_pairs before.trees old in
    keys pairs ≡ keys last
    → IfOk result (λ _. differing_count row'.items old + count_new last (drop end pairs)
    ≤ differing_count row.items old + count_new last (drop (length row.items) pairs))

-- between two places as many other leaves came as pairs are new, at most
abbrev pub ReplacesNewFrom : {A B E : Type 0} → ArenaModel → List ℕ → Pairs → ℕ → ℕ → Vec A Global → Vec A Global → Result B E → Type 0
ReplacesNewFrom before old pairs from end others others' result =
    let last = row_pairs before.trees old in
    keys pairs ≡ keys last → OnOk result (length others'.items + count_new last (drop end pairs) ≤ length others.items + count_new last (drop from pairs))

-- as many other leaves came as pairs are new, at most
abbrev pub ReplacesNew : {A E : Type 0} → ArenaModel → List ℕ → Pairs → Result (Vec A Global) E → Type 0
ReplacesNew before old pairs result =
    keys pairs ≡ keys (row_pairs before.trees old) → IfOk result (λ others. length others.items ≤ count_new (row_pairs before.trees old) pairs)
