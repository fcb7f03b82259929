-- Changes to the values of keys.
use Rattle.std.specs.Prelude.{◌≡◌, Option, Some, None, [], ◌∷◌}
use Rattle.std.specs.declared.cmp.Ordering.{Ordering}
use Rattle.ibc_ids.specs.Maps.{Map, with, without}

-- pairs in which a key has this value, or none
abbrev pub with_change : {K V : Type 0} → (K → K → Ordering) → K → Option V → Map K V → Map K V
with_change order key None pairs = without order key pairs
with_change order key (Some value) pairs = with order key value pairs

-- pairs after changes, one after another
abbrev pub with_changes : {K V : Type 0} → (K → K → Ordering) → Map K (Option V) → Map K V → Map K V
with_changes order [] pairs = pairs
with_changes order (change ∷ changes) pairs = with_changes order changes (with_change order change.0 change.1 pairs)

-- with the changes the pairs come to what those of before come to
abbrev pub ComesToTheSame : {K V : Type 0} → (K → K → Ordering) → Map K (Option V) → Map K V → Map K V → Type 0
ComesToTheSame order changes before after = with_changes order changes after ≡ with_changes order changes before
