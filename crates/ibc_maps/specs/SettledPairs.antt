-- What a map has beside the changes that wait.
use Rattle.std.specs.Prelude.{◌≡◌, true, Option, Some, None, []}
use Rattle.std.specs.FinMap.{is_sorted}
use Rattle.std.specs.declared.cmp.Ordering.{Ordering}
use Rattle.std.specs.Arc.{arc_value}
use Rattle.std.specs.declared.alloc.Global.{Global}
use Rattle.std.specs.declared.sync.Arc.{Arc}
use Rattle.ibc_ids.specs.Maps.{Map}
use Rattle.ibc_maps.specs.Changes.{ComesToTheSame, with_changes}

-- the pairs of a row, none where there is no row
abbrev pub settled_pairs : {K V : Type 0} → Option (Arc (Map K V) Global) → Map K V
settled_pairs None = []
settled_pairs (Some row) = arc_value row

-- the changes, and what is settled, are in the order of their keys
pub record AreSettledSorted {K V : Type 0} (order : K → K → Ordering) (changes : Map K (Option V)) (settled : Map K V) : Type 0 where
  pub in_changes : is_sorted order changes ≡ true
  pub in_settled : is_sorted order settled ≡ true

-- the changes are made in what is shared
abbrev pub WritesShared : {K V : Type 0} → (K → K → Ordering) → Map K (Option V) → Arc (Map K V) Global → Arc (Map K V) Global → Type 0
WritesShared order changes before after = arc_value after ≡ with_changes order changes (arc_value before)

-- they can be made again in what is shared
abbrev pub RewritesShared : {K V : Type 0} → (K → K → Ordering) → Map K (Option V) → Arc (Map K V) Global → Arc (Map K V) Global → Type 0
RewritesShared order changes before after = ComesToTheSame order changes (arc_value before) (arc_value after)

-- the changes are made in what is settled
abbrev pub WritesSettled : {K V : Type 0}
    → (K → K → Ordering) → Map K (Option V) → Option (Arc (Map K V) Global) → Option (Arc (Map K V) Global) → Type 0
WritesSettled order changes before after = settled_pairs after ≡ with_changes order changes (settled_pairs before)

-- they can be made again in what is settled
abbrev pub RewritesSettled : {K V : Type 0}
    → (K → K → Ordering) → Map K (Option V) → Option (Arc (Map K V) Global) → Option (Arc (Map K V) Global) → Type 0
RewritesSettled order changes before after = ComesToTheSame order changes (settled_pairs before) (settled_pairs after)
