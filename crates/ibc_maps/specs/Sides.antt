-- Pairs whose keys all stand on one side of a key.
use Rattle.std.specs.Prelude.{◌≡◌}
use Rattle.std.specs.List.{AllByRecursion}
use Rattle.std.specs.declared.cmp.Ordering.{Ordering}
use Rattle.std.specs.declared.cmp.Ordering.TheVariants.{Less}
use Rattle.ibc_ids.specs.Maps.{Map}

-- every key is below this one
abbrev pub AllBelow : {K V : Type 0} → (K → K → Ordering) → K → Map K V → Type 0
AllBelow {K} {V} order key pairs = AllByRecursion (λ (e : K × V). order e.0 key ≡ Less) pairs

-- every key is above this one
abbrev pub AllAbove : {K V : Type 0} → (K → K → Ordering) → K → Map K V → Type 0
AllAbove {K} {V} order key pairs = AllByRecursion (λ (e : K × V). order key e.0 ≡ Less) pairs
