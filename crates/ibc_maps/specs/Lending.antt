-- What a map ends as, once a `&mut` into it has ended.
use Rattle.std.specs.Prelude.{Bool, Option}
use Rattle.std.specs.Borrow.{Fml, RattleType, MutBor, LendsIf}
use Rattle.std.specs.declared.cmp.Ordering.{Ordering}
use Rattle.ibc_ids.specs.Maps.{with}
use Rattle.ibc_maps.specs.SortedMapModel.{SortedMapModel}
use Rattle.ibc_maps.specs.contracts.sorted_map.SortedMap.{the_row}

-- how keys compare
abbrev pub Comparisons : Type 0 → Type 0
Comparisons K = record { partial_cmp : K → K → Option Ordering; eq : K → K → Bool; cmp : K → K → Ordering }

-- the map has the last value written through the result at the key, and is unchanged if the result is `None`
abbrev pub lends_value : (K V : RattleType) → Comparisons K.Denot → MutBor (SortedMapModel K.Denot V.Denot) → K.Denot → Option (MutBor V.Denot) → Fml
lends_value K V order map key result =
    let row = the_row K V (record { cmp = order.cmp }) (record { eq = order.eq }) (record { partial_cmp = order.partial_cmp }) in
    LendsIf row V map result (λ value. record map.now { pairs = with order.cmp key value map.now.pairs }) map.now
