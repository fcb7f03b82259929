-- What a sorted map holds.
use Rattle.std.specs.Prelude.{ℕ, refl}
use Rattle.std.specs.Coded.{Coded, code_by, coded×, coded_list, coded_ℕ}
use Rattle.ibc_ids.specs.Maps.{Map}

-- the pairs in the order of their keys, and how many more fit without a growth
pub record SortedMapModel (K V : Type 0) : Type 0 where
  pub pairs : Map K V
  pub room : ℕ

abbrev pub sorted_map_code : {K V : Type 0} → Coded K → Coded V → Coded (SortedMapModel K V)
sorted_map_code {K} {V} key value =
    code_by (Map K V × ℕ) (coded× (coded_list (coded× key value)) coded_ℕ) (λ m. (m.pairs, m.room)) (λ p. record { pairs = p.0; room = p.1 }) (λ _. refl)
