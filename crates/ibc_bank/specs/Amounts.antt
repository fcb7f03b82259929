-- Maps of amounts: amounts of 0 are left out.
use Rattle.std.specs.Prelude.{ℕ, ◌-◌, ◌<◌, ◌==◌, IsTrue, List, if◌then◌else◌}
use Rattle.std.specs.FinMap.{is_sorted}
use Rattle.std.specs.List.{fold, All}
use Rattle.std.specs.Map.{values_of}
use Rattle.std.specs.Option.{unwrap_or}
use Rattle.std.specs.declared.cmp.Ordering.{Ordering}
use Rattle.ibc_ids.specs.Maps.{Map, at, with, without}

-- the amount at a key
abbrev pub amount_at : {K : Type 0} → (K → K → Ordering) → K → Map K ℕ → ℕ
amount_at order key amounts = unwrap_or (at order key amounts) 0

-- with this amount at the key
abbrev pub with_amount : {K : Type 0} → (K → K → Ordering) → K → ℕ → Map K ℕ → Map K ℕ
with_amount order key amount amounts =
    if amount == 0 then without order key amounts else with order key amount amounts

-- with each of these amounts, one after another
abbrev pub with_amounts : {K : Type 0} → (K → K → Ordering) → List (K × ℕ) → Map K ℕ → Map K ℕ
with_amounts {K} order changes amounts =
    fold (λ m (change : K × ℕ). with_amount order change.0 change.1 m) amounts changes

-- in the order of the keys, and above 0
pub record AreKept {K : Type 0} (order : K → K → Ordering) (amounts : Map K ℕ) : Type 0 where
  pub sorted : IsTrue (is_sorted order amounts)
  pub above_0 : All (λ amount. 0 < amount) (values_of amounts)

-- with so much less at the key
abbrev pub with_less : {K : Type 0} → (K → K → Ordering) → K → ℕ → Map K ℕ → Map K ℕ
with_less order key less amounts = with_amount order key (amount_at order key amounts - less) amounts
