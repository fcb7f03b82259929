-- Holdings in the order of their denominations, and those of one denomination in the order of their users.
use Rattle.std.specs.Prelude.{◌≡◌, ℕ, ◌<◌, ◌≤◌, ◌-◌, ◌^◌, Bool, true, false, List, take, slice_index_or, count_by, map}
use Rattle.std.specs.List.{list_all}
use Rattle.std.specs.Ordering.{ordering_then}
use Rattle.std.specs.List.Sorted.{IsPermutation, IsSorted}
use Rattle.std.specs.declared.cmp.Ordering.{Ordering}
use Rattle.ibc_ids.specs.Texts.{text_cmp}
use Rattle.ibc_ids.specs.Names.{is_user, is_base_denom}
use Rattle.ibc_machine.specs.chain.Genesis.{Holding, is_same_holding, is_fair, total_of}
use Rattle.ibc_ledger.specs.declared.sorted_holdings.DenomHolding.{DenomHolding}

-- the holding that stands by its denomination
abbrev pub shown : DenomHolding → Holding
shown entry = (entry.user.now, entry.denom.now, entry.amount)

-- the holdings of a row
abbrev pub all_shown : List DenomHolding → List Holding
all_shown row = map shown row

-- whether all denominations are base ones
abbrev pub are_base : List Holding → Bool
are_base holdings = list_all (λ holding. is_base_denom holding.1) holdings

-- whether each of the holdings is fair among them
abbrev pub are_all_fair : List Holding → Bool
are_all_fair holdings = list_all (is_fair holdings) holdings

-- the order by denomination, and then by user
abbrev pub holding_cmp : Holding → Holding → Ordering
holding_cmp a b = ordering_then (text_cmp a.1 b.1) (text_cmp a.0 b.0)

abbrev pub AreSorted : List Holding → Type 0
AreSorted holdings = IsSorted holding_cmp holdings

-- the same holdings, sorted
pub record AreSortedHoldings (holdings row : List Holding) : Type 0 where
  pub same : IsPermutation holdings row
  pub sorted : AreSorted row

-- The holdings before place i are fair among each other, and the total is that of the last one's denomination.
pub record AreFairSoFar (row : List Holding) (i total : ℕ) : Type 0 where
  pub named : (k : ℕ) (d : Holding) → k < i → is_user (slice_index_or row k d).0 ≡ true
  pub single : (h : Holding) → count_by (is_same_holding h) (take i row) ≤ 1
  pub small : (denom : List ℕ) → total_of denom (take i row) < 2 ^ 128
  pub running : (d : Holding) → 0 < i → total ≡ total_of (slice_index_or row (i - 1) d).1 (take i row)

-- The total is what those before place i hold of the denomination there, and none of them is the same as the one there.
pub record IsStanding (row : List Holding) (i total : ℕ) : Type 0 where
  pub counted : (d : Holding) → total ≡ total_of (slice_index_or row i d).1 (take i row)
  pub fresh : (k : ℕ) (d : Holding) → k < i → is_same_holding (slice_index_or row i d) (slice_index_or row k d) ≡ false
