-- What an allowed genesis promises of its window and its capacity.
use Rattle.ibc_ledger.proofs.Common.{◌<◌, ◌≤◌, length, arith, IsTrue, GenesisState, is_allowed}

module _ (genesis : GenesisState) where
  pub some_window : IsTrue (is_allowed genesis) → 0 < genesis.window
  unfolding is_allowed
  some_window allowed = grind arith

  pub small_capacity : IsTrue (is_allowed genesis) → genesis.capacity ≤ 1000000
  unfolding is_allowed
  small_capacity allowed = grind arith

  pub few_chains : IsTrue (is_allowed genesis) → length genesis.chains ≤ 8
  unfolding is_allowed
  few_chains allowed = grind arith
