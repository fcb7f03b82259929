-- A script that is made shorter.
use Rattle.std.specs.Prelude.{◌≡◌, ◌⊎◌, ℕ, Bool, true, List, Some, length, slice_get}

-- of as many steps, no step is kept that wasn't
pub record KeepsNoMore (old new : List Bool) : Type 0 where
  pub as_many : length new ≡ length old
  pub fewer : (k : ℕ) → slice_get new k ≡ Some true → slice_get old k ≡ Some true

-- the steps that are kept do what is asked, or they are all that were
abbrev pub StillDo : (List Bool → Type 0) → List Bool → List Bool → Type 0
StillDo Does old new = (new ≡ old) ⊎ Does new
