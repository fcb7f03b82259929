-- Whether supplies at home are those of the genesis (ICS 20, "Correctness": total supply).
use Rattle.std.specs.Prelude.{◌≡◌, ℕ, ◌==◌, Bool, false, List, All, MatchOption, Option, slice_get, take, IsTrue, IsSomeAnd}
use Rattle.std.specs.Option.{option_map_or}
use Rattle.ibc_ids.specs.Texts.{Text}
use Rattle.ibc_machine.specs.ics20.Bank.{supply}
use Rattle.ibc_machine.specs.ledger.Ledgers.{Ledger, state_of}
use Rattle.ibc_refinement.specs.World.{WorldState}
use Rattle.ibc_law_checks.specs.declared.supplies.HomeSupply.{HomeSupply}

-- all that the accounts of a ledger hold of a denomination
abbrev pub supply_on : Text → Ledger → ℕ
supply_on denom ledger = supply (state_of ledger).chain.records.apps.balances denom

abbrev pub is_kept : WorldState → HomeSupply → Bool
is_kept world home =
    option_map_or (λ ledger. supply_on home.denom ledger == home.amount) (slice_get world.ledgers home.chain) false

-- it is the first supply that has changed; where there is none, each one stays
abbrev pub IsFirstChanged : WorldState → List HomeSupply → Option ℕ → Type 0
IsFirstChanged world supplies found =
    MatchOption found (All (λ home. IsTrue (is_kept world home)) supplies)
    (λ index. All (λ home. IsTrue (is_kept world home)) (take index supplies)
    × IsSomeAnd (slice_get supplies index) (λ home. is_kept world home ≡ false))
