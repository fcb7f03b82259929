-- How a genesis is made, chain by chain (ICS 24, "Host environment").
use Rattle.std.specs.Prelude.{◌≡◌, ◌⊎◌, ◌++◌, ◌+◌, ◌*◌, ◌^◌, ℕ, List, [], ◌∷◌, Option, Some, Ok, Err, IsTrue}
use Rattle.ibc_ids.specs.Texts.{Text}
use Rattle.ibc_ids.specs.Names.{is_user, is_denom}
use Rattle.ibc_ids.specs.declared.refusal.Refusal.TheVariants.{NoMemory, BadName}
use Rattle.ibc_machine.specs.declared.genesis.ChainStart.{ChainStart}
use Rattle.ibc_machine.specs.declared.genesis.Genesis.{Genesis}
use Rattle.ibc_machine.specs.chain.Genesis.{GenesisState, ChainState, Holding, genesis_state}
use Rattle.ibc_handle.specs.declared.handle_value.HandleValue.{HandleValue}
use Rattle.ibc_handle.specs.declared.handle_value.HandleValue.TheVariants as held
use Rattle.ibc_calls.specs.declared.answer.Refused.TheVariants.{Core, OtherKind, NothingThere}
use Rattle.ibc_calls.specs.CallAnswers.{Answer}
use Rattle.ibc_calls.specs.Handles.{OfValueOrEmpty, OfEmptyOrFull, IsMade}

-- with no chains
abbrev pub no_chains : ℕ → ℕ → GenesisState
no_chains capacity window = record { capacity = capacity; window = window; chains = [] }

abbrev pub IsGenesis : GenesisState → HandleValue → Type 0
IsGenesis state (held.Genesis genesis) = genesis_state genesis ≡ state
IsGenesis state _ = ⊥

-- a genesis with no chains was made
unfoldable pub BeginsGenesis : ℕ → ℕ → Option HandleValue → Option HandleValue → Answer → Type 0
BeginsGenesis capacity window = OfEmptyOrFull (IsMade (IsGenesis (no_chains capacity window)))

-- a genesis goes on; another value is refused, and stays
abbrev pub GenesisGoesOn : (GenesisState → GenesisState → Answer → Type 0) → HandleValue → Option HandleValue → Answer → Type 0
GenesisGoesOn does (held.Genesis old) (Some (held.Genesis new)) answer = does (genesis_state old) (genesis_state new) answer
GenesisGoesOn does (held.Genesis old) new answer = ⊥
GenesisGoesOn does old new answer = (new ≡ Some old) × (answer ≡ Err OtherKind)

-- a chain is added behind the others, or memory ran out
unfoldable pub AddsChain : ℕ → GenesisState → GenesisState → Answer → Type 0
AddsChain time old new answer =
    ((answer ≡ Ok tt) × (new ≡ record old { chains = old.chains ++ record { time = time; balances = [] } ∷ [] }))
    ⊎ ((answer ≡ Err (Core NoMemory)) × (new ≡ old))

-- a holding more
abbrev pub with_holding : Holding → ChainState → ChainState
with_holding holding chain = record chain { balances = chain.balances ++ holding ∷ [] }

-- a user's name and a denomination
abbrev pub AreNames : Text → Text → Type 0
AreNames user denom = IsTrue (is_user user) × IsTrue (is_denom denom)

-- these names, which are of their kinds
abbrev pub AreUserAndDenom : Text → Text → Text × Text → Type 0
AreUserAndDenom user denom names = (names.0 ≡ user) × (names.1 ≡ denom) × AreNames user denom

-- The last chain has a balance more; or it is refused and nothing has changed: there is no chain, a name is none of its kind, or
-- memory ran out.
unfoldable pub AddsBalance : Text → Text → ℕ → GenesisState → GenesisState → Answer → Type 0
AddsBalance user denom amount old new answer =
    ((answer ≡ Ok tt) × AreNames user denom
    × (before : List ChainState) × (chain : ChainState) × (old.chains ≡ before ++ chain ∷ [])
    × (new ≡ record old { chains = before ++ with_holding (user, denom, amount) chain ∷ [] }))
    ⊎ ((new ≡ old)
    × (((answer ≡ Err NothingThere) × AreNames user denom × (old.chains ≡ []))
    ⊎ ((answer ≡ Err (Core BadName)) × (AreNames user denom → ⊥)) ⊎ (answer ≡ Err (Core NoMemory))))

unfoldable pub ChainAdded : ℕ → Option HandleValue → Option HandleValue → Answer → Type 0
ChainAdded time = OfValueOrEmpty (GenesisGoesOn (AddsChain time))

unfoldable pub BalanceAdded : Text → Text → ℕ → Option HandleValue → Option HandleValue → Answer → Type 0
BalanceAdded user denom amount = OfValueOrEmpty (GenesisGoesOn (AddsBalance user denom amount))

-- the same of an amount that is told by its upper and its lower 64 bits
abbrev pub IsBalanceAdded : Text → Text → ℕ → ℕ → Option HandleValue → Option HandleValue → Answer → Type 0
IsBalanceAdded user denom high low old new answer = BalanceAdded user denom (high * 2 ^ 64 + low) old new answer

-- the last chain of a genesis has a balance more, or it is refused
abbrev pub AddsBalanceTo : Text → Text → ℕ → Genesis → Genesis → Answer → Type 0
AddsBalanceTo user denom amount old new answer = AddsBalance user denom amount (genesis_state old) (genesis_state new) answer

-- a chain begins with a holding more
abbrev pub AddsHolding : Text → Text → ℕ → ChainStart → ChainStart → Type 0
AddsHolding user denom amount old new = new.balances.items ≡ old.balances.items ++ (user, denom, amount) ∷ []
