-- What is wrong with a genesis whose values have their forms.
use Rattle.std.specs.Prelude.{ℕ, ◌+◌, ◌^◌, Bool, ◌&&◌, not, nat_le, nat_lt, List, [], ◌∷◌, ◌++◌, take, if◌then◌else◌}
use Rattle.std.specs.List.{list_any}
use Rattle.ibc_ids.specs.Texts.{Text}
use Rattle.ibc_machine.specs.chain.Genesis.{ChainState, GenesisState, Holding, is_same_holding, total_of}
use Rattle.ibc_lab.specs.declared.fault.ScriptFault.{ScriptFault}
use Rattle.ibc_lab.specs.declared.fault.FaultKind.TheVariants as wrong
use Rattle.ibc_lab.specs.declared.member.Member.TheVariants as member
use Rattle.ibc_lab.specs.declared.place.ScriptPart.TheVariants as part
use Rattle.ibc_lab.specs.declared.place.ScriptPlace.{ScriptPlace}
use Rattle.ibc_lab.specs.Faults.{fault_at, unless}
use Rattle.ibc_lab.specs.Places.{at_member, inside, place_of}

-- a chain would keep more heights than it may publish
abbrev pub window_faults : GenesisState → List ScriptFault
window_faults genesis =
    unless (nat_le genesis.window genesis.capacity) (at_member (place_of part.Script) member.Window) wrong.AboveCapacity

-- the user has the denomination in a holding before
abbrev pub twice_faults : ScriptPlace → List Holding → Holding → List ScriptFault
twice_faults place before holding =
    if list_any (is_same_holding holding) before then fault_at place wrong.HeldTwice else []

-- 128 bits hold the amounts of the denomination together
abbrev pub are_small : Text → List Holding → Bool
are_small denom holdings = nat_lt (total_of denom holdings) (2 ^ 128)

-- the holding at the index is the first with which they don't
abbrev pub too_much_faults : ScriptPlace → Text → ℕ → List Holding → List ScriptFault
too_much_faults place denom index all =
    if not (are_small denom (take (index + 1) all)) && are_small denom (take index all)
    then fault_at (inside place 2) wrong.TooMuch else []

-- the place of a holding of a chain
abbrev pub holding_place : ℕ → ℕ → ScriptPlace
holding_place chain index = inside (at_member (place_of (part.Chain chain)) member.Balances) index

-- the holdings from an index on, of all those of a chain
abbrev pub holdings_faults : ℕ → List Holding → ℕ → List Holding → List ScriptFault
holdings_faults chain all index [] = []
holdings_faults chain all index (holding ∷ holdings) =
    twice_faults (holding_place chain index) (take index all) holding
    ++ too_much_faults (holding_place chain index) holding.1 index all
    ++ holdings_faults chain all (index + 1) holdings

-- the chains from an index on
abbrev pub chains_faults : ℕ → List ChainState → List ScriptFault
chains_faults chain [] = []
chains_faults chain (start ∷ starts) =
    holdings_faults chain start.balances 0 start.balances ++ chains_faults (chain + 1) starts

abbrev pub genesis_faults : GenesisState → List ScriptFault
genesis_faults genesis = window_faults genesis ++ chains_faults 0 genesis.chains
