-- What values of JSON are as they are read: lists, members, chains, steps and scripts, or none of these.
use Rattle.std.specs.Prelude.{◌≤◌, ℕ, codes, List, length, map, zip, Option, Some, IsTrue, String}
use Rattle.std.specs.Borrow.{Bor}
use Rattle.std.specs.Global.{Vec}
use Rattle.std.specs.declared.alloc.Global.{Global}
use Rattle.serde_json.specs.Data.{Data}
use Rattle.serde_json.specs.Find.{get}
use Rattle.serde_json.specs.View.{members_view, view}
use Rattle.serde_json.specs.declared.value.Value.{Value}
use Rattle.ibc_ids.specs.Texts.{Text}
use Rattle.ibc_machine.specs.chain.Genesis.{ChainState, Holding, chain_state}
use Rattle.ibc_machine.specs.declared.genesis.ChainStart.{ChainStart}
use Rattle.ibc_wire.specs.Tokens.{is_listed}
use Rattle.ibc_wire.specs.declared.token.Token.{Token}
use Rattle.ibc_script.specs.ScriptValues.{AreChainStarts, AreEach, AreItems, IsChainStart, IsHolding, IsScript, IsStepObject, IsToken, IsWindow, ScriptContent, are_among, has_only}
use Rattle.ibc_script.specs.declared.script.Step.{Step}

-- the values of a list, as they are read
abbrev pub AreValues : List Value → Option Data → Type 0
AreValues values = AreItems (map view values)

-- no list is found
abbrev pub AreNoItems : Option Data → Type 0
AreNoItems found = (values : List Data) → ¬ AreItems values found

-- each value that is read is the one of this list in its place
abbrev pub AreEachOf : {A : Type 0} → (A → Option Data → Type 0) → List A → List Value → Type 0
AreEachOf is xs values = AreEach is xs (map view values)

-- an object, as it is read, has members of these names alone
abbrev pub HasOnly : List (Bor Text) → Value → Type 0
HasOnly names value = IsTrue (has_only (map (λ (name : Bor Text). name.now) names) (view value))

-- each of the members, as they are read, has one of these names
abbrev pub AreNamed : List (Bor Text) → List (String Global × Value) → Type 0
AreNamed names members = IsTrue (are_among (map (λ (name : Bor Text). name.now) names) (members_view members))

-- the values are no tokens of a transfer
abbrev pub AreNoTokens : List Value → Type 0
AreNoTokens values = (tokens : List Token) → IsTrue (is_listed tokens) → ¬ AreEachOf IsToken tokens values

-- the values are no balances
abbrev pub AreNoHoldings : List Value → Type 0
AreNoHoldings values = (holdings : List Holding) → ¬ AreEachOf IsHolding holdings values

-- the value that is read is this chain's name, with how it begins
abbrev pub IsStartOf : Value → Text × ChainStart → Type 0
IsStartOf value = λ start. IsChainStart (start.0, chain_state start.1) (Some (view value))

-- the value that is read is no chain's start
abbrev pub IsNoChainStart : Value → Type 0
IsNoChainStart value = (start : Text × ChainState) → ¬ IsChainStart start (Some (view value))

-- the values that are read are the chains of these names, which begin so
abbrev pub AreChainStartsOf : List Value → Vec Text × Vec ChainStart → Type 0
AreChainStartsOf values = λ r. AreEach IsChainStart (zip r.0.items (map chain_state r.1.items)) (map view values)

-- the values that are read are no chains of a script
abbrev pub AreNoChainStarts : List Value → Type 0
AreNoChainStarts values = (names : List Text) (starts : List ChainState) → ¬ AreChainStarts names starts (map view values)

-- the values that are read are no steps of a script whose chains have these names
abbrev pub AreNoSteps : List Text → List Value → Type 0
AreNoSteps names values = (steps : List Step) → length steps ≤ 10000 → ¬ AreEachOf (IsStepObject names) steps values

-- how many heights the object of a script says that chains of such a capacity keep
abbrev pub IsWindowIn : Value → ℕ → ℕ → Type 0
IsWindowIn script capacity = λ window. IsWindow capacity window (get (codes "window") (view script))

-- the value that is read is no script
abbrev pub IsNoScript : Value → Type 0
IsNoScript value = (content : ScriptContent) → ¬ IsScript content (view value)
