-- How the ledgers of a world are made, and handed out.
use Rattle.std.specs.Prelude.{◌≡◌, ◌⊎◌, ℕ, Bool, true, false, [], ◌∷◌, Option, Some, None, Ok, Err}
use Rattle.ibc_ids.specs.declared.refusal.Refusal.TheVariants.{NoMemory, BadMessage}
use Rattle.ibc_machine.specs.declared.genesis.Genesis.{Genesis}
use Rattle.ibc_machine.specs.chain.Genesis.{GenesisState, genesis_state, is_allowed}
use Rattle.ibc_refinement.specs.World.{AreNew}
use Rattle.ibc_world_core.specs.WorldModel.{ledgers_alone}
use Rattle.ibc_handle.specs.LedgersModel.{LedgersModel}
use Rattle.ibc_handle.specs.declared.handle_value.HandleValue.{HandleValue}
use Rattle.ibc_handle.specs.declared.handle_value.HandleValue.TheVariants as held
use Rattle.ibc_calls.specs.declared.answer.Refused.TheVariants.{Core, Empty, Full, OtherKind, NothingThere}
use Rattle.ibc_calls.specs.CallAnswers.{Answer}
use Rattle.ibc_calls.specs.Handles.{OfEmptyOrFull, IsMade, StaysEmpty}

-- all ledgers of a genesis in the beginning, under the number of their world
abbrev pub AreAllNew : GenesisState → ℕ → HandleValue → Type 0
AreAllNew genesis number (held.Ledgers all) = (all.number ≡ number) × AreNew genesis (ledgers_alone all.ledgers)
AreAllNew genesis number _ = ⊥

-- what is made of a genesis: its ledgers, where it is allowed
abbrev pub MakesIfAllowed : Bool → GenesisState → ℕ → Option HandleValue → Answer → Type 0
MakesIfAllowed true genesis number new answer = IsMade (AreAllNew genesis number) new answer
MakesIfAllowed false genesis number new answer = StaysEmpty (Core BadMessage) new answer

-- what is made of this genesis
abbrev pub AreMadeOfGenesis : ℕ → Genesis → Option HandleValue → Answer → Type 0
AreMadeOfGenesis number genesis new answer = MakesIfAllowed (is_allowed (genesis_state genesis)) (genesis_state genesis) number new answer

abbrev pub AreMadeOf : ℕ → Option HandleValue → Option HandleValue → Answer → Type 0
AreMadeOf number None new answer = StaysEmpty Empty new answer
AreMadeOf number (Some (held.Genesis genesis)) new answer =
    MakesIfAllowed (is_allowed (genesis_state genesis)) (genesis_state genesis) number new answer
AreMadeOf number (Some other) new answer = StaysEmpty OtherKind new answer

-- the ledgers of the genesis that one handle holds are made in the other
unfoldable pub MakesLedgers : ℕ → Option HandleValue → Option HandleValue → Option HandleValue → Answer → Type 0
MakesLedgers number genesis = OfEmptyOrFull (AreMadeOf number genesis)

-- The first of the ledgers was taken out; or there is none, or memory ran out, and they are as they were.
abbrev pub TakesFirstLedger : LedgersModel → LedgersModel → Option HandleValue → Answer → Type 0
TakesFirstLedger old new (Some (held.Ledger first)) answer =
    (answer ≡ Ok tt) × (first.number ≡ old.number) × (new.number ≡ old.number) × (old.ledgers ≡ first.ledger ∷ new.ledgers)
TakesFirstLedger old new (Some other) answer = ⊥
TakesFirstLedger old new None answer =
    (new ≡ old) × (((answer ≡ Err NothingThere) × (old.ledgers ≡ [])) ⊎ (answer ≡ Err (Core NoMemory)))

-- what is taken from what a handle holds
abbrev pub TakesFrom : HandleValue → HandleValue → Option HandleValue → Answer → Type 0
TakesFrom (held.Ledgers old) (held.Ledgers new) ledger answer = TakesFirstLedger old new ledger answer
TakesFrom (held.Ledgers old) new ledger answer = ⊥
TakesFrom old new ledger answer = (new ≡ old) × StaysEmpty OtherKind ledger answer

-- the first ledger goes from the one handle to the other, which holds nothing
unfoldable pub TakesLedger : Option HandleValue → Option HandleValue → Option HandleValue → Option HandleValue → Answer → Type 0
TakesLedger all all' (Some old) ledger answer = (all' ≡ all) × (ledger ≡ Some old) × (answer ≡ Err Full)
TakesLedger None all' None ledger answer = (all' ≡ None) × StaysEmpty Empty ledger answer
TakesLedger (Some old) (Some new) None ledger answer = TakesFrom old new ledger answer
TakesLedger (Some old) None None ledger answer = ⊥
