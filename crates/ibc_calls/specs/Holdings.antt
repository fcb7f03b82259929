-- What accounts hold, one after another.
use Rattle.std.specs.Prelude.{◌≡◌, ◌⊎◌, ◌++◌, ℕ, List, ◌∷◌, map, length, Option, Some, None, Result, Ok, Err}
use Rattle.std.specs.List.{slice_get}
use Rattle.std.specs.Global.{Vec}
use Rattle.ibc_ids.specs.Texts.{Text}
use Rattle.ibc_ids.specs.Paths.{account_text}
use Rattle.ibc_ids.specs.declared.account.Account.{Account}
use Rattle.ibc_ids.specs.declared.refusal.Refusal.TheVariants.{NoMemory, UnknownChain}
use Rattle.ibc_bank.specs.ListedHoldings.{abstract_holding}
use Rattle.ibc_machine.specs.ics20.Bank.{Balances}
use Rattle.ibc_machine.specs.ledger.Ledgers.{Ledger, state_of}
use Rattle.ibc_handle.specs.declared.handle_value.HandleValue.{HandleValue}
use Rattle.ibc_handle.specs.declared.handle_value.HandleValue.TheVariants as held
use Rattle.ibc_calls.specs.declared.answer.Refused.{Refused}
use Rattle.ibc_calls.specs.declared.answer.Refused.TheVariants.{Core, Empty, OtherKind, NothingThere}
use Rattle.ibc_calls.specs.declared.reads.Amount.{Amount}
use Rattle.ibc_calls.specs.CallAnswers.{Answer}
use Rattle.ibc_calls.specs.Handles.{OfEmptyOrFull, IsMade, StaysEmpty}
use Rattle.ibc_calls.specs.Reads.{amount_of}

-- ---- the balances of a ledger

abbrev pub balances_of : Ledger → Balances
balances_of ledger = (state_of ledger).chain.records.apps.balances

abbrev pub AreBalances : Balances → HandleValue → Type 0
AreBalances balances (held.Balances list) = map abstract_holding list.items ≡ balances
AreBalances balances _ = ⊥

abbrev pub AreBalancesOf : Option HandleValue → Option HandleValue → Answer → Type 0
AreBalancesOf None new answer = StaysEmpty Empty new answer
AreBalancesOf (Some (held.Ledger l)) new answer = IsMade (AreBalances (balances_of l.ledger.ledger)) new answer
AreBalancesOf (Some other) new answer = StaysEmpty OtherKind new answer

unfoldable pub MakesBalances : Option HandleValue → Option HandleValue → Option HandleValue → Answer → Type 0
MakesBalances ledger = OfEmptyOrFull (AreBalancesOf ledger)

-- ---- one holding

abbrev pub HoldingOutput : Type 0
HoldingOutput = Account × Text × ℕ

abbrev pub found_or_refused : {A : Type 0} → Option A → Result A Refused
found_or_refused None = Err NothingThere
found_or_refused (Some x) = Ok x

-- the list of a chain, where there is the chain
abbrev pub of_chain_or_refused : {A : Type 0} → Option (Vec A) → Result (List A) Refused
of_chain_or_refused None = Err (Core UnknownChain)
of_chain_or_refused (Some list) = Ok list.items

-- what stands at an index of a list
abbrev pub item_of : {A : Type 0} → ℕ → Result (List A) Refused → Result A Refused
item_of index (Ok list) = found_or_refused (slice_get list index)
item_of index (Err why) = Err why

-- how many items a list has
abbrev pub IsCount : {A : Type 0} → Result (List A) Refused → ℕ → ℕ → Answer → Type 0
IsCount (Ok list) old new answer = (new ≡ length list) × (answer ≡ Ok tt)
IsCount (Err why) old new answer = (new ≡ old) × (answer ≡ Err why)

-- the holdings of a list of balances; of an audit, those of a chain
unfoldable pub holdings_at : ℕ → Option HandleValue → Result (List HoldingOutput) Refused
holdings_at chain None = Err Empty
holdings_at chain (Some (held.Balances list)) = Ok list.items
holdings_at chain (Some (held.Audit audit)) = of_chain_or_refused (slice_get audit.balances.items chain)
holdings_at chain (Some other) = Err OtherKind

unfoldable pub TellsHoldingCount : ℕ → Option HandleValue → ℕ → ℕ → Answer → Type 0
TellsHoldingCount chain value old new answer = IsCount (holdings_at chain value) old new answer

-- the one at an index
unfoldable pub holding_at : ℕ → ℕ → Option HandleValue → Result HoldingOutput Refused
holding_at chain index value = item_of index (holdings_at chain value)

-- the account's text, a blank, and the denomination
abbrev pub holding_text : HoldingOutput → Text
holding_text (account, denom, amount) = account_text account ++ 32 ∷ denom

abbrev pub IsHoldingText : Result HoldingOutput Refused → Result Text Refused → Type 0
IsHoldingText (Ok holding) found = (found ≡ Ok (holding_text holding)) ⊎ (found ≡ Err (Core NoMemory))
IsHoldingText (Err why) found = found ≡ Err why

unfoldable pub FindsHolding : ℕ → ℕ → Option HandleValue → Result Text Refused → Type 0
FindsHolding chain index old found = IsHoldingText (holding_at chain index old) found

abbrev pub IsHoldingAmount : Result HoldingOutput Refused → Amount → Amount → Answer → Type 0
IsHoldingAmount (Ok holding) old new answer = (amount_of new ≡ holding.2) × (answer ≡ Ok tt)
IsHoldingAmount (Err why) old new answer = (new ≡ old) × (answer ≡ Err why)

unfoldable pub TellsHolding : ℕ → ℕ → Option HandleValue → Amount → Amount → Answer → Type 0
TellsHolding chain index value old new answer = IsHoldingAmount (holding_at chain index value) old new answer
