-- What is so of the numbers that calls answer, by what each call does.
use Rattle.std.specs.Prelude.{◌+◌, ◌*◌, ◌^◌, ℕ, Option}
use Rattle.ibc_ids.specs.Texts.{Text}
use Rattle.ibc_handle.specs.declared.handle_value.HandleValue.{HandleValue}
use Rattle.ibc_calls.specs.declared.reads.Amount.{Amount}
use Rattle.ibc_calls.specs.CallAnswers.{Numbered}
use Rattle.ibc_calls.specs.Gathering.{Audits, JoinsLedger}
use Rattle.ibc_calls.specs.GenesisHandles.{BalanceAdded}
use Rattle.ibc_calls.specs.Handles.{Finds}
use Rattle.ibc_calls.specs.Holdings.{MakesBalances}
use Rattle.ibc_calls.specs.PacketReads.{FindsCarriedPacket}
use Rattle.ibc_calls.specs.Reads.{FindsMessage, FindsValue, TellsBalance, TellsEscrow}
use Rattle.ibc_calls.specs.Views.{FindsProof, MakesPlan}
use Rattle.ibc_calls.specs.WorldHandles.{MakesLedgers, TakesLedger}

-- ---- of worlds

-- a balance is added to the last chain of a genesis, told by its upper and its lower 64 bits
abbrev pub NumbersNewBalance : Text → Text → ℕ → ℕ → Option HandleValue → Option HandleValue → ℕ → Type 0
NumbersNewBalance user denom high low old new number = Numbered (BalanceAdded user denom (high * 2 ^ 64 + low) old new) number

-- the ledgers of a genesis are made
abbrev pub NumbersLedgers : ℕ → Option HandleValue → Option HandleValue → Option HandleValue → ℕ → Type 0
NumbersLedgers world genesis old new number = Numbered (MakesLedgers world genesis old new) number

-- the first ledger is taken out
abbrev pub NumbersTake : Option HandleValue → Option HandleValue → Option HandleValue → Option HandleValue → ℕ → Type 0
NumbersTake ledgers ledgers' old new number = Numbered (TakesLedger ledgers ledgers' old new) number

-- a ledger comes back to the others
abbrev pub NumbersJoin : Option HandleValue → Option HandleValue → Option HandleValue → Option HandleValue → ℕ → Type 0
NumbersJoin ledgers ledgers' old new number = Numbered (JoinsLedger ledgers ledgers' old new) number

-- the ledgers are audited
abbrev pub NumbersAudit : Option HandleValue → Option HandleValue → Option HandleValue → Option HandleValue → ℕ → Type 0
NumbersAudit ledgers ledgers' old new number = Numbered (Audits ledgers ledgers' old new) number

-- ---- of ledgers and views

-- the balances of a ledger are read
abbrev pub NumbersBalances : Option HandleValue → Option HandleValue → Option HandleValue → ℕ → Type 0
NumbersBalances ledger old new number = Numbered (MakesBalances ledger old new) number

-- what a user holds of a denomination is told
abbrev pub NumbersBalance : Text → Text → Option HandleValue → Amount → Amount → ℕ → Type 0
NumbersBalance user denom ledger old new number = Numbered (TellsBalance user denom ledger old new) number

-- what a channel's escrow account holds of a denomination is told
abbrev pub NumbersEscrow : Text → Text → Option HandleValue → Amount → Amount → ℕ → Type 0
NumbersEscrow channel denom ledger old new number = Numbered (TellsEscrow channel denom ledger old new) number

-- the plan of what is owed between two views is made
abbrev pub NumbersPlan : Option HandleValue → Option HandleValue → Option HandleValue → Option HandleValue → ℕ → Type 0
NumbersPlan from to old new number = Numbered (MakesPlan from to old new) number

-- the value at a path is written
abbrev pub NumbersRead : Text → Option HandleValue → Text → Text → ℕ → ℕ → ℕ → Type 0
NumbersRead path ledger old new size size' number = Numbered (Finds (FindsValue path ledger) old new size size') number

-- the proof of a path is written
abbrev pub NumbersProof : Text → Option HandleValue → Text → Text → ℕ → ℕ → ℕ → Type 0
NumbersProof path view old new size size' number = Numbered (Finds (FindsProof path view) old new size size') number

-- the message at an index of a plan is written
abbrev pub NumbersOwed : ℕ → Option HandleValue → Text → Text → ℕ → ℕ → ℕ → Type 0
NumbersOwed index plan old new size size' number = Numbered (Finds (FindsMessage index plan) old new size size') number

-- the packet that a message brings is written
abbrev pub NumbersCarriedPacket : Text → Text → Text → ℕ → ℕ → ℕ → Type 0
NumbersCarriedPacket message old new size size' number = Numbered (Finds (FindsCarriedPacket message) old new size size') number
