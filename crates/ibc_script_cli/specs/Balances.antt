-- What accounts and channels have, as it is listed and as it is printed.
use Rattle.std.specs.Prelude.{ℕ, List, map}
use Rattle.std.specs.Global.{Vec}
use Rattle.ibc_ids.specs.Texts.{Text}
use Rattle.ibc_ids.specs.Paths.{account_text}
use Rattle.ibc_ids.specs.declared.account.Account.{Account}
use Rattle.ibc_machine.specs.ics20.Bank.{Balances}

-- who holds how much of what, by the account's text
abbrev pub holding_of : Account × Text × ℕ → (Text × Text) × ℕ
holding_of (account, denom, amount) = ((account_text account, denom), amount)

-- the notes of one channel
abbrev pub notes_of : Text × Vec Text → Text × List Text
notes_of (channel, notes) = (channel, notes.items)

-- the balances of a list, in its order
abbrev pub listed_balances : Vec (Account × Text × ℕ) → Balances
listed_balances list = map holding_of list.items

-- the notes of a list, in its order
abbrev pub listed_notes : Vec (Text × Vec Text) → List (Text × List Text)
listed_notes list = map notes_of list.items
