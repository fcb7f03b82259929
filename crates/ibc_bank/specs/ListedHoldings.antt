-- Balances as they are listed.
use Rattle.std.specs.Prelude.{ℕ}
use Rattle.ibc_ids.specs.Texts.{Text}
use Rattle.ibc_ids.specs.Paths.{account_text}
use Rattle.ibc_ids.specs.declared.account.Account.{Account}

-- who holds how much of what, by the account's text
abbrev pub abstract_holding : Account × Text × ℕ → (Text × Text) × ℕ
abstract_holding (account, denom, amount) = ((account_text account, denom), amount)
