-- Accounts by their names alone.
use Rattle.ibc_ids.specs.Texts.{Text}
use Rattle.ibc_ids.specs.Paths.{account_text}
use Rattle.ibc_ids.specs.declared.account.Account.TheVariants as account
use Rattle.ibc_bank.specs.declared.holder.AccountRef.{AccountRef}
use Rattle.ibc_bank.specs.declared.holder.AccountRef.TheVariants as party

-- the account's text
abbrev pub party_text : AccountRef → Text
party_text (party.User name) = account_text (account.User name.now)
party_text (party.Escrow channel) = account_text (account.Escrow channel.now)
