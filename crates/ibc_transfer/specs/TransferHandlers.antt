-- What becomes of the two messages of port `transfer`, on whichever chain (ICS 20, "sendFungibleTokens").
use Rattle.std.specs.Prelude.{ℕ, Result}
use Rattle.std.specs.Borrow.{Bor}
use Rattle.ibc_ids.specs.Texts.{Text}
use Rattle.ibc_ids.specs.declared.refusal.Refusal.{Refusal}
use Rattle.ibc_wire.specs.declared.messages.Transfer.{Transfer}
use Rattle.ibc_wire.specs.declared.messages.TransferMany.{TransferMany}
use Rattle.ibc_machine.specs.declared.reply.Effect.TheVariants as effect
use Rattle.ibc_machine.specs.chain.Records.{Channel}
use Rattle.ibc_machine.specs.ics20.Transfers.{transfer, transfer_many}
use Rattle.ibc_bank.specs.Moves.{BankState}
use Rattle.ibc_records.specs.RecordsModel.{RecordsModel}
use Rattle.ibc_records.specs.HandlerContract.{IsHandledWith}
use Rattle.ibc_records.specs.ProofVerdicts.{IsJudgedEnd}
use Rattle.ibc_transfer.specs.BankTransfers.{bank_transfer, bank_transfer_many}
use Rattle.ibc_transfer.specs.TransferChecks.{abstract_outgoing, require_channel, send_handler}
use Rattle.ibc_transfer.specs.declared.outgoing.Outgoing.{Outgoing}

-- one token is sent, and balances change as the definition says
abbrev pub SendsOne : Transfer → RecordsModel → BankState → Result ℕ Refusal → RecordsModel → BankState → Type 0
SendsOne m old bank result new after =
    (chain chains : ℕ) → IsHandledWith effect.Sent (transfer m) chain chains old bank.balances result new after.balances

-- the same, by the bank, which counts what is burnt in flight too
abbrev pub PaysOne : Transfer → RecordsModel → BankState → Result ℕ Refusal → RecordsModel → BankState → Type 0
PaysOne m old bank result new after =
    (chain chains : ℕ) → IsHandledWith effect.Sent (bank_transfer m) chain chains old bank result new after

-- several tokens are sent, and balances change as the definition says
abbrev pub SendsMany : TransferMany → RecordsModel → BankState → Result ℕ Refusal → RecordsModel → BankState → Type 0
SendsMany m old bank result new after =
    (chain chains : ℕ) → IsHandledWith effect.Sent (transfer_many m) chain chains old bank.balances result new after.balances

-- the same, by the bank, which counts what is burnt in flight too
abbrev pub PaysMany : TransferMany → RecordsModel → BankState → Result ℕ Refusal → RecordsModel → BankState → Type 0
PaysMany m old bank result new after =
    (chain chains : ℕ) → IsHandledWith effect.Sent (bank_transfer_many m) chain chains old bank result new after

-- what a message sends goes over the channel
abbrev pub IsSentOver : Text → Outgoing → RecordsModel → BankState → Result ℕ Refusal → RecordsModel → BankState → Type 0
IsSentOver channel parcel old bank result new after =
    (chain chains : ℕ) → IsHandledWith effect.Sent (send_handler channel (abstract_outgoing parcel)) chain chains old bank result new after

-- the end that may send it, before the payment
abbrev pub IsLeavingEnd : Text → Outgoing → RecordsModel → Result (Bor Channel) Refusal → Type 0
IsLeavingEnd channel parcel held result = IsJudgedEnd (require_channel channel (abstract_outgoing parcel)) held result
