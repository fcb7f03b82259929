-- A number is one of the receipts just where the map has it.
use Rattle.std.proofs.Common.{sym, ap, ◌∙◌, is_some}
use Rattle.ibc_machine.specs.chain.Records.{Channel, is_one_of}
use Rattle.ibc_records.proofs.Knowing.{is_key_of, is_some-copied}
use Rattle.ibc_records.proofs.channel.Channel.has_receipt.Goals as goal

pub returns : goal.returns
returns c =
    c.is_some.ensures ∙ sym (is_some-copied c.get.result) ∙ ap is_some c.get.ensures ∙ sym (is_key_of c.args.sequence c.self.inside.receipts.pairs)
    ∙ ap (λ (mine : Channel). is_one_of mine.receipts c.args.sequence) c.self.view_is
