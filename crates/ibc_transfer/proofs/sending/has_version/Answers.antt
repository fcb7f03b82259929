-- The test of two texts is the definitions' own.
use Rattle.std.proofs.Common.{ap, ◌∙◌}
use Rattle.ibc_ids.specs.Texts.{same_text}
use Rattle.ibc_wire.specs.declared.records.ChannelEnd.{ChannelEnd}
use Rattle.ibc_transfer.proofs.sending.has_version.Goals as goal

pub returns : goal.returns
returns c = c.eq.ensures ∙ ap (λ (end : ChannelEnd). same_text end.version c.args.version.now) c.end.ensures
