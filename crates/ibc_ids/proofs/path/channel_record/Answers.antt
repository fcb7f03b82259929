use Rattle.std.proofs.Common.{codes, List, ap, ◌∷◌, ◌∙◌}
use Rattle.std.specs.List.{slice_split}
use Rattle.ibc_ids.specs.Names.{is_slash}
use Rattle.ibc_ids.specs.Texts.{Text}
use Rattle.ibc_ids.proofs.KeyParts.{sequence_at}
use Rattle.ibc_ids.proofs.path.channel_record.Goals as goal

pub returns : goal.returns
returns c =
    let channel = c.in-Some.channel.now in
    let sequence = c.in-Some-sequences-default.sequence.now in
    let first = c.in-Some-channels-default.is-channels in
    let second = c.in-Some.ensures ∙ ap (λ (t : List Text). channel ∷ t) c.in-Some-sequences-default.ensures in
    let third = c.in-Some-sequences-default.is-sequences in
    let behind = c.in-Some-channels-default.ensures ∙ (λ i. first i ∷ second i) ∙ ap (λ (t : Text). codes "channels" ∷ channel ∷ t ∷ slice_split is_slash sequence) third in
    sequence_at c.record_at_sequence.result c.args.kind.now c.args.port.now channel sequence (slice_split is_slash c.args.rest.now) behind c.record_at_sequence.ensures
