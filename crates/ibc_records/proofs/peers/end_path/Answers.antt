-- The path is made of the parts that its definition joins.
use Rattle.std.proofs.Common.{◌++◌, codes, append_assoc, sym, ap, ◌∙◌}
use Rattle.ibc_ids.specs.Texts.{Text}
use Rattle.ibc_records.proofs.peers.end_path.Goals as goal

pub returns-clause-ok : goal.returns-clause-ok
returns-clause-ok c =
    c.in_ok-format.ensures.ok
    ∙ ap (λ (port : Text). codes "channelEnds/ports/" ++ (port ++ (codes "/channels/" ++ c.args.channel.now))) c.as_str-port.ensures.text
    ∙ sym (ap (λ (rest : Text). codes "channelEnds/ports/" ++ rest) (append_assoc c.args.port.now (codes "/channels/") c.args.channel.now))
