use Rattle.std.proofs.Common.{Option, Some, codes, ap, ◌∙◌}
use Rattle.ibc_ids.specs.Texts.{Text}
use Rattle.ibc_wire.specs.Reading.{◌>>=◌}
use Rattle.ibc_token_data.specs.Cutting.{value_behind}
use Rattle.ibc_token_data.proofs.cutting.pair_at.Goals as goal

pub returns : goal.returns
returns c =
    let receiver : Text = c.in_ok-receiver.receiver.now in
    ap (λ (o : Option (Text × Text)). o >>= λ z. Some (receiver, z.0, z.1)) c.in_ok-sender.ensures
    ∙ ap (λ (o : Option (Text × Text)). o >>= λ y. value_behind (codes ",\"sender\":\"") y.1 >>= λ z. Some (y.0, z.0, z.1)) c.in_ok-receiver.ensures
