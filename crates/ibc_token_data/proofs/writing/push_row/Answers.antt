use Rattle.std.proofs.Common.{string_bytes}
use Rattle.std.proofs.lemmas.Result.{on_ok_weaker}
use Rattle.ibc_token_data.proofs.Joined.{row_pushed}
use Rattle.ibc_token_data.proofs.writing.push_row.Goals as goal

pub returns : goal.returns
returns c =
    on_ok_weaker c.push_behind.result
    (λ e. row_pushed c.args.first.now c.args.others.now (string_bytes c.args.text.now) _ (string_bytes c.push_behind.new.text) c.in_ok-push_object.ensures e) c.push_behind.ensures
