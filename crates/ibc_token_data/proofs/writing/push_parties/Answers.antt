use Rattle.std.proofs.Common.{string_bytes}
use Rattle.std.proofs.lemmas.Result.{on_ok_weaker}
use Rattle.ibc_token_data.specs.AbstractData.{abstract_data}
use Rattle.ibc_token_data.proofs.Joined.{parties_pushed}
use Rattle.ibc_token_data.proofs.writing.push_parties.Goals as goal

pub returns : goal.returns
returns c =
    on_ok_weaker c.push_member-2.result
    (λ e. parties_pushed (abstract_data c.args.told.now) (string_bytes c.args.text.now) _ _ _ (string_bytes c.push_member-2.new.text) c.as_str.result.now c.as_str-2.result.now
    c.as_str.ensures.text c.as_str-2.ensures.text c.in_ok-push_memo.ensures c.in_ok-push_member.ensures c.in_ok-push_str.ensures.bytes e) c.push_member-2.ensures
