use Rattle.ibc_token_data.specs.AbstractData.{abstract_data}
use Rattle.ibc_token_data.proofs.Joined.{whole_pushed}
use Rattle.ibc_token_data.proofs.writing.spelling.Goals as goal

pub returns : goal.returns
returns c =
    whole_pushed c.args.version.now (abstract_data c.args.told.now) _ _ _ _ c.in_ok-text.ensures.bytes c.in_ok-push_str.ensures.bytes c.in_ok-push_members.ensures c.in_ok-push_str-2.ensures.bytes
