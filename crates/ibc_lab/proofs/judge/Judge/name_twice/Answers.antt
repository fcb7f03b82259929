-- None of the chains before has the name.
use Rattle.std.proofs.Common.{map}
use Rattle.serde_json.specs.View.{view}
use Rattle.ibc_lab.proofs.Objects.{not_twice}
use Rattle.ibc_lab.proofs.judge.Judge.name_twice.Goals as goal

pub returns-else-is_name_in : goal.returns-else-is_name_in
returns-else-is_name_in c =
    not_twice (map view c.args.self.now.chains.now) (map view c.chains_before.result.now) c.args.index (view c.args.chain.now) c.args.found.now.items
    c.is_name_in.result c.chains_before.ensures c.is_name_in.ensures c.if-is_name_in.false
