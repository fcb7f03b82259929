-- The genesis is that of the script that is read.
use Rattle.std.proofs.Common.{◌≡◌, inl}
use Rattle.std.proofs.lemmas.Result.{IfErr-weaker}
use Rattle.ibc_node.specs.declared.fault.NodeFault.{NodeFault}
use Rattle.ibc_node.specs.declared.fault.NodeFault.TheVariants.{BadGenesis}
use Rattle.ibc_node.specs.Faults.{IsOfGenesis}
use Rattle.ibc_node.proofs.Opened.{genesis_text}
use Rattle.ibc_node.proofs.opening.genesis_of.Goals as goal

pub returns-in-Ok-clause-genesis : goal.returns-in-Ok-clause-genesis
returns-in-Ok-clause-genesis c = genesis_text c.args.text.now c.in-Ok.script c.genesis_alone.result c.in-Ok.ensures.script c.genesis_alone.ensures.genesis c.genesis_alone.ensures.no_steps

pub returns-in-Ok-clause-faults : goal.returns-in-Ok-clause-faults
returns-in-Ok-clause-faults c = IfErr-weaker c.genesis_alone.result (λ (why : NodeFault). why ≡ BadGenesis) IsOfGenesis (λ why is. inl is) c.genesis_alone.ensures.faults
