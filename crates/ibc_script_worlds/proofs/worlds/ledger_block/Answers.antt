use Rattle.ibc_script_worlds.proofs.ToldBlocks.{found_in}
use Rattle.std.proofs.Common.{map}
use Rattle.ibc_ledger.specs.LedgerModel.{abstract_entry}
use Rattle.ibc_script_worlds.proofs.worlds.ledger_block.Goals as goal

pub returns : goal.returns
returns c =
    found_in c.args.ledger.now.ledger c.lemma_is_its_history.ensures.is c.args.starts.now c.args.height c.block.result c.requires c.chain.result c.chain.ensures
    (map abstract_entry c.history.result.now) c.history.ensures c.block.ensures
