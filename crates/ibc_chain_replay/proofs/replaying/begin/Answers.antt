-- An allowed genesis has few chains, and some.
use Rattle.std.proofs.Common.{arith}
use Rattle.std.proofs.lemmas.List.{length-map}
use Rattle.ibc_machine.specs.chain.Genesis.{genesis_state, chain_state}
use Rattle.ibc_ledger.proofs.Windows.{few_chains, some_window}
use Rattle.ibc_world_core.proofs.Beginnings.{some_chains}
use Rattle.ibc_chain_replay.proofs.replaying.begin.Goals as goal

pub overflow_cast-chains : goal.overflow_cast-chains
overflow_cast-chains c =
    let few = few_chains (genesis_state c.args.genesis.now) c.requires.allowed in
    let long = length-map c.args.genesis.now.chains.items chain_state in
    omega (arith, few, long, c.len-chains.ensures, c.args.genesis.now.chains.ok.0)

pub new-requires : goal.new-requires
new-requires c =
    let some = some_chains (genesis_state c.args.genesis.now) c.requires.allowed in
    let long = length-map c.args.genesis.now.chains.items chain_state in
    (omega (arith, some, long, c.len-chains.ensures, c.args.genesis.now.chains.ok.0), some_window (genesis_state c.args.genesis.now) c.requires.allowed)
