-- The faults so far, and those of the chains that are left, are all.
use Rattle.std.proofs.Common.{◌≡◌, ◌++◌, drop, map}
use Rattle.ibc_machine.specs.chain.Genesis.{chain_state}
use Rattle.ibc_lab.specs.GenesisFaults.{chains_faults}
use Rattle.ibc_lab.proofs.genesis.chains.Given as goal

abbrev pub invariant-loop-chain : goal.invariant-loop-chain
invariant-loop-chain l =
    l.found.items ++ chains_faults l.chain (map chain_state (drop l.chain l.starts)) ≡ l.fn.found.items ++ chains_faults 0 (map chain_state l.starts)
