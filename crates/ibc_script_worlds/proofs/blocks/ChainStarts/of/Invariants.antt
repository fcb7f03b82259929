use Rattle.std.proofs.Common.{◌≡◌, map, take}
use Rattle.ibc_machine.specs.declared.genesis.ChainStart.{ChainStart}
use Rattle.ibc_script_worlds.proofs.blocks.ChainStarts.of.Given as goal

abbrev pub invariant-loop-start : goal.invariant-loop-start
invariant-loop-start l = l.times.items ≡ map (λ (chain : ChainStart). chain.time) (take l.start-index l.genesis.chains.items)
