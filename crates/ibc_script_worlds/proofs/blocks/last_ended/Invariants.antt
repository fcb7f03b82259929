use Rattle.ibc_script_worlds.specs.EndedBlocks.{ends_of}
use Rattle.ibc_script_worlds.proofs.FoundBlocks.{EndNoneBehind}
use Rattle.ibc_script_worlds.proofs.blocks.last_ended.Given as goal

abbrev pub invariant-loop-behind : goal.invariant-loop-behind
invariant-loop-behind l = EndNoneBehind (ends_of l.history) l.high l.behind
