use Rattle.std.specs.List.{All}
use Rattle.std.specs.Vec.Iter.{into_iter_items}
use Rattle.ibc_chain_replay.specs.Publishing.{IsOwnPassOf}
use Rattle.ibc_chain_replay.proofs.publishing.publishers_of.Given as goal

abbrev pub invariant-loop-pass : goal.invariant-loop-pass
invariant-loop-pass l = All (IsOwnPassOf l.table.value) (into_iter_items l.pass-iterator)
