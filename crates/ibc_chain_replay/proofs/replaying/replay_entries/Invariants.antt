use Rattle.std.proofs.Common.{◌≡◌, ◌++◌, length}
use Rattle.std.specs.Vec.Iter.{into_iter_items, into_iter_len}
use Rattle.ibc_chain_replay.specs.ChainReplays.{HasHistory, heights_in}
use Rattle.ibc_chain_replay.proofs.replaying.replay_entries.Given as goal

abbrev pub invariant-loop-stored : goal.invariant-loop-stored
invariant-loop-stored l = record {
  so_far : HasHistory l.fn.ledger.ledger.genesis l.fn.ledger.ledger.chain (heights_in l.fn.published) l.yielded l.ledger.ledger;
  whole : l.yielded ++ into_iter_items l.stored-iterator ≡ l.fn.entries.items;
  left : into_iter_len l.stored-iterator ≡ length (into_iter_items l.stored-iterator);
  place : l.place ≡ length l.yielded;
}
