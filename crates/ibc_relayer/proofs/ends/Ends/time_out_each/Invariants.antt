-- The messages so far, and those for the packets that are left, are all; and what is kept is the proof of the peer's end.
use Rattle.std.proofs.Common.{◌≡◌, ◌++◌}
use Rattle.std.specs.List.{filter_map}
use Rattle.ibc_relayer.specs.EndPackets.{IsClosedProof, timeout_message_at}
use Rattle.ibc_relayer.proofs.ends.Ends.time_out_each.Given as goal

abbrev pub invariant-loop-sequence : goal.invariant-loop-sequence
invariant-loop-sequence l = record {
  made : let made = timeout_message_at l.self.a.now (l.self.port.now, l.self.channel.now) l.self.mine.now l.self.theirs.now in
      l.messages.items ++ filter_map made l.sequence-iterator ≡ l.fn.messages.items ++ filter_map made l.self.mine.now.commitments;
  kept : IsClosedProof l.self.a.now l.self.mine.now l.closed;
}
