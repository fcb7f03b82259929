-- The messages so far, and those for the packets that are left, are all.
use Rattle.std.proofs.Common.{◌≡◌, ◌++◌}
use Rattle.std.specs.List.{filter_map}
use Rattle.ibc_relayer.specs.EndPackets.{receive_message_at}
use Rattle.ibc_relayer.proofs.ends.Ends.receive_all.Given as goal

abbrev pub invariant-loop-sequence : goal.invariant-loop-sequence
invariant-loop-sequence l =
    let made = receive_message_at l.self.a.now l.self.b.now (l.self.port.now, l.self.channel.now) l.self.mine.now in
    l.messages.items ++ filter_map made l.sequence-iterator ≡ l.fn.messages.items ++ filter_map made l.self.theirs.now.commitments
