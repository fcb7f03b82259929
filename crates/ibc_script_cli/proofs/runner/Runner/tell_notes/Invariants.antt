use Rattle.std.proofs.Common.{◌-◌, map, length}
use Rattle.std.specs.List.{range_with_len}
use Rattle.ibc_script_cli.specs.Runs.{Reached}
use Rattle.ibc_script_cli.specs.Runs.Act.{TellNotes}
use Rattle.ibc_script_cli.proofs.runner.Runner.tell_notes.Given as goal

abbrev pub invariant-loop-on : goal.invariant-loop-on
invariant-loop-on g l =
    Reached g.C.Chains.known l.self.names.now (map TellNotes (range_with_len 0 (length l.self.names.now))) l.chains (g.W.Write.contents l.fn.output)
    (map TellNotes (range_with_len l.on (length l.self.names.now - l.on))) l.chains (g.W.Write.contents l.output)
