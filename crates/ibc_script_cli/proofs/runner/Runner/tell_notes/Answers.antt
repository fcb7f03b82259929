use Rattle.std.proofs.Common.{[], ◌∷◌, ℕ, ◌-◌, ◌+◌, List, arith, length, map, subst}
use Rattle.ibc_script_cli.proofs.Reaching.{goes_on, stops_on}
use Rattle.std.proofs.lemmas.Result.{err_from_is_err_and}
use Rattle.ibc_script_cli.proofs.Looks.{next_number}
use Rattle.ibc_script_cli.specs.Runs.{Reached}
use Rattle.ibc_script_cli.specs.Runs.Act.{TellNotes}
use Rattle.std.specs.List.{range_with_len}
use Rattle.ibc_script_cli.proofs.runner.Runner.tell_notes.Goals as goal

pub returns-in_err-tell_notes_of-clause-ran : goal.returns-in_err-tell_notes_of-clause-ran
returns-in_err-tell_notes_of-clause-ran g c =
    let p = err_from_is_err_and c.from_residual.result c.from_residual.ensures.1 in rw p.1
    (stops_on g.C.Chains.known c.args.self.now.names.now (TellNotes c.loop-on.on ∷ []) (map TellNotes (range_with_len (c.loop-on.on + 1) ((length c.args.self.now.names.now) - (c.loop-on.on + 1))))
    (subst (λ (l : List ℕ). Reached g.C.Chains.known c.args.self.now.names.now (map TellNotes (range_with_len 0 (length c.args.self.now.names.now))) c.args.chains.now (g.W.Write.contents c.args.output.now) (map TellNotes l) c.args.chains.now (g.W.Write.contents c.loop-on.output)) (next_number c.loop-on.on ((length c.args.self.now.names.now) - c.loop-on.on) ((length c.args.self.now.names.now) - (c.loop-on.on + 1)) (omega (arith, c.loop-on-test.true))) c.loop-on.invariant)
    c.in_err-tell_notes_of.ensures.ran)

pub loop-on-preserved : goal.loop-on-preserved
loop-on-preserved g c =
    goes_on g.C.Chains.known c.args.self.now.names.now (TellNotes c.loop-on.on ∷ []) (map TellNotes (range_with_len (c.loop-on.on + 1) ((length c.args.self.now.names.now) - (c.loop-on.on + 1))))
    (subst (λ (l : List ℕ). Reached g.C.Chains.known c.args.self.now.names.now (map TellNotes (range_with_len 0 (length c.args.self.now.names.now))) c.args.chains.now (g.W.Write.contents c.args.output.now) (map TellNotes l) c.args.chains.now (g.W.Write.contents c.loop-on.output)) (next_number c.loop-on.on ((length c.args.self.now.names.now) - c.loop-on.on) ((length c.args.self.now.names.now) - (c.loop-on.on + 1)) (omega (arith, c.loop-on-test.true))) c.loop-on.invariant)
    c.in_ok-tell_notes_of.ensures.ran
