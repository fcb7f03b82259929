use Rattle.std.proofs.Common.{[], ◌∷◌, subst, sym, ◌∙◌}
use Rattle.ibc_script_cli.proofs.Reaching.{not_begun}
use Rattle.std.proofs.lemmas.Result.{err_from_is_err_and}
use Rattle.ibc_script_cli.proofs.Turns.{block_taken, message_taken, no_turn}
use Rattle.ibc_script_cli.proofs.Writing.{nothing_more}
use Rattle.ibc_script_cli.specs.Runs.{Reached}
use Rattle.ibc_script_cli.specs.Runs.Act.{Open}
use Rattle.ibc_script.specs.declared.event_kind.EventKind.{EventKind}
use Rattle.ibc_script_cli.proofs.runner.Runner.take_turn.Goals as goal

pub returns-in_default-clause-ran : goal.returns-in_default-clause-ran
returns-in_default-clause-ran g c turns =
    block_taken g.C.Chains.known c.args.self.now.names.now c.args.side turns c.args.opening.now c.args.chains.now c.end_and_tell.result c.end_and_tell.new.chains (g.W.Write.contents c.args.output.now) (g.W.Write.contents c.end_and_tell.new.output) c.chain-on.result c.chain-on.ensures c.args.kind c.in_default.not-Message c.end_and_tell.ensures.told

pub returns-in_err-draft-clause-ran : goal.returns-in_err-draft-clause-ran
returns-in_err-draft-clause-ran g c turns =
    let p = err_from_is_err_and c.from_residual.result c.from_residual.ensures.1 in rw p.1 (not_begun g.C.Chains.known c.args.self.now.names.now (nothing_more (g.W.Write.contents c.args.output.now)))

pub returns-in-Some-clause-ran : goal.returns-in-Some-clause-ran
returns-in-Some-clause-ran g c turns =
    message_taken g.C.Chains.known c.args.self.now.names.now c.args.side turns c.args.opening.now c.args.chains.now c.submit_and_tell.result c.submit_and_tell.new.chains (g.W.Write.contents c.args.output.now) (g.W.Write.contents c.submit_and_tell.new.output) c.chain-on.result c.chain-on.ensures c.args.kind c.in-Message.kind c.in-Some.draft c.in-Message.is (sym c.in_ok-draft.ensures.made ∙ c.in-Some.is) c.submit_and_tell.ensures.told

pub returns-in-None-clause-ran : goal.returns-in-None-clause-ran
returns-in-None-clause-ran g c turns =
    subst (λ (k : EventKind). Reached g.C.Chains.known c.args.self.now.names.now (Open ((c.args.side, k) ∷ turns) c.args.opening.now ∷ []) c.args.chains.now (g.W.Write.contents c.args.output.now) [] c.args.chains.now (g.W.Write.contents c.args.output.now)) (sym c.in-Message.is)
    (no_turn g.C.Chains.known c.args.self.now.names.now c.args.side c.in-Message.kind turns c.args.opening.now c.args.chains.now (g.W.Write.contents c.args.output.now) (sym c.in_ok-draft.ensures.made ∙ c.in-None.is))
