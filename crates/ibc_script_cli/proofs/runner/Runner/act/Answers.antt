use Rattle.std.proofs.Common.{[], ◌∷◌, ap, subst, sym, refl, Ok, Err}
use Rattle.ibc_script_cli.proofs.Reaching.{begins, in_its_place}
use Rattle.std.proofs.lemmas.Result.{err_from_is_err_and}
use Rattle.ibc_script.specs.declared.fault.Fault.{Fault}
use Rattle.ibc_script_cli.proofs.Turns.{block_step, message_step}
use Rattle.ibc_script_cli.specs.Runs.{Reached, Runs, StopsIn, asking_acts, relay_acts}
use Rattle.ibc_script_cli.specs.Runs.Act.{Open, Take}
use Rattle.ibc_script.specs.declared.script.Step.{Step}
use Rattle.ibc_script.specs.declared.script.Step.TheVariants as step
use Rattle.ibc_script_cli.specs.Opening.{turns_of_open}
use Rattle.ibc_script_cli.proofs.runner.Runner.act.Goals as goal

pub returns-in_err-submit_and_tell-in-Message-clause-ran : goal.returns-in_err-submit_and_tell-in-Message-clause-ran
returns-in_err-submit_and_tell-in-Message-clause-ran g c =
    let p = err_from_is_err_and c.from_residual.result c.from_residual.ensures.1 in rw p.1
    (subst (λ (s : Step). StopsIn g.C.Chains.known c.args.self.now.names.now (asking_acts s) c.args.chains.now (g.W.Write.contents c.args.output.now) (g.W.Write.contents c.submit_and_tell.new.output)) (sym c.in-Message.is)
    (message_step g.C.Chains.known c.args.self.now.names.now {E = Fault} c.in-Message.on c.in-Message.draft c.args.chains.now (Err c.in_err-submit_and_tell-in-Message.field-0.0) c.submit_and_tell.new.chains (g.W.Write.contents c.args.output.now) (g.W.Write.contents c.submit_and_tell.new.output) c.in_err-submit_and_tell-in-Message.ensures.told))

pub returns-in-Message-clause-ran : goal.returns-in-Message-clause-ran
returns-in-Message-clause-ran g c =
    subst (λ (s : Step). Reached g.C.Chains.known c.args.self.now.names.now (asking_acts s) c.args.chains.now (g.W.Write.contents c.args.output.now) [] c.submit_and_tell.new.chains (g.W.Write.contents c.submit_and_tell.new.output)) (sym c.in-Message.is)
    (message_step g.C.Chains.known c.args.self.now.names.now {E = Fault} c.in-Message.on c.in-Message.draft c.args.chains.now (Ok c.in_ok-submit_and_tell-in-Message.field-0) c.submit_and_tell.new.chains (g.W.Write.contents c.args.output.now) (g.W.Write.contents c.submit_and_tell.new.output) c.in_ok-submit_and_tell-in-Message.ensures.told)

pub returns-in_err-end_and_tell-in-Block-clause-ran : goal.returns-in_err-end_and_tell-in-Block-clause-ran
returns-in_err-end_and_tell-in-Block-clause-ran g c =
    let p = err_from_is_err_and c.from_residual-in_err-end_and_tell-in-Block.result c.from_residual-in_err-end_and_tell-in-Block.ensures.1 in rw p.1
    (subst (λ (s : Step). StopsIn g.C.Chains.known c.args.self.now.names.now (asking_acts s) c.args.chains.now (g.W.Write.contents c.args.output.now) (g.W.Write.contents c.end_and_tell.new.output)) (sym c.in-Block.is)
    (block_step g.C.Chains.known c.args.self.now.names.now {E = Fault} c.in-Block.on c.in-Block.time c.args.chains.now (Err c.in_err-end_and_tell-in-Block.field-0.0) c.end_and_tell.new.chains (g.W.Write.contents c.args.output.now) (g.W.Write.contents c.end_and_tell.new.output) c.in_err-end_and_tell-in-Block.ensures.told))

pub returns-in-Block-clause-ran : goal.returns-in-Block-clause-ran
returns-in-Block-clause-ran g c =
    subst (λ (s : Step). Reached g.C.Chains.known c.args.self.now.names.now (asking_acts s) c.args.chains.now (g.W.Write.contents c.args.output.now) [] c.end_and_tell.new.chains (g.W.Write.contents c.end_and_tell.new.output)) (sym c.in-Block.is)
    (block_step g.C.Chains.known c.args.self.now.names.now {E = Fault} c.in-Block.on c.in-Block.time c.args.chains.now (Ok c.in_ok-end_and_tell-in-Block.field-0) c.end_and_tell.new.chains (g.W.Write.contents c.args.output.now) (g.W.Write.contents c.end_and_tell.new.output) c.in_ok-end_and_tell-in-Block.ensures.told)

pub returns-in-Open-clause-ran : goal.returns-in-Open-clause-ran
returns-in-Open-clause-ran g c =
    subst (λ (s : Step). Runs g.C.Chains.known c.args.self.now.names.now (asking_acts s) c.«open».result c.args.chains.now (g.W.Write.contents c.args.output.now) c.«open».new.chains (g.W.Write.contents c.«open».new.output)) (sym c.in-Open.is)
    (in_its_place g.C.Chains.known c.args.self.now.names.now c.«open».result (Take (step.Open c.in-Open.first c.in-Open.second c.in-Open.application)) c.args.chains.now c.args.chains.now c.«open».new.chains (g.W.Write.contents c.args.output.now) (g.W.Write.contents c.«open».new.output) (Open turns_of_open c.new.result ∷ []) (refl, (refl, ap (λ o. Open turns_of_open o ∷ []) c.new.ensures)) c.«open».ensures.ran)

pub returns-in-Relay-clause-ran : goal.returns-in-Relay-clause-ran
returns-in-Relay-clause-ran g c =
    subst (λ (s : Step). Runs g.C.Chains.known c.args.self.now.names.now (asking_acts s) c.relay.result c.args.chains.now (g.W.Write.contents c.args.output.now) c.relay.new.chains (g.W.Write.contents c.relay.new.output)) (sym c.in-Relay.is)
    (in_its_place g.C.Chains.known c.args.self.now.names.now c.relay.result (Take (step.Relay c.in-Relay.first c.in-Relay.second c.in-Relay.turns)) c.args.chains.now c.args.chains.now c.relay.new.chains (g.W.Write.contents c.args.output.now) (g.W.Write.contents c.relay.new.output) (relay_acts c.in-Relay.first c.in-Relay.second c.in-Relay.turns) (refl, (refl, refl)) c.relay.ensures.ran)

pub returns-in-Root-clause-ran : goal.returns-in-Root-clause-ran
returns-in-Root-clause-ran g c =
    subst (λ (s : Step). Reached g.C.Chains.known c.args.self.now.names.now (asking_acts s) c.args.chains.now (g.W.Write.contents c.args.output.now) [] c.args.chains.now (g.W.Write.contents c.args.output.now)) (sym c.in-Root.is)
    (begins g.C.Chains.known c.args.self.now.names.now)

pub returns-in-Prove-clause-ran : goal.returns-in-Prove-clause-ran
returns-in-Prove-clause-ran g c =
    subst (λ (s : Step). Reached g.C.Chains.known c.args.self.now.names.now (asking_acts s) c.args.chains.now (g.W.Write.contents c.args.output.now) [] c.args.chains.now (g.W.Write.contents c.args.output.now)) (sym c.in-Prove.is)
    (begins g.C.Chains.known c.args.self.now.names.now)

pub returns-clause-ran : goal.returns-clause-ran
returns-clause-ran g c =
    subst (λ (s : Step). Reached g.C.Chains.known c.args.self.now.names.now (asking_acts s) c.args.chains.now (g.W.Write.contents c.args.output.now) [] c.args.chains.now (g.W.Write.contents c.args.output.now)) (sym c.in-Totals.is)
    (begins g.C.Chains.known c.args.self.now.names.now)
