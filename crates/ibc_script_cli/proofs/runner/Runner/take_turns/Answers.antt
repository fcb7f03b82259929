use Rattle.std.proofs.Common.{[], ◌∷◌, ◌+◌, List, Option, drop, get_or, refl, subst, sym}
use Rattle.ibc_script_cli.proofs.Reaching.{and_then, leads, stops_on}
use Rattle.std.proofs.lemmas.Result.{err_from_is_err_and}
use Rattle.ibc_script_cli.specs.Runs.{Reached, opened}
use Rattle.ibc_script_cli.specs.Runs.Act.{Open}
use Rattle.std.proofs.lemmas.List.{drop_all, drop_more}
use Rattle.ibc_machine.specs.declared.reply.Effect.{Effect}
use Rattle.ibc_script.specs.declared.event_kind.EventKind.{EventKind}
use Rattle.ibc_script.specs.declared.event_kind.EventKind.TheVariants.{Message}
use Rattle.ibc_wire.specs.declared.messages.MessageKind.TheVariants.{CreateClient}
use Rattle.ibc_script_cli.specs.declared.opening.Handshake.{Handshake}
use Rattle.ibc_script_cli.specs.declared.opening.HandshakeSide.{HandshakeSide}
use Rattle.ibc_script_cli.specs.declared.opening.HandshakeSide.TheVariants.{First}
use Rattle.ibc_script_cli.proofs.runner.Runner.take_turns.Goals as goal

pub returns-in_err-effect-clause-ran : goal.returns-in_err-effect-clause-ran
returns-in_err-effect-clause-ran g c =
    let p = err_from_is_err_and c.from_residual.result c.from_residual.ensures.1 in rw p.1 (stops_on g.C.Chains.known c.args.self.now.names.now (Open (((get_or c.args.turns.now c.loop-side.side-index (First, Message CreateClient)).0, (get_or c.args.turns.now c.loop-side.side-index (First, Message CreateClient)).1) ∷ (drop (c.loop-side.side-index + 1) c.args.turns.now)) c.loop-side.opening ∷ []) [] (subst (λ (ts : List (HandshakeSide × EventKind)). Reached g.C.Chains.known c.args.self.now.names.now (Open c.args.turns.now c.args.opening.now ∷ []) c.args.chains.now (g.W.Write.contents c.args.output.now) (Open ts c.loop-side.opening ∷ []) c.loop-side.chains (g.W.Write.contents c.loop-side.output)) (drop_more c.args.turns.now c.loop-side.side-index (First, Message CreateClient) c.loop-side-test.true) c.loop-side.invariant) (c.in_err-effect.ensures.ran (drop (c.loop-side.side-index + 1) c.args.turns.now)))

pub returns-in-None-clause-ran : goal.returns-in-None-clause-ran
returns-in-None-clause-ran g c =
    and_then g.C.Chains.known c.args.self.now.names.now (subst (λ (ts : List (HandshakeSide × EventKind)). Reached g.C.Chains.known c.args.self.now.names.now (Open c.args.turns.now c.args.opening.now ∷ []) c.args.chains.now (g.W.Write.contents c.args.output.now) (Open ts c.loop-side.opening ∷ []) c.loop-side.chains (g.W.Write.contents c.loop-side.output)) (drop_more c.args.turns.now c.loop-side.side-index (First, Message CreateClient) c.loop-side-test.true) c.loop-side.invariant) (subst (λ (given : Option Effect). Reached g.C.Chains.known c.args.self.now.names.now (Open (((get_or c.args.turns.now c.loop-side.side-index (First, Message CreateClient)).0, (get_or c.args.turns.now c.loop-side.side-index (First, Message CreateClient)).1) ∷ (drop (c.loop-side.side-index + 1) c.args.turns.now)) c.loop-side.opening ∷ []) c.loop-side.chains (g.W.Write.contents c.loop-side.output) (opened (drop (c.loop-side.side-index + 1) c.args.turns.now) (get_or c.args.turns.now c.loop-side.side-index (First, Message CreateClient)).0 c.loop-side.opening given) c.take_turn.new.chains (g.W.Write.contents c.take_turn.new.output)) c.in-None.is (c.in_ok-effect.ensures.ran (drop (c.loop-side.side-index + 1) c.args.turns.now)))

pub loop-side-preserved : goal.loop-side-preserved
loop-side-preserved g c =
    subst (λ (o : Handshake). Reached g.C.Chains.known c.args.self.now.names.now (Open c.args.turns.now c.args.opening.now ∷ []) c.args.chains.now (g.W.Write.contents c.args.output.now) (Open (drop (c.loop-side.side-index + 1) c.args.turns.now) o ∷ []) c.take_turn.new.chains (g.W.Write.contents c.take_turn.new.output)) (sym c.learn.ensures)
    (and_then g.C.Chains.known c.args.self.now.names.now (subst (λ (ts : List (HandshakeSide × EventKind)). Reached g.C.Chains.known c.args.self.now.names.now (Open c.args.turns.now c.args.opening.now ∷ []) c.args.chains.now (g.W.Write.contents c.args.output.now) (Open ts c.loop-side.opening ∷ []) c.loop-side.chains (g.W.Write.contents c.loop-side.output)) (drop_more c.args.turns.now c.loop-side.side-index (First, Message CreateClient) c.loop-side-test.true) c.loop-side.invariant) (subst (λ (given : Option Effect). Reached g.C.Chains.known c.args.self.now.names.now (Open (((get_or c.args.turns.now c.loop-side.side-index (First, Message CreateClient)).0, (get_or c.args.turns.now c.loop-side.side-index (First, Message CreateClient)).1) ∷ (drop (c.loop-side.side-index + 1) c.args.turns.now)) c.loop-side.opening ∷ []) c.loop-side.chains (g.W.Write.contents c.loop-side.output) (opened (drop (c.loop-side.side-index + 1) c.args.turns.now) (get_or c.args.turns.now c.loop-side.side-index (First, Message CreateClient)).0 c.loop-side.opening given) c.take_turn.new.chains (g.W.Write.contents c.take_turn.new.output)) c.in-Some.is (c.in_ok-effect.ensures.ran (drop (c.loop-side.side-index + 1) c.args.turns.now))))

pub returns-clause-ran : goal.returns-clause-ran
returns-clause-ran g c =
    and_then g.C.Chains.known c.args.self.now.names.now
    (subst (λ (ts : List (HandshakeSide × EventKind)). Reached g.C.Chains.known c.args.self.now.names.now (Open c.args.turns.now c.args.opening.now ∷ []) c.args.chains.now (g.W.Write.contents c.args.output.now) (Open ts c.loop-side.opening ∷ []) c.loop-side.chains (g.W.Write.contents c.loop-side.output)) (drop_all c.loop-side.side-index c.args.turns.now c.loop-side-test.false) c.loop-side.invariant)
    (leads g.C.Chains.known c.args.self.now.names.now (Open [] c.loop-side.opening) [] [] (refl, refl, refl))
