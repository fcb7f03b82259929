use Rattle.std.proofs.Common.{Some, Ok, Err, subst, Option}
use Rattle.ibc_script_cli.proofs.Reaching.{not_begun}
use Rattle.std.proofs.lemmas.Result.{err_from_is_err_and}
use Rattle.ibc_script.specs.declared.fault.Fault.{Fault}
use Rattle.ibc_script_cli.proofs.Writing.{nothing_more}
use Rattle.ibc_script_cli.proofs.Turns.{sent}
use Rattle.ibc_script_cli.specs.Runs.{WritesText, answer_line}
use Rattle.ibc_wire.specs.declared.messages.MessageKind.{MessageKind}
use Rattle.ibc_machine.specs.declared.reply.Effect.{Effect}
use Rattle.ibc_script.specs.declared.event_kind.EventKind.TheVariants as kind
use Rattle.ibc_script_cli.proofs.runner.Runner.send.Goals as goal

pub returns-in_err-reply-clause-ran : goal.returns-in_err-reply-clause-ran
returns-in_err-reply-clause-ran g c =
    let p = err_from_is_err_and c.from_residual.result c.from_residual.ensures.1 in rw p.1 (not_begun g.C.Chains.known c.args.self.now.names.now (nothing_more (g.W.Write.contents c.args.output.now)))

pub returns-in_err-tell-clause-ran : goal.returns-in_err-tell-clause-ran
returns-in_err-tell-clause-ran g c =
    let before = (g.W.Write.contents c.args.output.now) in
    let after = (g.W.Write.contents c.tell.new.output) in
    let p = err_from_is_err_and c.from_residual-in_err-tell.result c.from_residual-in_err-tell.ensures.1 in rw p.1
    (sent g.C.Chains.known c.args.self.now.names.now {T = Option Effect} c.args.on c.args.message c.args.chains.now c.ask.new.chains (Err c.in_err-tell.field-0.0) before after c.in_ok-reply.reply c.in_ok-reply.ensures.reply
    (subst (λ (k : MessageKind). WritesText {T = Option Effect} (Err c.in_err-tell.field-0.0) before after (answer_line c.args.self.now.names.now c.args.on (kind.Message k) (Some c.in_ok-reply.reply))) c.kind.ensures c.in_err-tell.ensures.written))

pub returns-clause-ran : goal.returns-clause-ran
returns-clause-ran g c =
    let before = (g.W.Write.contents c.args.output.now) in
    let after = (g.W.Write.contents c.tell.new.output) in
    sent g.C.Chains.known c.args.self.now.names.now {E = Fault} c.args.on c.args.message c.args.chains.now c.ask.new.chains (Ok c.in_ok-tell.field-0) before after c.in_ok-reply.reply c.in_ok-reply.ensures.reply
    (subst (λ (k : MessageKind). WritesText {E = Fault} (Ok c.in_ok-tell.field-0) before after (answer_line c.args.self.now.names.now c.args.on (kind.Message k) (Some c.in_ok-reply.reply))) c.kind.ensures c.in_ok-tell.ensures.written)
