use Rattle.std.proofs.Common.{subst}
use Rattle.ibc_wire.specs.declared.messages.MessageKind.{MessageKind}
use Rattle.ibc_script.specs.EventKinds.{draft_kind}
use Rattle.ibc_script.specs.declared.event_kind.EventKind.TheVariants as kind
use Rattle.ibc_script_cli.specs.Runs.{Submits, WritesText, answer_line}
use Rattle.ibc_script_cli.proofs.Turns.{is_told}
use Rattle.ibc_script_cli.proofs.runner.Runner.submit_and_tell.Goals as goal

pub returns-clause-told : goal.returns-clause-told
returns-clause-told g c =
    let before = g.W.Write.contents c.args.output.now in
    let after = g.W.Write.contents c.tell.new.output in
    is_told (Submits g.C.Chains.known c.args.chains.now c.args.on c.args.draft)
    (answer_line c.args.self.now.names.now c.args.on (kind.Message (draft_kind c.args.draft))) c.tell.result c.submit.new.chains
    before after c.in_ok-answer.answer c.in_ok-answer.ensures.answer
    (subst (λ (k : MessageKind). WritesText c.tell.result before after (answer_line c.args.self.now.names.now c.args.on (kind.Message k) c.in_ok-answer.answer)) c.kind.ensures c.tell.ensures.written)
    c.tell.ensures.given
