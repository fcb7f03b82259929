use Rattle.std.proofs.Common.{refl, Some}
use Rattle.ibc_script.specs.declared.event_kind.EventKind.TheVariants as kind
use Rattle.ibc_script_cli.specs.Runs.{EndsBy, answer_line}
use Rattle.ibc_script_cli.proofs.Turns.{is_told}
use Rattle.ibc_script_cli.proofs.runner.Runner.end_and_tell.Goals as goal

pub returns-clause-told : goal.returns-clause-told
returns-clause-told g c =
    is_told (EndsBy g.C.Chains.known c.args.chains.now c.args.on c.args.time) (answer_line c.args.self.now.names.now c.args.on kind.Block) c.tell.result c.end_block.new.chains
    (g.W.Write.contents c.args.output.now) (g.W.Write.contents c.tell.new.output) (Some c.in_ok-reply.reply) (c.in_ok-reply.reply, c.in_ok-reply.ensures.answer, refl)
    c.tell.ensures.written c.tell.ensures.given
