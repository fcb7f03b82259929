-- The end was found or not, and its checks decide.
use Rattle.std.proofs.Common.{Some, Ok, sym, ◌∙◌, inl}
use Rattle.ibc_wire.specs.declared.records.ConnectionState.TheVariants.{Open}
use Rattle.ibc_machine.specs.declared.reply.Effect.TheVariants as effect
use Rattle.ibc_machine.specs.chain.Records.{with_connection}
use Rattle.ibc_machine.specs.ics03.Connections.{connection_end}
use Rattle.ibc_records.specs.RecordsModel.{core_of}
use Rattle.ibc_connection.proofs.Handshake.{refused, ack_gone}
use Rattle.ibc_connection.proofs.opening_ack.judge_ack.Goals as goal

pub returns-in_default : goal.returns-in_default
returns-in_default c = λ chains seen state knows. inl (ack_gone c.args.records.now c.args.chain chains seen state c.args.message.now c.args.proofs.now c.requires c.in_default.ensures)

pub returns-in_err-check_ack : goal.returns-in_err-check_ack
returns-in_err-check_ack c = λ chains seen state knows. refused _ c.from_residual.result c.from_residual.ensures.1 (c.in_err-check_ack.ensures chains seen state knows)

pub check_ack-requires-clause-found : goal.check_ack-requires-clause-found
check_ack-requires-clause-found c = sym c.in-Some.ensures

pub returns : goal.returns
returns c = λ chains seen state knows.
    c.in_ok-check_ack.ensures chains seen state knows
    ∙ (λ i. Ok (effect.None, with_connection c.args.message.now.connection (connection_end Open ((sym c.in_ok-clone.ensures.cases) i) ((sym c.in_ok-clone-2.ensures.cases) i) (Some ((sym c.in_ok-clone-3.ensures.cases) i))) (core_of c.args.records.now)))
