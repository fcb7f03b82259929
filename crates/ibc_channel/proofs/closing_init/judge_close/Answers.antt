-- Each check of the code is the definition's, behind those before it.
use Rattle.std.proofs.Common.{sym, inl}
use Rattle.ibc_wire.specs.declared.records.ChannelState.TheVariants.{Closed}
use Rattle.ibc_machine.proofs.PassedChecks.{pass, fail}
use Rattle.ibc_records.proofs.Judging.{stops_at, made}
use Rattle.ibc_channel.specs.ChannelHandshake.{end_in_state}
use Rattle.ibc_channel.proofs.Handshake.{refused, close_init_checks, close_init_found}
use Rattle.ibc_channel.proofs.closing_init.judge_close.Goals as goal

pub returns-in_err-mine-clause-judged : goal.returns-in_err-mine-clause-judged
returns-in_err-mine-clause-judged g c = λ chain chains seen state knows. refused _ c.from_residual.result c.from_residual.ensures.1 (stops_at _ c.in_err-mine.ensures.err (close_init_checks _ _ _ _ _))

pub returns-in_err-check_state-clause-judged : goal.returns-in_err-check_state-clause-judged
returns-in_err-check_state-clause-judged g c = λ chain chains seen state knows.
    refused _ c.from_residual-in_err-check_state.result c.from_residual-in_err-check_state.ensures.1 (inl (fail _ (sym c.in_err-check_state.ensures) (close_init_found _ _ _ _ _ _ c.in_ok-mine.ensures.ok)))

pub returns-in_err-on_close-clause-judged : goal.returns-in_err-on_close-clause-judged
returns-in_err-on_close-clause-judged g c = λ chain chains seen state knows.
    refused _ c.from_residual-in_err-on_close.result c.from_residual-in_err-on_close.ensures.1 (inl (fail _ (sym c.in_err-on_close.ensures) (pass (sym c.in_ok-check_state.ensures) (close_init_found _ _ _ _ _ _ c.in_ok-mine.ensures.ok))))

pub returns-clause-judged : goal.returns-clause-judged
returns-clause-judged g c = λ chain chains seen state knows.
    made _ _ (end_in_state Closed c.in_ok-mine.mine.now) c.move_end.result
    (pass (sym c.in_ok-on_close.ensures) (pass (sym c.in_ok-check_state.ensures) (close_init_found _ _ _ _ _ _ c.in_ok-mine.ensures.ok))) c.move_end.ensures.ok c.move_end.ensures.err
