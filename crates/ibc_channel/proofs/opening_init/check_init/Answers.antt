-- Each check of the code is the definition's, behind those before it.
use Rattle.std.proofs.Common.{sym, inl, inr}
use Rattle.ibc_machine.proofs.PassedChecks.{pass, fail}
use Rattle.ibc_records.proofs.Judging.{ends}
use Rattle.ibc_channel.proofs.Handshake.{refused, port_there, port_gone, init_checks}
use Rattle.ibc_channel.proofs.opening_init.check_init.Goals as goal

pub returns-in_default-clause-judged : goal.returns-in_default-clause-judged
returns-in_default-clause-judged g c = λ chain chains seen state knows. inl (fail _ (port_gone c.in_default.is) (init_checks _ _ _ _ _ _))

pub returns-in_err-check_connection-clause-judged : goal.returns-in_err-check_connection-clause-judged
returns-in_err-check_connection-clause-judged g c = λ chain chains seen state knows.
    refused _ c.from_residual.result c.from_residual.ensures.1 (inl (fail _ (sym c.in_err-check_connection.ensures) (pass (port_there c.in-Some.is) (init_checks _ _ _ _ _ _))))

pub returns-in_err-on_open-clause-judged : goal.returns-in_err-on_open-clause-judged
returns-in_err-on_open-clause-judged g c = λ chain chains seen state knows.
    refused _ c.from_residual-in_err-on_open.result c.from_residual-in_err-on_open.ensures.1 (inl (fail _ (sym c.in_err-on_open.ensures) (pass (sym c.in_ok-check_connection.ensures) (pass (port_there c.in-Some.is) (init_checks _ _ _ _ _ _)))))

pub returns-clause-judged : goal.returns-clause-judged
returns-clause-judged g c = λ chain chains seen state knows. ends _ _ c.check_number.result (inr c.check_number.ensures.checked) (pass (sym c.in_ok-on_open.ensures) (pass (sym c.in_ok-check_connection.ensures) (pass (port_there c.in-Some.is) (init_checks _ _ _ _ _ _))))
