-- What is held is told.
use Rattle.std.proofs.Common.{◌∙◌, map, ap}
use Rattle.std.proofs.lemmas.Result.{IfOk-weaker}
use Rattle.ibc_script_cli.specs.Balances.{holding_of}
use Rattle.ibc_node_lines.specs.OtherLines.{balances_text}
use Rattle.ibc_node_lines.proofs.questions.tell_balances.Goals as goal

pub returns-in-Ok : goal.returns-in-Ok
returns-in-Ok g c =
    IfOk-weaker c.told_holdings.result _ _ (λ text is. is ∙ ap balances_text (ap (map holding_of) c.as_slice.ensures.value ∙ c.in-Ok.ensures)) c.told_holdings.ensures
