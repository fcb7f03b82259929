use Rattle.std.proofs.Common.{List, subst}
use Rattle.sqlite.specs.Held.{state}
use Rattle.ibc_ids.specs.Texts.{Text}
use Rattle.ibc_node_lines.specs.Desks.{RunsStep}
use Rattle.ibc_node_lines.proofs.serving.Server.ask_by.Goals as goal

pub returns-clause-answers : goal.returns-clause-answers
returns-clause-answers g c = c.in_ok-act.ensures.tells

pub returns-clause-ran : goal.returns-clause-ran
returns-clause-ran g c =
    let was = c.args.self.now.desk.node in
    subst (λ (names : List Text). RunsStep (state g.S.Store) names c.args.log_place c.args.step was c.in_ok-act.field-0.items c.act.new.self.node) c.as_slice.ensures.value c.in_ok-act.ensures.ran
