-- The words that say why stand behind the number.
use Rattle.std.proofs.Common.{ap, ◌∙◌}
use Rattle.std.proofs.lemmas.Result.{IfOk-weaker}
use Rattle.ibc_ids.specs.Refusals.{number_of}
use Rattle.ibc_node_lines.specs.Told.{refused_text}
use Rattle.ibc_node_lines.proofs.lines.refused.Goals as goal

pub returns : goal.returns
returns c =
    IfOk-weaker c.refused_for.result _ _ (λ text is. is ∙ ap (λ n. refused_text n c.words_of.result.now) c.number.ensures ∙ ap (refused_text (number_of c.args.refusal)) c.words_of.ensures)
    c.refused_for.ensures
