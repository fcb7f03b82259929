-- The answer that is due stands before the one that is kept.
use Rattle.std.proofs.Common.{option_copied, sym, subst}
use Rattle.std.proofs.lemmas.Result.{IfOk-weaker}
use Rattle.ibc_node_lines.specs.OtherLines.{IsAnsweredText, IsDueText}
use Rattle.ibc_node_lines.proofs.answers.unlawful.Goals as goal

pub returns : goal.returns
returns c =
    let due = subst (IsDueText (option_copied c.args.due)) (sym c.as_str.ensures.value) c.in_ok-due.ensures in
    let kept = subst (IsAnsweredText c.args.kept.now) (sym c.as_str-2.ensures.value) c.in_ok-kept.ensures in
    IfOk-weaker c.both_in.result _ _ (λ text is. (c.as_str.result.now, c.as_str-2.result.now, due, kept, is)) c.both_in.ensures
