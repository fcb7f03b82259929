-- The line is written.
use Rattle.std.proofs.Common.{◌∙◌, subst}
use Rattle.std.proofs.lemmas.Result.{on_ok_weaker}
use Rattle.std.specs.Io.KnownBytes.{Appends}
use Rattle.ibc_node_lines.proofs.auditing.tell_lawful.Goals as goal

pub returns : goal.returns
returns g c =
    let before = g.W.Write.contents c.args.output.now in
    let after = g.W.Write.contents c.write.new.output in
    on_ok_weaker c.write.result (λ has. subst (Appends before after) (c.as_str.ensures.value ∙ c.in_ok-text.ensures) has) c.write.ensures
