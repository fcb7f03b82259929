-- The first line is written.
use Rattle.std.proofs.Common.{ap, ◌∙◌, subst}
use Rattle.std.proofs.lemmas.Result.{on_ok_weaker}
use Rattle.std.specs.Io.KnownBytes.{Appends}
use Rattle.ibc_node_lines.specs.Told.{resumed_text}
use Rattle.ibc_node_lines.proofs.serving.Server.resume.Goals as goal

pub returns : goal.returns
returns g c =
    let before = g.W.Write.contents c.args.output.now in
    let after = g.W.Write.contents c.write.new.output in
    let log_place = c.log_place.result in
    on_ok_weaker c.write.result (λ has. (log_place, subst (Appends before after) (c.as_str.ensures.value ∙ c.in_ok-text.ensures ∙ ap (λ n. resumed_text n log_place) c.entries.ensures) has))
    c.write.ensures
