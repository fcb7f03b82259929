-- The texts of the lines that wait are written.
use Rattle.std.proofs.Common.{string_bytes, sym, subst}
use Rattle.std.proofs.lemmas.Result.{on_ok_weaker}
use Rattle.ibc_node_lines.specs.Told.{AreLinesText}
use Rattle.ibc_node_lines.proofs.serving.Server.write_told.Goals as goal

pub returns : goal.returns
returns g c =
    let told = c.args.self.now.told.items in
    let texts = subst (λ l. AreLinesText l (string_bytes c.in_ok-text.text)) c.as_slice.ensures.value c.in_ok-text.ensures in
    on_ok_weaker c.write.result (λ has. (c.as_str.result.now, subst (AreLinesText told) (sym c.as_str.ensures.value) texts, has)) c.write.ensures
