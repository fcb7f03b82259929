-- What was written stays when it goes out.
use Rattle.std.proofs.Common.{subst}
use Rattle.std.specs.Io.KnownBytes.{Appends}
use Rattle.ibc_script_cli.proofs.Writing.{appends_kept}
use Rattle.ibc_node.proofs.Opened.{rests_on}
use Rattle.ibc_node_lines.proofs.serving.write.Goals as goal

pub returns-in-Ok : goal.returns-in-Ok
returns-in-Ok g c =
    let before = g.W.Write.contents c.args.output.now in
    let mid = g.W.Write.contents c.write_all.new.self in
    let after = g.W.Write.contents c.flush.new.output in
    rests_on c.flush.result (appends_kept before mid after c.args.text.now (subst (Appends before mid) c.as_bytes.ensures.value c.in-Ok.ensures.bytes) c.flush.ensures)
