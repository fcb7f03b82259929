-- A lawful run is told.
use Rattle.std.proofs.Common.{OnOk, sym, subst}
use Rattle.ibc_node_lines.specs.Audited.{TellsLawful}
use Rattle.ibc_node_lines.proofs.auditing.tell_audit.Goals as goal

pub returns-in-Lawful-clause-told : goal.returns-in-Lawful-clause-told
returns-in-Lawful-clause-told g c =
    let before = g.W.Write.contents c.args.output.now in
    let after = g.W.Write.contents c.tell_lawful.new.output in
    subst (λ found. OnOk c.tell_lawful.result (TellsLawful found before after)) (sym c.in-Lawful.is) c.tell_lawful.ensures
