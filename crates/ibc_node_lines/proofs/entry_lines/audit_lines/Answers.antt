-- What ends well was told.
use Rattle.std.proofs.Common.{Option}
use Rattle.std.proofs.lemmas.Result.{on_ok_weaker}
use Rattle.ibc_ids.specs.Texts.{Text}
use Rattle.ibc_node.specs.declared.auditing.JournalAudit.{JournalAudit}
use Rattle.ibc_node.specs.declared.auditing.JournalAudit.TheVariants as found
use Rattle.ibc_node_lines.specs.Audited.{TellsLawful, TellsSomeLawful}
use Rattle.ibc_node_lines.proofs.entry_lines.audit_lines.Goals as goal

lawful_of_some : (before after : Option Text) (audit : JournalAudit) → TellsLawful audit before after → TellsSomeLawful before after
lawful_of_some before after (found.Lawful entries) told = (entries, told)
lawful_of_some before after (found.Differs why) told = absurd told

pub returns : goal.returns
returns g c =
    let before = g.W.Write.contents c.args.output.now in
    let after = g.W.Write.contents c.tell_audit-told.new.output in
    on_ok_weaker c.tell_audit-told.result (λ told. lawful_of_some before after c.in_ok-found.found told) c.tell_audit-told.ensures.told
