-- Where no peer is named, the empty name is asked for, which no channel has.
use Rattle.ibc_ledger.proofs.Common.{ap, ◌∙◌, Option, [], Text, channel_at, core_of}
use Rattle.std.specs.Option.{unwrap_or}
use Rattle.ibc_ledger.proofs.NamedEnds.{no_empty_name}
use Rattle.ibc_ledger.proofs.reads.named_in.Goals as goal

pub returns-in_default-clause-ok : goal.returns-in_default-clause-ok
returns-in_default-clause-ok c =
    ap (λ (o : Option Text). channel_at (core_of c.args.records.now) c.args.end.now.peer_port (unwrap_or o [])) c.in_default.is
    ∙ no_empty_name (core_of c.args.records.now) c.args.end.now.peer_port c.lemma_names_have_form.ensures
