-- Without a connection there is no client.
use Rattle.std.proofs.Common.{sym}
use Rattle.ibc_relayer.proofs.Tracking.{tracks_nowhere}
use Rattle.ibc_relayer.proofs.ends.tracking.Goals as goal

pub returns-in_default-clause-tracks : goal.returns-in_default-clause-tracks
returns-in_default-clause-tracks c =
    sym (tracks_nowhere c.args.a.now c.args.b.now c.args.mine.now c.lemma_names_have_form.ensures (sym c.in_default.ensures))
