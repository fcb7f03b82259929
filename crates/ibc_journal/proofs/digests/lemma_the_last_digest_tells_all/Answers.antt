use Rattle.ibc_journal.proofs.Pinned.{last_digest_tells_all}
use Rattle.ibc_journal.proofs.digests.lemma_the_last_digest_tells_all.Goals as goal

pub returns : goal.returns
returns c = last_digest_tells_all
