use Rattle.std.proofs.Common.{length}
use Rattle.ibc_world_core.proofs.gathering.+lemma_know_all.Given as goal

abbrev pub decreases-lemma_know_all : goal.decreases-lemma_know_all
decreases-lemma_know_all l = length l.ledgers.now
