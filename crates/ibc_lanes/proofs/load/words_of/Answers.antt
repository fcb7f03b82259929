use Rattle.ibc_lanes.proofs.Vectors.{below_four}
use Rattle.ibc_lanes.proofs.load.words_of.Goals as goal

pub returns : goal.returns
returns g c = below_four _ c.word_of.ensures c.word_of-2.ensures c.word_of-3.ensures c.word_of-4.ensures
