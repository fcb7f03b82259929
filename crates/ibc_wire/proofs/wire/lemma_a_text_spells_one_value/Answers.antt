use Rattle.ibc_wire.proofs.Whole.{one_value}
use Rattle.ibc_wire.proofs.wire.lemma_a_text_spells_one_value.Goals as goal

pub returns : goal.returns
returns g c = one_value c.lemma_reads_what_is_spelled.ensures
