use Rattle.ibc_machine.proofs.DataRead.{reads_data}
use Rattle.ibc_laws.proofs.lemma_packet_data_is_read_back.Goals as goal

pub returns : goal.returns
returns c = reads_data
