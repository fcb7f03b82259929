use Rattle.ibc_wire.proofs.Whole.{one_value}
use Rattle.ibc_message_codec.proofs.MessageReader.{message_reader}
use Rattle.ibc_message_codec.proofs.message.lemma_a_text_spells_one_message.Goals as goal

pub returns : goal.returns
returns c = one_value message_reader
