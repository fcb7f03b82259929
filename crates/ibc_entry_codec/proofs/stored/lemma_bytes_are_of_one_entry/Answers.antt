use Rattle.ibc_entry_codec.proofs.StoredEntries.{of_one_entry}
use Rattle.ibc_entry_codec.proofs.stored.lemma_bytes_are_of_one_entry.Goals as goal

pub returns : goal.returns
returns c = of_one_entry
