use Rattle.ibc_merkle.proofs.hashing.+update_varint.Given as goal

abbrev pub decreases-update_varint : goal.decreases-update_varint
decreases-update_varint l = l.n
