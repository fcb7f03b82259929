-- The hash of a leaf, of its key and its value's hash (ICS 23, "LeafOp").
use Rattle.std.specs.Prelude.{◌≡◌, List, [], ◌∷◌, ◌++◌, length, slice_index_or}
use Rattle.ibc_ids.specs.Texts.{Text}
use Rattle.ibc_merkle.specs.Hash.{hash, leaf_mark, varint}

abbrev pub text_of_leaf : Text → Text → Text
text_of_leaf key value = leaf_mark ++ varint (length key) ++ key ++ 0x20 ∷ value

abbrev pub hash_of_leaf : Text → Text → Text
hash_of_leaf key value = hash (text_of_leaf key value)

-- the hashes of four leaves, of their keys and their values' hashes
abbrev pub AreLeafHashes : Text → Text → Text → Text → List Text → List Text → Type 0
AreLeafHashes first second third fourth values result =
    result ≡ hash_of_leaf first (slice_index_or values 0 []) ∷ hash_of_leaf second (slice_index_or values 1 [])
    ∷ hash_of_leaf third (slice_index_or values 2 []) ∷ hash_of_leaf fourth (slice_index_or values 3 []) ∷ []
