-- The digests of four messages of two blocks.
use Rattle.std.proofs.Common.{◌≡◌, ℕ, List, [], ◌∷◌, length, take, drop, map, slice_index_or, refl, sym, ap, ◌∙◌}
use Rattle.sha2.specs.Sha256.{compress, digest_bytes, initial_hash_256, padded_message, sha256}
use Rattle.ibc_merkle.specs.Hash.{inner_text}
use Rattle.ibc_lanes.specs.declared.inner.InnerPair.{InnerPair}
use Rattle.ibc_lanes.specs.Inner.{pair_hash}
use Rattle.ibc_lanes.proofs.Blocks.{two_blocks}
use Rattle.ibc_lanes.proofs.Vectors.{four_elements}

-- the digest of a message, from its padded text and the hash values after each of the two blocks
pub digested : (m text first second last digest : List ℕ) → text ≡ padded_message m → length (padded_message m) ≡ 128
    → first ≡ initial_hash_256 → second ≡ compress first (take 64 (drop 0 text)) → last ≡ compress second (take 64 (drop 64 text))
    → digest ≡ digest_bytes last 8 → digest ≡ sha256 m
digested m text first second last digest et len e1 e2 e3 ed = rw (ed, e3, e2, e1, et) (two_blocks m len)

-- no pair
abbrev pub none : InnerPair
none = record { left = []; right = [] }

pub pair_digested : (pair : InnerPair) (text first second last digest : List ℕ) → length text ≡ 128
    → text ≡ padded_message (inner_text pair.left pair.right)
    → first ≡ initial_hash_256 → second ≡ compress first (take 64 (drop 0 text)) → last ≡ compress second (take 64 (drop 64 text))
    → digest ≡ digest_bytes last 8 → digest ≡ pair_hash pair
pair_digested pair text first second last digest long padded =
    digested (inner_text pair.left pair.right) text first second last digest padded (sym (ap length padded) ∙ long)

-- four answers are those of a list of four
pub mapped_four : {X Y : Type 0} (f : X → Y) (d : X) (xs : List X) → length xs ≡ 4
    → f (slice_index_or xs 0 d) ∷ f (slice_index_or xs 1 d) ∷ f (slice_index_or xs 2 d) ∷ f (slice_index_or xs 3 d) ∷ [] ≡ map f xs
mapped_four f d = four_elements (λ xs. f (slice_index_or xs 0 d) ∷ f (slice_index_or xs 1 d) ∷ f (slice_index_or xs 2 d) ∷ f (slice_index_or xs 3 d) ∷ [] ≡ map f xs) (λ a b c d. refl)
