use Rattle.std.proofs.Common.{◌≡◌, slice_index_or, refl, arith, ◌∙◌}
use Rattle.sha2.specs.Sha256.{digest_bytes}
use Rattle.ibc_lanes.specs.Inner.{pair_hash}
use Rattle.ibc_lanes.specs.Lanes.{lane}
use Rattle.ibc_lanes.proofs.Digests.{mapped_four, none, pair_digested}
use Rattle.ibc_lanes.proofs.inner.digest_four_inner.Goals as goal

pub returns : goal.returns
returns c =
    let pairs = c.args.pairs.now in
    let last = c.compress_each-second.result in
    let digest0 : digest_bytes (lane 0 last) 8 ≡ pair_hash (slice_index_or pairs 0 none) =
    pair_digested (slice_index_or pairs 0 none) c.padded.result _ _ _ _ (omega arith) c.padded.ensures (c.initial_state.ensures 0 (omega arith))
    (c.compress_each-first.ensures 0 _ (omega arith) (c.block_words.ensures 0 (omega arith)))
    (c.compress_each-second.ensures 0 _ (omega arith) (c.block_words-2.ensures 0 (omega arith))) refl in
    let digest1 : digest_bytes (lane 1 last) 8 ≡ pair_hash (slice_index_or pairs 1 none) =
    pair_digested (slice_index_or pairs 1 none) c.padded-2.result _ _ _ _ (omega arith) c.padded-2.ensures (c.initial_state.ensures 1 (omega arith))
    (c.compress_each-first.ensures 1 _ (omega arith) (c.block_words.ensures 1 (omega arith)))
    (c.compress_each-second.ensures 1 _ (omega arith) (c.block_words-2.ensures 1 (omega arith))) refl in
    let digest2 : digest_bytes (lane 2 last) 8 ≡ pair_hash (slice_index_or pairs 2 none) =
    pair_digested (slice_index_or pairs 2 none) c.padded-3.result _ _ _ _ (omega arith) c.padded-3.ensures (c.initial_state.ensures 2 (omega arith))
    (c.compress_each-first.ensures 2 _ (omega arith) (c.block_words.ensures 2 (omega arith)))
    (c.compress_each-second.ensures 2 _ (omega arith) (c.block_words-2.ensures 2 (omega arith))) refl in
    let digest3 : digest_bytes (lane 3 last) 8 ≡ pair_hash (slice_index_or pairs 3 none) =
    pair_digested (slice_index_or pairs 3 none) c.padded-4.result _ _ _ _ (omega arith) c.padded-4.ensures (c.initial_state.ensures 3 (omega arith))
    (c.compress_each-first.ensures 3 _ (omega arith) (c.block_words.ensures 3 (omega arith)))
    (c.compress_each-second.ensures 3 _ (omega arith) (c.block_words-2.ensures 3 (omega arith))) refl in
    c.digests.ensures ∙ rw (digest0, digest1, digest2, digest3) (mapped_four pair_hash none pairs (omega arith))
