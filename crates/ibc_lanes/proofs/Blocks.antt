-- The words of blocks, as the window and the digest have them.
use Rattle.std.proofs.Common.{◌≡◌, ℕ, ◌<◌, ◌+◌, ◌*◌, ◌/◌, List, length, take, drop, slice_index, slice_set, arith, refl, sym, ◌∙◌}
use Rattle.std.proofs.lemmas.Grind.{same_number_lists}
use Rattle.std.proofs.lemmas.List.{length-map, map-set}
use Rattle.std.proofs.lemmas.Simd.{get_or-chunk}
use Rattle.sha2.proofs.Schedule256.{IsWindow_first, length-first_words, slice_index-first_words}
use Rattle.sha2.specs.Sha256.{IsWindow, compress, digest_bytes, first_words, hash_after, initial_hash_256, padded_message, schedule, sha256, word_at}
use Rattle.ibc_lanes.specs.Lanes.{lane_at, lane_words}
use Rattle.ibc_lanes.proofs.Vectors.{lane_word}

-- the words of a block fill the window
pub window_of : (w b : List ℕ) → w ≡ first_words b 16 → IsWindow w (schedule b 48) 16
window_of w b e =
    rw e (IsWindow_first b (first_words b 16) (length-first_words b 16) (λ k lt. slice_index-first_words b 16 k lt))

-- a vector in the place of another one, in lane j
pub lane_set : (vectors : List (List ℕ)) (j place : ℕ) (v : List ℕ)
    → lane_words j (slice_set vectors place v) ≡ slice_set (lane_words j vectors) place (slice_index v j)
lane_set vectors j place v = map-set (λ vector. slice_index vector j) vectors place v

-- a word of the block from a place on
block_word : (text : List ℕ) (start k : ℕ) → k < 16 → word_at (take 64 (drop start text)) (4 * k) ≡ word_at text (start + 4 * k)
block_word text start k lt =
    let a = get_or-chunk start 64 text (4 * k) 0 (omega arith) in
    let b = get_or-chunk start 64 text (4 * k + 1) 0 (omega arith) in
    let c = get_or-chunk start 64 text (4 * k + 2) 0 (omega arith) in
    let d = get_or-chunk start 64 text (4 * k + 3) 0 (omega arith) in
    let e1 : start + (4 * k + 1) ≡ start + 4 * k + 1 = omega arith in
    let e2 : start + (4 * k + 2) ≡ start + 4 * k + 2 = omega arith in
    let e3 : start + (4 * k + 3) ≡ start + 4 * k + 3 = omega arith in
    rw (a, b, c, d, e1, e2, e3) refl

-- vectors of the words of a block from a place on
pub loaded : (vectors : List (List ℕ)) (text : List ℕ) (start j : ℕ) → length vectors ≡ 16
    → ((k : ℕ) → k < 16 → lane_at vectors k j ≡ word_at text (start + 4 * k))
    → lane_words j vectors ≡ first_words (take 64 (drop start text)) 16
loaded vectors text start j len words =
    let block = take 64 (drop start text) in
    let long : length (lane_words j vectors) ≡ 16 = length-map vectors (λ vector. slice_index vector j) ∙ len in
    same_number_lists (lane_words j vectors) (first_words block 16) (long ∙ sym (length-first_words block 16)) (λ k lt.
    lane_word vectors j k ∙ words k (omega arith) ∙ sym (block_word text start k (omega arith))
    ∙ sym (slice_index-first_words block 16 k (omega arith)))

-- the digest of a message whose padding ends in the second block
pub two_blocks : (m : List ℕ) → length (padded_message m) ≡ 128
    → digest_bytes (compress (compress initial_hash_256 (take 64 (drop 0 (padded_message m)))) (take 64 (drop 64 (padded_message m)))) 8 ≡ sha256 m
unfolding sha256 hash_after
two_blocks m len =
    let count : length (padded_message m) / 64 ≡ 2 = omega arith in
    rw count refl
