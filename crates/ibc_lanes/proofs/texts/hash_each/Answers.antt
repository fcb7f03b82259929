use Rattle.std.proofs.Common.{ap, ◌∙◌, arith}
use Rattle.std.proofs.lemmas.List.{take_all}
use Rattle.sha2.specs.Sha256.{first_words, hash_after, initial_hash_256, padded_message}
use Rattle.ibc_lanes.proofs.Ends.{count_blocks, hashed_next}
use Rattle.ibc_lanes.proofs.texts.hash_each.Goals as goal

pub absorb-init : goal.absorb-init
unfolding hash_after
absorb-init c = (
  c.initial_state-state.ensures 0 (omega arith),
  c.initial_state-state.ensures 1 (omega arith),
  c.initial_state-state.ensures 2 (omega arith),
  c.initial_state-state.ensures 3 (omega arith),
)

pub absorb-preserved : goal.absorb-preserved
absorb-preserved c =
    let words = c.block_words.ensures in
    let compressed = c.compress_each-next.ensures in (
      hashed_next c.args.first.now _ _ c.absorb.i c.absorb.invariant.0
          (compressed 0 _ (omega arith) (words 0 (omega arith) ∙ ap (λ b. first_words b 16) (take_all 64 _ (omega arith) ∙ c.block_of.ensures))),
      hashed_next c.args.second.now _ _ c.absorb.i c.absorb.invariant.1
          (compressed 1 _ (omega arith) (words 1 (omega arith) ∙ ap (λ b. first_words b 16) (take_all 64 _ (omega arith) ∙ c.block_of-in-absorb.ensures))),
      hashed_next c.args.third.now _ _ c.absorb.i c.absorb.invariant.2
          (compressed 2 _ (omega arith) (words 2 (omega arith) ∙ ap (λ b. first_words b 16) (take_all 64 _ (omega arith) ∙ c.block_of-in-absorb-2.ensures))),
      hashed_next c.args.fourth.now _ _ c.absorb.i c.absorb.invariant.3
          (compressed 3 _ (omega arith) (words 3 (omega arith) ∙ ap (λ b. first_words b 16) (take_all 64 _ (omega arith) ∙ c.block_of-in-absorb-3.ensures))),
    )

pub returns : goal.returns
returns c =
    record {
      first = c.absorb.invariant.0 ∙ ap (hash_after initial_hash_256 (padded_message c.args.first.now)) (omega (arith, count_blocks c.args.first.now));
      second = c.absorb.invariant.1 ∙ ap (hash_after initial_hash_256 (padded_message c.args.second.now)) (omega (arith, count_blocks c.args.second.now));
      third = c.absorb.invariant.2 ∙ ap (hash_after initial_hash_256 (padded_message c.args.third.now)) (omega (arith, count_blocks c.args.third.now));
      fourth = c.absorb.invariant.3 ∙ ap (hash_after initial_hash_256 (padded_message c.args.fourth.now)) (omega (arith, count_blocks c.args.fourth.now));
    }
