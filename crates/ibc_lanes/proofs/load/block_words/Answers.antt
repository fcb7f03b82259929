use Rattle.std.proofs.Common.{rules, ◌≡◌, [], slice_index, slice_index_or, inl, inr, ap, ◌∙◌, arith}
use Rattle.std.proofs.lemmas.List.{get_or-set_same, get_or-set_other}
use Rattle.std.proofs.lemmas.Bool.{cases_lt}
use Rattle.ibc_lanes.proofs.Blocks.{loaded}
use Rattle.ibc_lanes.proofs.load.block_words.Goals as goal

pub load-preserved : goal.load-preserved
load-preserved g c = (
  search rules,
  λ j k below lt. elim (cases_lt k c.load.i) [
    | inl a ↦
        ap (λ v. slice_index v j) (get_or-set_other c.load.words c.load.i k c.words_of.result [] (omega arith)) ∙ c.load.invariant.1 j k below a
    | inr b ↦
        let e : c.load.i ≡ k = omega arith in
        rw (← e) (ap (λ v. slice_index v j) (get_or-set_same c.load.words c.load.i c.words_of.result [] (omega arith)) ∙ c.words_of.ensures j below)
  ],
)

pub returns : goal.returns
returns g c j lt =
    loaded c.load.words (slice_index_or c.args.texts.now j []) c.args.start j c.load.invariant.0 (λ k below. c.load.invariant.1 j k lt (omega arith))
