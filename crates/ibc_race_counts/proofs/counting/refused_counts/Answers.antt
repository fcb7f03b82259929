-- One number more is counted.
use Rattle.std.proofs.Common.{◌≡◌, ◌∙◌, ◌∷◌, [], ◌++◌, ℕ, List, ap, arith, map, sym}
use Rattle.std.specs.List.{range_with_len}
use Rattle.std.proofs.lemmas.List.FromFn.{map-range_with_len_more}
use Rattle.ibc_race_counts.specs.CountedReceipts.{refused_with}
use Rattle.ibc_race_counts.proofs.counting.refused_counts.Goals as goal

pub loop-number-preserved : goal.loop-number-preserved
loop-number-preserved g c =
    let f = refused_with c.args.receipts.now in
    let n = c.loop-number.number in
    c.in_ok-push.ensures.items
    ∙ ap (λ (l : List ℕ). l ++ c.refused_count.result ∷ []) c.loop-number.invariant
    ∙ ap (λ (k : ℕ). map f (range_with_len 0 n) ++ k ∷ []) c.refused_count.ensures
    ∙ sym (map-range_with_len_more f 0 n n (omega arith))

pub returns : goal.returns
returns g c =
    let all : c.loop-number.number ≡ 32 = omega (arith, c.loop-number-test.false) in
    c.loop-number.invariant ∙ ap (λ (k : ℕ). map (refused_with c.args.receipts.now) (range_with_len 0 k)) all
