use Rattle.std.proofs.Common.{◌≡◌, ℕ, ◌<◌, ◌≤◌, arith, ap, ◌∙◌, sym, subst, List, length, slice_get, Some, get_or, set, below_more, get_or-set_other, get_or-set_same, length-set}
use Rattle.std.proofs.lemmas.Grind.{same_number_lists}
use Rattle.ibc_ids.specs.Publications.{published_by}
use Rattle.ibc_root_table.specs.declared.shape.Shape.{Shape}
use Rattle.ibc_root_table.specs.Publications.{row_words}
use Rattle.ibc_root_table.specs.Layout.{place}
use Rattle.ibc_root_table.specs.SeatSteps.{SeatKnowledge}
use Rattle.ibc_root_table.proofs.WordPlaces.{place_inside}
use Rattle.ibc_root_table.proofs.Fitting.{named}
use Rattle.ibc_root_table.proofs.Views.{chains_same}
use Rattle.ibc_root_table.proofs.Loads.{reads}
use Rattle.ibc_root_table.proofs.table.RootTable.load_row.Goals as goal

pub load-requires : goal.load-requires
load-requires c =
    let t = named c.self.inside c.args.self.now c.self.view_is in
    let inv = c.loop-part.invariant in
    let size = c.self.invariant.words in
    let chain = c.requires.row in
    let same_chains = t.chains in
    let inside = place_inside c.self.inside.shape c.args.chain c.args.row c.loop-part.part (omega arith) c.self.invariant.ring c.loop-part-test.true in
    let here = c.row_word-word.ensures in
    let chains = chains_same (ap (λ (m : SeatKnowledge). m.0.shape) inv.1 ∙ c.requires.table.1) in
    (inv.0.0 ∙ (c.requires.table.0 ∙ sym t.id), omega arith, reads _ _ _ _ _ (omega arith))

pub loop-part-preserved : goal.loop-part-preserved
loop-part-preserved c =
    let t = named c.self.inside c.args.self.now c.self.view_is in
    let inv = c.loop-part.invariant in
    let told = c.load.ensures in
    let now = c.load.new.seat.me in
    let part : ℕ = c.loop-part.part in
    let words : List ℕ = c.loop-part.words in
    let long : length words ≡ 5 = inv.2 in
    let shape = ap (λ (m : SeatKnowledge). m.0.shape) inv.1 ∙ c.requires.table.1 in
    let chains = chains_same shape in
    let chain = c.requires.row in
    let rise = told.2.1 c.args.chain (omega arith) in
    let there = c.row_word-word.ensures ∙ ap (λ (x : Shape). place x c.args.chain c.args.row part) (t.shape ∙ sym shape) in
    let lp : part < 5 = c.loop-part-test.true in (
      (told.0 ∙ inv.0.0, told.1 ∙ inv.0.1),
      told.2.0 ∙ (λ i. (record (inv.1 i).0 { floors = now.0.floors }, (inv.1 i).1)),
      length-set words part c.load.result ∙ long,
      λ p e.
          let fact = told.2.2 c.args.chain c.args.row part p (subst (λ (m : SeatKnowledge). slice_get (published_by c.args.chain m.0.seen) c.args.row ≡ Some p) (sym inv.1) e) lp there in
          let before = inv.3 p e in (
            below_more (λ k. get_or now.0.floors c.args.chain 0 ≤ c.args.row → get_or (set words part c.load.result) k 0 ≡ get_or (row_words p) k 0) part
                (λ k h low. get_or-set_other words part k c.load.result 0 (λ (same : k ≡ part). absurd (omega arith)) ∙ before.0 k h (omega arith))
                (λ low. get_or-set_same words part c.load.result 0 (omega arith) ∙ fact.0 low),
            λ _. (fact.1, fact.2),
          ),
    )

pub returns-clause-words : goal.returns-clause-words
returns-clause-words c = λ p e.
    let inv = c.loop-part.invariant in
    let done = inv.3 p e in
    let last : c.loop-part.part ≡ 5 = omega arith in
    let root = done.1 (omega arith) in
    let long : length c.loop-part.words ≡ 5 = inv.2 in
    (λ low. same_number_lists c.loop-part.words (row_words p) long (λ k h. done.0 k (omega arith) low), root.0, root.1)
