-- What was added to the parts was added, and is written back.
use Rattle.std.proofs.Common.{◌∙◌, ℕ, List, subst, sym}
use Rattle.std.proofs.lemmas.List.{with_items_is}
use Rattle.ibc_run_notes.specs.Counts.{AreSums}
use Rattle.ibc_run_notes.proofs.counts.AnswerCounts.add_all.Goals as goal

pub returns-clause-accepted : goal.returns-clause-accepted
returns-clause-accepted c =
    let own = c.args.self.now.accepted in
    let others : List ℕ = c.args.others.now.accepted.items in
    let new : List ℕ = c.add_each.new.counts in
    let sums : AreSums own.items others new =
    subst (λ (l : List ℕ). AreSums l others new) c.as_mut_slice.ensures.value
    (subst (λ (l : List ℕ). AreSums c.as_mut_slice.result.now l new) c.as_slice.ensures.value c.add_each.ensures) in
    subst (AreSums own.items others) (sym (with_items_is own new (sums.0 ∙ sym own.ok.0))) sums

pub returns-clause-refused : goal.returns-clause-refused
returns-clause-refused c =
    let own = c.args.self.now.refused in
    let others : List ℕ = c.args.others.now.refused.items in
    let new : List ℕ = c.add_each-2.new.counts in
    let sums : AreSums own.items others new =
    subst (λ (l : List ℕ). AreSums l others new) c.as_mut_slice-2.ensures.value
    (subst (λ (l : List ℕ). AreSums c.as_mut_slice-2.result.now l new) c.as_slice-2.ensures.value c.add_each-2.ensures) in
    subst (AreSums own.items others) (sym (with_items_is own new (sums.0 ∙ sym own.ok.0))) sums
