-- An amount of another denomination changes nothing.
use Rattle.std.proofs.Common.{◌≡◌, ap, sym, ◌∙◌, cond, is_eq, take}
use Rattle.ibc_ids.specs.Texts.{text_cmp}
use Rattle.ibc_ids.proofs.Texts.{text_cmp_total}
use Rattle.ibc_machine.proofs.FiniteMaps.{by_text}
use Rattle.ibc_bank.specs.Amounts.{amount_at, with_amounts}
use Rattle.ibc_bank.proofs.Writes.{after_more, tied_alike}
use Rattle.ibc_bank.proofs.amounts.Amounts+Denom.after.Goals.{then-eq, else-eq}
use Rattle.ibc_bank.proofs.amounts.Amounts+Denom.after.Goals as goal

pub loop-changed-preserved : goal.loop-changed-preserved
loop-changed-preserved c =
    let item = c.loop-changed-item.result in
    let m = c.args.self.now.pairs in
    let more = after_more text_cmp_total by_text c.args.changes.now c.loop-changed.changed-index item c.loop-changed-test.true c.loop-changed-item.is m c.lemma_in_order.ensures c.args.denom.now in
    let test : is_eq (text_cmp c.args.denom.now item.0) ≡ c.eq.result = tied_alike c.args.denom.now item.0 ∙ sym c.eq.ensures in
    elim c.if-eq.branch [
      | then-eq w ↦ w.amount-is ∙ sym (more ∙ ap (λ b. cond b item.1 (amount_at text_cmp c.args.denom.now (with_amounts text_cmp (take c.loop-changed.changed-index c.args.changes.now) m))) (test ∙ w.if-eq.true))
      | else-eq w ↦ w.amount-is ∙ c.loop-changed.invariant ∙ sym (more ∙ ap (λ b. cond b item.1 (amount_at text_cmp c.args.denom.now (with_amounts text_cmp (take c.loop-changed.changed-index c.args.changes.now) m))) (test ∙ w.if-eq.false))
    ]
