-- An amount of another account or denomination changes nothing.
use Rattle.std.proofs.Common.{◌≡◌, ◌&&◌, true, false, ap, sym, ◌∙◌, cond, is_eq, take}
use Rattle.std.proofs.lemmas.Map.Text.{is_eq-slice_cmp}
use Rattle.ibc_ids.specs.Texts.{Text, text_cmp, pair_cmp}
use Rattle.ibc_machine.proofs.FiniteMaps.{by_pair, pair_cmp_total}
use Rattle.ibc_bank.specs.Amounts.{amount_at, with_amounts}
use Rattle.ibc_bank.specs.Parties.{party_text}
use Rattle.ibc_bank.proofs.Writes.{after_more, tied_alike, pairs_tied}
use Rattle.ibc_bank.proofs.changes.Changes.held_by.Goals.{then-is_eq+then-eq, else-is_eq, else-is_eq-via-then-is_eq+else-eq, else-is_eq-via-else-is_eq}
use Rattle.ibc_bank.proofs.changes.Changes.held_by.Goals as goal

pub loop-holder-preserved : goal.loop-holder-preserved
loop-holder-preserved c =
    let item = c.loop-holder-item.result in
    let key : Text × Text = (party_text c.args.party, c.args.denom.now) in
    let so_far = with_amounts pair_cmp (take c.loop-holder.holder-index c.deref-holder-items.result.now) c.args.books.now.held.pairs in
    let more = after_more pair_cmp_total by_pair c.deref-holder-items.result.now c.loop-holder.holder-index item c.loop-holder-test.true c.loop-holder-item.is c.args.books.now.held.pairs c.lemma_in_order.ensures key in
    let holder : is_eq (text_cmp (party_text c.args.party) item.0.0) ≡ c.is_eq.result = tied_alike (party_text c.args.party) item.0.0 ∙ sym (is_eq-slice_cmp item.0.0 (party_text c.args.party)) ∙ sym (c.is_eq.ensures ∙ ap is_eq c.compare.ensures) in
    let both = pairs_tied (party_text c.args.party) c.args.denom.now item.0.0 item.0.1 in
    let denom = tied_alike c.args.denom.now item.0.1 in
    elim c.if-is_eq.branch [
      | then-is_eq+then-eq w ↦
          let test : is_eq (pair_cmp key item.0) ≡ true = both ∙ ap (λ b. b && is_eq (text_cmp c.args.denom.now item.0.1)) (holder ∙ w.if-is_eq.true) ∙ denom ∙ sym w.eq.ensures ∙ w.if-eq.true in
          w.amount-is ∙ sym (more ∙ ap (λ b. cond b item.1 (amount_at pair_cmp key so_far)) test)
      | else-is_eq w ↦
          let test : is_eq (pair_cmp key item.0) ≡ false = elim w.else-is_eq.branch [
            | else-is_eq-via-then-is_eq+else-eq v ↦ both ∙ ap (λ b. b && is_eq (text_cmp c.args.denom.now item.0.1)) (holder ∙ v.if-is_eq.true) ∙ denom ∙ sym v.eq.ensures ∙ v.if-eq.false
            | else-is_eq-via-else-is_eq v ↦ both ∙ ap (λ b. b && is_eq (text_cmp c.args.denom.now item.0.1)) (holder ∙ v.if-is_eq.false)
          ] in
          w.amount-is ∙ c.loop-holder.invariant ∙ sym (more ∙ ap (λ b. cond b item.1 (amount_at pair_cmp key so_far)) test)
    ]
