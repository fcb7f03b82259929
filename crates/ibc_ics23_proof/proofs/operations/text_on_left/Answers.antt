-- The mark with the child's hash, and the sibling's behind them.
use Rattle.std.proofs.Common.{◌≡◌, suc, ◌∷◌, ◌++◌, length, refl, ap, ap₂, ◌∙◌}
use Rattle.ibc_ics23_proof.proofs.NodeTexts.{behind_first}
use Rattle.ibc_ics23_proof.proofs.operations.text_on_left.Goals as goal

pub returns : goal.returns
returns c =
    let first = ap (λ text. c.args.mark ∷ text) (c.copy_from_slice.ensures.after ∙ c.as_slice.ensures) in
    let second = c.copy_from_slice-2.ensures.after in
    behind_first (c.args.mark ∷ c.copy_from_slice.new.self) c.copy_from_slice-2.new.self _ (let e : length c.copy_from_slice.new.self ≡ 32 = search in ap suc e) (ap length second ∙ c.requires) refl
    ∙ ap₂ (λ a b. a ++ b) first second
