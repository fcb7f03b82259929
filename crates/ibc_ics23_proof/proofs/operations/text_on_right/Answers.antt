-- The prefix, and the child's hash behind it.
use Rattle.std.proofs.Common.{◌≡◌, ◌++◌, length, refl, ap, ap₂, ◌∙◌}
use Rattle.ibc_ics23_proof.proofs.NodeTexts.{behind_first}
use Rattle.ibc_ics23_proof.proofs.operations.text_on_right.Goals as goal

pub returns : goal.returns
returns c =
    let first = c.copy_from_slice.ensures.after in
    let second = c.copy_from_slice-2.ensures.after ∙ c.as_slice.ensures in
    behind_first c.copy_from_slice.new.self c.copy_from_slice-2.new.self _ (ap length first ∙ c.requires) (let e : length c.copy_from_slice-2.new.self ≡ 32 = search in e) refl
    ∙ ap₂ (λ a b. a ++ b) first second
