-- The text is the node's.
use Rattle.std.proofs.Common.{◌≡◌, true, sym, ap, ap₂, ◌∙◌}
use Rattle.ibc_ids.specs.Texts.{same_text}
use Rattle.ibc_ids.proofs.Texts.{text_same}
use Rattle.ibc_merkle.specs.Hash.{hash}
use Rattle.ibc_ics23_proof.proofs.memory.KnownNode.hash_of.Goals as goal

pub returns-then-is_same : goal.returns-then-is_same
returns-then-is_same c =
    let same : same_text c.self.inside.text c.args.text.now ≡ true = sym (ap₂ same_text c.as_slice.ensures c.as_slice-2.ensures) ∙ sym c.is_same.ensures ∙ c.if-is_same.true in
    c.self.invariant ∙ ap hash (text_same c.self.inside.text c.args.text.now same)
