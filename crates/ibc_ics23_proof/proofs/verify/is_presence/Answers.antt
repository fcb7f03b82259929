-- The leaf's prefix is the mark.
use Rattle.std.proofs.Common.{◌≡◌, true, sym, ap₂, ◌∙◌}
use Rattle.ibc_ids.specs.Texts.{same_text}
use Rattle.ibc_ids.proofs.Texts.{text_same}
use Rattle.ibc_merkle.specs.Hash.{leaf_mark}
use Rattle.ibc_ics23_proof.proofs.verify.is_presence.Goals as goal

pub presence_root-requires : goal.presence_root-requires
presence_root-requires g c =
    let same : same_text c.args.presence.now.leaf_prefix leaf_mark ≡ true = sym (ap₂ same_text c.as_slice.ensures c.as_slice-2.ensures) ∙ sym c.is_same.ensures ∙ c.if-not-is_same.false in
    text_same c.args.presence.now.leaf_prefix leaf_mark same
