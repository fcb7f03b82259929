-- The root of both halves' roots.
use Rattle.std.proofs.Common.{sym, ◌∙◌, arith, ap, ap₂}
use Rattle.ibc_merkle.specs.Hash.{hash, inner_text}
use Rattle.ibc_merkle.specs.Tree.{tree_root}
use Rattle.ibc_merkle.proofs.Trees.{tree_root-halves}
use Rattle.ibc_merkle.proofs.tree.+tree_root_of.Goals as goal

pub returns : goal.returns
returns t c =
    c.inner_digest.ensures
    ∙ ap₂ (λ l r. hash (inner_text l r))
    (c.tree_root_of.ensures ∙ ap tree_root c.split_at.ensures.front)
    (c.tree_root_of-2.ensures ∙ ap tree_root c.split_at.ensures.back)
    ∙ sym (tree_root-halves c.args.entries.now c.split_of.result (omega arith) c.split_of.ensures.power)
