-- The digests of both halves, and the root of their roots.
use Rattle.std.proofs.Common.{◌≡◌, ◌∷◌, ◌++◌, [], IfOk, OnOk, sym, ◌∙◌, arith, ap, ap₂, subst}
use Rattle.ibc_merkle.specs.Hash.{hash, inner_text}
use Rattle.ibc_merkle.specs.Tree.{tree_root}
use Rattle.ibc_merkle.specs.NodeDigests.{digests_of}
use Rattle.ibc_merkle.proofs.Trees.{tree_root-halves}
use Rattle.ibc_merkle.proofs.KeptDigests.{added_halves}
use Rattle.ibc_merkle.proofs.tree.+add_digests.Goals as goal

root_is : {t : _} (c : goal.After-add_digest-2 t) → c.inner_digest.result ≡ tree_root c.args.entries.now
root_is c =
    c.inner_digest.ensures
    ∙ ap₂ (λ l r. hash (inner_text l r))
    (c.in_ok-left.ensures.root ∙ ap tree_root c.split_at.ensures.front)
    (c.in_ok-right.ensures.root ∙ ap tree_root c.split_at.ensures.back)
    ∙ sym (tree_root-halves c.args.entries.now c.split_of.result (omega arith) c.split_of.ensures.power)

pub returns-clause-root : goal.returns-clause-root
returns-clause-root t c = subst (λ digest. IfOk c.add_digest-2.result (λ added. added ≡ digest)) (root_is c) c.add_digest-2.ensures.same

pub returns-clause-added : goal.returns-clause-added
returns-clause-added t c =
    let pairs = c.args.entries.now in
    let before = c.args.digests.now.items in
    let left = c.in_ok-left.ensures.added ∙ ap (λ half. before ++ digests_of half) c.split_at.ensures.front in
    let right = c.in_ok-right.ensures.added ∙ ap₂ (λ digests half. digests ++ digests_of half) left c.split_at.ensures.back in
    let all = ap₂ (λ digests root. digests ++ root ∷ []) right (root_is c) ∙ added_halves pairs c.split_of.result before c.split_of.ensures.some c.split_of.ensures.below c.split_of.ensures.power in
    subst (λ digests. OnOk c.add_digest-2.result (c.add_digest-2.new.digests.items ≡ digests)) all c.add_digest-2.ensures.added
