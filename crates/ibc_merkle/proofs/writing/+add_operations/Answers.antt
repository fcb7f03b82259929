-- One half's operations, and one more.
use Rattle.std.proofs.Common.{rules, arith, ◌+◌, ◌-◌, [], ◌∷◌, ◌++◌, length, ap, ◌∙◌, sym, subst, length-take}
use Rattle.std.specs.FinMap.{is_sorted}
use Rattle.ibc_ids.specs.Texts.{text_cmp}
use Rattle.ibc_merkle.specs.NodeDigests.{digests_of}
use Rattle.ibc_merkle.specs.PairPlaces.{key_at}
use Rattle.ibc_merkle.specs.Written.{left_child, right_child}
use Rattle.ibc_merkle.proofs.Edits.{take_is_sorted, drop_is_sorted}
use Rattle.ibc_merkle.proofs.Climbs.{AddsTo, adds_at_leaf, adds_on_left, adds_on_right}
use Rattle.ibc_merkle.proofs.KeptDigests.{length-digests, length-rest, left_digests, right_digests, last_of_left, last_of_right}
use Rattle.ibc_merkle.proofs.writing.+add_operations.Goals as goal

pub returns-then-entries-eq1 : goal.returns-then-entries-eq1
returns-then-entries-eq1 t c = adds_at_leaf c.args.entries.now c.args.index c.args.operations.now.items c.if-entries-eq1.true c.requires.there

-- ---- the digests of both halves

pub split_at-requires-2 : goal.split_at-requires-2
split_at-requires-2 t c =
    let counted = ap (λ digests. length digests + 1) c.requires.digests ∙ length-digests c.args.entries.now (omega arith) in
    omega arith

pub slice_bounds-right_digests-count : goal.slice_bounds-right_digests-count
slice_bounds-right_digests-count t c =
    let counted = length-rest c.args.entries.now c.split_of-split.result c.args.digests.now _ c.split_of-split.ensures.some c.split_of-split.ensures.below c.requires.digests c.split_at-2.ensures.back in
    omega arith

pub overflow_sub-right_digests : goal.overflow_sub-right_digests
overflow_sub-right_digests t c =
    let counted = length-rest c.args.entries.now c.split_of-split.result c.args.digests.now _ c.split_of-split.ensures.some c.split_of-split.ensures.below c.requires.digests c.split_at-2.ensures.back in
    simp length-take (omega arith)

pub bounds-right_digests-right_digests : goal.bounds-right_digests-right_digests
bounds-right_digests-right_digests t c =
    let counted = length-rest c.args.entries.now c.split_of-split.result c.args.digests.now _ c.split_of-split.ensures.some c.split_of-split.ensures.below c.requires.digests c.split_at-2.ensures.back in
    simp length-take (omega arith)

-- ---- the halves

pub add_operations-requires : goal.add_operations-requires
add_operations-requires t c = (
  search rules,
  (
    ap (is_sorted text_cmp) c.split_at.ensures.front ∙ take_is_sorted c.split_of-split.result c.args.entries.now c.requires.sorted,
    (
      left_digests c.args.entries.now c.split_of-split.result c.args.digests.now _ c.split_of-split.ensures.some c.split_of-split.ensures.below c.split_of-split.ensures.power c.requires.digests c.split_at-2.ensures.front
          ∙ ap digests_of (sym c.split_at.ensures.front),
      omega arith,
    ),
  ),
)

pub add_operations-requires-else-index-split : goal.add_operations-requires-else-index-split
add_operations-requires-else-index-split t c = (
  search rules,
  (
    ap (is_sorted text_cmp) c.split_at.ensures.back ∙ drop_is_sorted c.split_of-split.result c.args.entries.now c.requires.sorted,
    (
      right_digests c.args.entries.now c.split_of-split.result c.args.digests.now _ c.split_of-split.ensures.some c.split_of-split.ensures.below c.split_of-split.ensures.power c.requires.digests c.split_at-2.ensures.back
          ∙ ap digests_of (sym c.split_at.ensures.back),
      omega arith,
    ),
  ),
)

pub returns-in_ok-push : goal.returns-in_ok-push
returns-in_ok-push t c =
    let entries = c.args.entries.now in
    let index = c.args.index in
    let split = c.split_of-split.result in
    let old = c.args.operations.now.items in
    let half = c.add_operations.new.operations.items in
    let added = subst (λ left. AddsTo (key_at left index) left old half) c.split_at.ensures.front c.in_ok-add_operations.ensures in
    let right = right_digests c.args.entries.now c.split_of-split.result c.args.digests.now _ c.split_of-split.ensures.some c.split_of-split.ensures.below c.split_of-split.ensures.power c.requires.digests c.split_at-2.ensures.back in
    let sibling = c.on_left_child.ensures ∙ ap left_child (last_of_right entries split _ c.split_of-split.ensures.below right) in
    let items = c.in_ok-push.ensures.items ∙ ap (λ operation. half ++ operation ∷ []) sibling in
    subst (AddsTo (key_at entries index) entries old) (sym items)
    (adds_on_left entries split index old half (omega arith) c.split_of-split.ensures.power c.if-index-split.true added)

pub returns-in_ok-push-2 : goal.returns-in_ok-push-2
returns-in_ok-push-2 t c =
    let entries = c.args.entries.now in
    let index = c.args.index in
    let split = c.split_of-split.result in
    let old = c.args.operations.now.items in
    let half = c.add_operations-else-index-split.new.operations.items in
    let added = subst (λ right. AddsTo (key_at right (index - split)) right old half) c.split_at.ensures.back c.in_ok-add_operations-2.ensures in
    let left = left_digests c.args.entries.now c.split_of-split.result c.args.digests.now _ c.split_of-split.ensures.some c.split_of-split.ensures.below c.split_of-split.ensures.power c.requires.digests c.split_at-2.ensures.front in
    let sibling = c.on_right_child.ensures ∙ ap right_child (last_of_left entries split _ c.split_of-split.ensures.some c.split_of-split.ensures.below left) in
    let items = c.in_ok-push-2.ensures.items ∙ ap (λ operation. half ++ operation ∷ []) sibling in
    subst (AddsTo (key_at entries index) entries old) (sym items)
    (adds_on_right entries split index old half c.requires.sorted c.split_of-split.ensures.some (omega arith) c.split_of-split.ensures.power c.if-index-split.false c.requires.there added)
