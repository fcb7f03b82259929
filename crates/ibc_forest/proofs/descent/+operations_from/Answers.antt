-- One half's operations, and one more.
use Rattle.std.proofs.Common.{◌≡◌, ◌<◌, ◌-◌, ◌∷◌, ◌++◌, [], length, ap, ◌∙◌, sym, subst, arith}
use Rattle.std.proofs.lemmas.Result.{IfOk-weaker}
use Rattle.std.specs.FinMap.{is_sorted}
use Rattle.ibc_ids.specs.Texts.{text_cmp}
use Rattle.ibc_merkle.specs.PairPlaces.{key_at}
use Rattle.ibc_merkle.specs.Tree.{Pairs, largest_power_below}
use Rattle.ibc_merkle.specs.Written.{left_child, right_child}
use Rattle.ibc_merkle.proofs.Edits.{take_is_sorted, drop_is_sorted}
use Rattle.ibc_merkle.proofs.Climbs.{AddsTo, adds_at_leaf, adds_on_left, adds_on_right}
use Rattle.ibc_forest.specs.Heights.{pairs_of}
use Rattle.ibc_forest.proofs.Descents.{halved_below, one_below}
use Rattle.ibc_forest.proofs.descent.+operations_from.Goals as goal

pub operations_from-requires : goal.operations_from-requires
operations_from-requires t c =
    let h = halved_below c.args.nodes.now c.args.node c.args.count c.below.result.now c.in-Children.left c.in-Children.right c.split_of-split.result c.requires.over c.below.ensures.built c.below.ensures.stand c.in-Children.is c.split_of-split.ensures.power in
    let pairs : Pairs = pairs_of c.args.nodes.now c.args.node in
    (omega arith, (h.on_left, (ap (is_sorted text_cmp) h.left_pairs ∙ take_is_sorted c.split_of-split.result pairs c.requires.sorted, (c.if-index-split.true, omega arith))))

pub operations_from-requires-else-index-split : goal.operations_from-requires-else-index-split
operations_from-requires-else-index-split t c =
    let h = halved_below c.args.nodes.now c.args.node c.args.count c.below.result.now c.in-Children.left c.in-Children.right c.split_of-split.result c.requires.over c.below.ensures.built c.below.ensures.stand c.in-Children.is c.split_of-split.ensures.power in
    let pairs : Pairs = pairs_of c.args.nodes.now c.args.node in
    (omega arith, (h.on_right, (ap (is_sorted text_cmp) h.right_pairs ∙ drop_is_sorted c.split_of-split.result pairs c.requires.sorted, (omega arith, omega arith))))

pub returns-in-Record-clause-operations : goal.returns-in-Record-clause-operations
returns-in-Record-clause-operations t c =
    let pairs : Pairs = pairs_of c.args.nodes.now c.args.node in
    let one = one_below c.args.nodes.now c.args.node c.args.count c.below.result.now c.in-Record.field-0 c.requires.over c.below.ensures.built c.in-Record.is in
    let counted : length pairs ≡ 1 = ap length one.0 in
    let none = adds_at_leaf pairs c.args.index [] counted (omega (arith, one.1)) in
    IfOk-weaker c.with_capacity.result _ _ (λ operations empty. subst (AddsTo (key_at pairs c.args.index) pairs []) (sym empty) none) c.with_capacity.ensures.items

pub returns-in_ok-operations-in-Children-clause-operations : goal.returns-in_ok-operations-in-Children-clause-operations
returns-in_ok-operations-in-Children-clause-operations t c =
    let h = halved_below c.args.nodes.now c.args.node c.args.count c.below.result.now c.in-Children.left c.in-Children.right c.split_of-split.result c.requires.over c.below.ensures.built c.below.ensures.stand c.in-Children.is c.split_of-split.ensures.power in
    let pairs : Pairs = pairs_of c.args.nodes.now c.args.node in
    let index = c.args.index in
    let split = c.split_of-split.result in
    let half = c.in_ok-operations-in-Children.operations.items in
    let counted : length pairs ≡ c.args.count = c.requires.over.counted in
    let power : split ≡ largest_power_below (length pairs) = c.split_of-split.ensures.power ∙ ap largest_power_below (sym counted) in
    let more : 1 < length pairs = omega (arith, h.more) in
    let added = subst (λ (left : Pairs). AddsTo (key_at left index) left [] half) h.left_pairs c.in_ok-operations-in-Children.ensures.operations in
    let sibling = c.on_left_child.ensures ∙ ap left_child (c.digest.ensures ∙ h.right_root) in
    let items = c.push_reserved.ensures.items ∙ ap (λ operation. half ++ operation ∷ []) sibling in
    subst (AddsTo (key_at pairs index) pairs []) (sym items) (adds_on_left pairs split index [] half more power c.if-index-split.true added)

pub returns-in_ok-operations-in-Children-2-clause-operations : goal.returns-in_ok-operations-in-Children-2-clause-operations
returns-in_ok-operations-in-Children-2-clause-operations t c =
    let h = halved_below c.args.nodes.now c.args.node c.args.count c.below.result.now c.in-Children.left c.in-Children.right c.split_of-split.result c.requires.over c.below.ensures.built c.below.ensures.stand c.in-Children.is c.split_of-split.ensures.power in
    let pairs : Pairs = pairs_of c.args.nodes.now c.args.node in
    let index = c.args.index in
    let split = c.split_of-split.result in
    let half = c.in_ok-operations-in-Children-2.operations.items in
    let counted : length pairs ≡ c.args.count = c.requires.over.counted in
    let power : split ≡ largest_power_below (length pairs) = c.split_of-split.ensures.power ∙ ap largest_power_below (sym counted) in
    let more : 1 < length pairs = omega (arith, h.more) in
    let there : index < length pairs = omega arith in
    let added = subst (λ (right : Pairs). AddsTo (key_at right (index - split)) right [] half) h.right_pairs c.in_ok-operations-in-Children-2.ensures.operations in
    let sibling = c.on_right_child.ensures ∙ ap right_child (c.digest-else-index-split.ensures ∙ h.left_root) in
    let items = c.push_reserved-else-index-split.ensures.items ∙ ap (λ operation. half ++ operation ∷ []) sibling in
    subst (AddsTo (key_at pairs index) pairs []) (sym items)
    (adds_on_right pairs split index [] half c.requires.sorted c.split_of-split.ensures.some more power c.if-index-split.false there added)
