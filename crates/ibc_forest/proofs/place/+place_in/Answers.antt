-- The place in the half that the first key of the right one decides for.
use Rattle.std.proofs.Common.{◌≡◌, sym, ap, ◌∙◌, arith, Less, Greater}
use Rattle.std.specs.FinMap.{is_sorted}
use Rattle.ibc_ids.specs.Texts.{text_cmp}
use Rattle.ibc_merkle.specs.Tree.{Pairs}
use Rattle.ibc_merkle.specs.PairPlaces.{key_at}
use Rattle.ibc_merkle.proofs.Edits.{take_is_sorted, drop_is_sorted}
use Rattle.ibc_forest.specs.Heights.{pairs_of}
use Rattle.ibc_forest.proofs.Climbing.{if_both}
use Rattle.ibc_forest.proofs.Descents.{halved_below}
use Rattle.ibc_forest.proofs.KeysAroundPlaces.{here_at, first_right, left_here, right_here, left_gap, right_gap, if_both_err}
use Rattle.ibc_forest.proofs.place.+place_in.Goals as goal

pub compare_first-requires-in-Children : goal.compare_first-requires-in-Children
compare_first-requires-in-Children t c =
    let h = halved_below c.args.nodes.now c.args.root c.args.count c.below.result.now c.in-Children.left c.in-Children.right c.split_of-split.result c.requires.over c.below.ensures.built c.below.ensures.stand c.in-Children.is c.split_of-split.ensures.power in
    h.on_right.there

pub place_in-requires : goal.place_in-requires
place_in-requires t c =
    let h = halved_below c.args.nodes.now c.args.root c.args.count c.below.result.now c.in-Children.left c.in-Children.right c.split_of-split.result c.requires.over c.below.ensures.built c.below.ensures.stand c.in-Children.is c.split_of-split.ensures.power in
    let pairs : Pairs = pairs_of c.args.nodes.now c.args.root in
    (omega arith, (h.on_right, ap (is_sorted text_cmp) h.right_pairs ∙ drop_is_sorted c.split_of-split.result pairs c.requires.sorted))

pub place_in-requires-in-Greater-compare_first : goal.place_in-requires-in-Greater-compare_first
place_in-requires-in-Greater-compare_first t c =
    let h = halved_below c.args.nodes.now c.args.root c.args.count c.below.result.now c.in-Children.left c.in-Children.right c.split_of-split.result c.requires.over c.below.ensures.built c.below.ensures.stand c.in-Children.is c.split_of-split.ensures.power in
    let pairs : Pairs = pairs_of c.args.nodes.now c.args.root in
    (omega arith, (h.on_left, ap (is_sorted text_cmp) h.left_pairs ∙ take_is_sorted c.split_of-split.result pairs c.requires.sorted))

pub returns-in-Ok-clause-here : goal.returns-in-Ok-clause-here
returns-in-Ok-clause-here t c =
    let h = halved_below c.args.nodes.now c.args.root c.args.count c.below.result.now c.in-Children.left c.in-Children.right c.split_of-split.result c.requires.over c.below.ensures.built c.below.ensures.stand c.in-Children.is c.split_of-split.ensures.power in
    right_here (pairs_of c.args.nodes.now c.args.root) (pairs_of c.args.nodes.now c.in-Children.right) c.args.key.now c.split_of-split.result c.in-Ok.index h.right_pairs c.in-Ok.ensures.here

pub returns-in-Err-clause-gap : goal.returns-in-Err-clause-gap
returns-in-Err-clause-gap t c =
    let h = halved_below c.args.nodes.now c.args.root c.args.count c.below.result.now c.in-Children.left c.in-Children.right c.split_of-split.result c.requires.over c.below.ensures.built c.below.ensures.stand c.in-Children.is c.split_of-split.ensures.power in
    let pairs : Pairs = pairs_of c.args.nodes.now c.args.root in
    let half : Pairs = pairs_of c.args.nodes.now c.in-Children.right in
    let split = c.split_of-split.result in
    let counted = c.requires.over.counted in
    let some = h.on_right.some in
    let less : text_cmp (key_at pairs split) c.args.key.now ≡ Less =
    ap (λ key. text_cmp key c.args.key.now) (sym (first_right pairs half split h.right_pairs)) ∙ sym c.compare_first-in-Children.ensures ∙ c.in-Less-compare_first.is
    in
    right_gap pairs half c.args.key.now split c.in-Err.index c.requires.sorted h.right_pairs (omega arith) less c.in-Err.ensures.gap

pub returns-in-Equal-compare_first-clause-here : goal.returns-in-Equal-compare_first-clause-here
returns-in-Equal-compare_first-clause-here t c =
    let h = halved_below c.args.nodes.now c.args.root c.args.count c.below.result.now c.in-Children.left c.in-Children.right c.split_of-split.result c.requires.over c.below.ensures.built c.below.ensures.stand c.in-Children.is c.split_of-split.ensures.power in
    let pairs : Pairs = pairs_of c.args.nodes.now c.args.root in
    let half : Pairs = pairs_of c.args.nodes.now c.in-Children.right in
    let split = c.split_of-split.result in
    let counted = c.requires.over.counted in
    let some = h.on_right.some in
    here_at pairs c.args.key.now split (omega arith)
    (ap (λ key. text_cmp key c.args.key.now) (sym (first_right pairs half split h.right_pairs)) ∙ sym c.compare_first-in-Children.ensures ∙ c.in-Equal-compare_first.is)

pub returns-in-Greater-compare_first-clause-here : goal.returns-in-Greater-compare_first-clause-here
returns-in-Greater-compare_first-clause-here t c =
    let h = halved_below c.args.nodes.now c.args.root c.args.count c.below.result.now c.in-Children.left c.in-Children.right c.split_of-split.result c.requires.over c.below.ensures.built c.below.ensures.stand c.in-Children.is c.split_of-split.ensures.power in
    if_both c.place_in-in-Greater-compare_first.result _ _ _
    (λ index found here. left_here (pairs_of c.args.nodes.now c.args.root) (pairs_of c.args.nodes.now c.in-Children.left) c.args.key.now c.split_of-split.result index h.left_pairs found here)
    c.place_in-in-Greater-compare_first.ensures.found c.place_in-in-Greater-compare_first.ensures.here

pub returns-in-Greater-compare_first-clause-gap : goal.returns-in-Greater-compare_first-clause-gap
returns-in-Greater-compare_first-clause-gap t c =
    let h = halved_below c.args.nodes.now c.args.root c.args.count c.below.result.now c.in-Children.left c.in-Children.right c.split_of-split.result c.requires.over c.below.ensures.built c.below.ensures.stand c.in-Children.is c.split_of-split.ensures.power in
    let pairs : Pairs = pairs_of c.args.nodes.now c.args.root in
    let half : Pairs = pairs_of c.args.nodes.now c.in-Children.right in
    let split = c.split_of-split.result in
    let counted = c.requires.over.counted in
    let some = h.on_right.some in
    let greater : text_cmp (key_at pairs split) c.args.key.now ≡ Greater =
    ap (λ key. text_cmp key c.args.key.now) (sym (first_right pairs half split h.right_pairs)) ∙ sym c.compare_first-in-Children.ensures ∙ c.in-Greater-compare_first.is
    in
    if_both_err c.place_in-in-Greater-compare_first.result _ _ _
    (λ index within gap. left_gap pairs (pairs_of c.args.nodes.now c.in-Children.left) c.args.key.now split index c.requires.sorted h.left_pairs (omega arith) greater within gap)
    c.place_in-in-Greater-compare_first.ensures.within c.place_in-in-Greater-compare_first.ensures.gap
