-- The nodes over pairs, and an odd last one.
use Rattle.std.proofs.Common.{◌≡◌, ◌*◌, ◌/◌, ◌++◌, length, take, drop, refl, sym, ap, ◌∙◌, arith, subst}
use Rattle.std.proofs.lemmas.List.{take-append-le}
use Rattle.ibc_forest.specs.Levels.{pair_up}
use Rattle.ibc_forest.specs.NodeLevels.{AreFirstAbove}
use Rattle.ibc_forest.proofs.Pairing.{PairedAll, paired_end, paired_first, grows_not, stand-grows, trees_at-grows}
use Rattle.ibc_forest.proofs.rows.row_above.Goals as goal

pub add_pairs-requires-clause-above : goal.add_pairs-requires-clause-above
add_pairs-requires-clause-above c =
    let known = c.args.known.now in
    let items : c.extend_from_slice.new.self.items ≡ known = c.in_ok-extend_from_slice.ensures.items ∙ ap (λ xs. xs ++ known) c.in_ok-above.ensures.items in
    subst (AreFirstAbove c.args.arena.now.trees c.args.row.now) (sym items) (c.requires.stand, c.requires.few, c.requires.known)

end : (c : goal.In_ok-add_odd) → PairedAll c.add_pairs.new.arena.trees c.add_pairs.new.arena.trees c.args.row.now c.add_odd.new.above.items
end c =
    let trees = c.add_pairs.new.arena.trees in
    let row = c.args.row.now in
    let above = c.add_pairs.new.above.items in
    let half = c.in_ok-add_pairs.ensures.half in
    paired_end trees trees row above c.add_odd.new.above.items (length above)
    (paired_first trees row above (length above) refl c.in_ok-add_pairs.ensures.above) half
    (grows_not trees) (stand-grows c.args.arena.now.trees trees row c.in_ok-add_pairs.ensures.grows c.requires.row) c.in_ok-add_odd.ensures

pub returns-clause-level : goal.returns-clause-level
returns-clause-level c = (end c).level ∙ ap pair_up (trees_at-grows c.args.arena.now.trees c.add_pairs.new.arena.trees c.args.row.now c.in_ok-add_pairs.ensures.grows c.requires.row)

pub returns-clause-stand : goal.returns-clause-stand
returns-clause-stand c = (end c).stand

pub returns-clause-steps : goal.returns-clause-steps
returns-clause-steps c =
    let counted = (end c).counted in
    let half = c.in_ok-add_pairs.ensures.half in
    let known : length c.extend_from_slice.new.self.items ≡ length c.args.known.now = ap length (c.in_ok-extend_from_slice.ensures.items ∙ ap (λ xs. xs ++ c.args.known.now) c.in_ok-above.ensures.items) in
    let pairs = c.in_ok-add_pairs.ensures.steps in
    omega arith

pub returns-clause-half : goal.returns-clause-half
returns-clause-half c = let counted = (end c).counted in omega arith

pub returns-clause-longer : goal.returns-clause-longer
returns-clause-longer c = let counted = (end c).counted in let few = c.requires.few in omega arith

pub returns-clause-front : goal.returns-clause-front
returns-clause-front c =
    let known = c.args.known.now in
    let n = length known in
    let first = c.extend_from_slice.new.self.items in
    let all = c.add_pairs.new.above.items in
    let items : first ≡ known = c.in_ok-extend_from_slice.ensures.items ∙ ap (λ xs. xs ++ known) c.in_ok-above.ensures.items in
    let half = c.in_ok-add_pairs.ensures.half in
    let few = c.requires.few in
    ap (take n) c.in_ok-add_odd.ensures
    ∙ take-append-le n all (drop (2 * (length c.args.row.now / 2)) c.args.row.now) (omega arith)
    ∙ subst (λ xs. take (length xs) all ≡ xs) items c.in_ok-add_pairs.ensures.front
