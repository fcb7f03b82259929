-- One node more is added by its digest.
use Rattle.std.proofs.Common.{◌∙◌, refl, sym, subst, arith, get_or, List}
use Rattle.std.proofs.lemmas.List.{length-set}
use Rattle.ibc_merkle.specs.Tree.{Tree}
use Rattle.ibc_forest.specs.Gathered.{PairedBut}
use Rattle.ibc_forest.specs.Nodes.{Grows}
use Rattle.ibc_forest.proofs.Gathered.{digest_still, front_next, gathered_next}
use Rattle.ibc_forest.proofs.Pairing.{grows_not, grows_on, stand-grows}
use Rattle.ibc_forest.proofs.joining.make_together.Goals as goal

pub loop-k-init : goal.loop-k-init
loop-k-init c = record {
  gathered = subst (λ (trees : List Tree). PairedBut trees c.args.row.now c.args.above.now.items c.args.places.now) (sym c.hash_at-digests.ensures.trees) c.requires.gathered;
  counted = refl;
  grows = grows_not c.hash_at-digests.new.arena.trees;
  front = λ first within behind. refl;
  steps = refl;
}

pub add_over-requires-clause-digest : goal.add_over-requires-clause-digest
add_over-requires-clause-digest c =
    let trees = c.loop-k.arena.trees in
    let grows = subst (λ (before : List Tree). Grows before trees) c.hash_at-digests.ensures.trees c.loop-k.invariant.grows in
    digest_still c.args.arena.now.trees trees c.args.row.now c.args.above.now.items c.args.places.now c.hash_at-digests.result c.loop-k.k
    c.requires.row grows c.requires.gathered c.hash_at-digests.ensures.digests
    (let four = c.requires.four in let within = c.loop-k-test.true in omega arith) c.loop-k-test.true

pub loop-k-preserved : goal.loop-k-preserved
loop-k-preserved c =
    let trees = c.loop-k.arena.trees in
    let after = c.add_over.new.self.trees in
    let row = c.args.row.now in
    let above = c.loop-k.above.items in
    let places = c.args.places.now in
    let k = c.loop-k.k in
    let node = c.in_ok-node.node in
    let so_far = c.loop-k.invariant in
    let grows = subst (λ (before : List Tree). Grows before trees) c.hash_at-digests.ensures.trees so_far.grows in
    record {
      gathered =
          gathered_next trees after row above places k node (stand-grows c.args.arena.now.trees trees row grows c.requires.row) c.loop-k-test.true so_far.gathered
          c.in_ok-node.ensures.grows c.in_ok-node.ensures.there c.in_ok-node.ensures.made;
      counted = length-set above (get_or places k 0) node ∙ so_far.counted;
      grows = grows_on c.hash_at-digests.new.arena.trees trees after so_far.grows c.in_ok-node.ensures.grows;
      front = front_next c.args.above.now.items above places k node c.loop-k-test.true so_far.front;
      steps = c.in_ok-node.ensures.steps ∙ so_far.steps;
    }

pub returns-in_err-node-clause-grows : goal.returns-in_err-node-clause-grows
returns-in_err-node-clause-grows c =
    let before = c.hash_at-digests.new.arena.trees in
    let after = c.add_over.new.self.trees in
    let grows = grows_on before c.loop-k.arena.trees after c.loop-k.invariant.grows c.add_over.ensures.grows in
    subst (λ (trees : List Tree). Grows trees after) c.hash_at-digests.ensures.trees grows
