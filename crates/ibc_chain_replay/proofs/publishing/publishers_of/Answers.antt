-- Each pass that is left is a chain's own.
use Rattle.std.proofs.Common.{◌∙◌, sym, subst}
use Rattle.std.specs.List.{All}
use Rattle.std.proofs.lemmas.List.Elements.{All-head, All-tail}
use Rattle.std.specs.Vec.Iter.{into_iter_items}
use Rattle.ibc_chain_replay.specs.Publishing.{IsOwnPassOf}
use Rattle.ibc_chain_replay.proofs.publishing.publishers_of.Goals as goal

pub loop-pass-init : goal.loop-pass-init
loop-pass-init c = subst (All (IsOwnPassOf c.args.table.now.value)) (sym c.into_iter-pass-iterator.ensures.into_iter_gives.0) c.requires

pub loop-pass-preserved : goal.loop-pass-preserved
loop-pass-preserved c =
    let P = IsOwnPassOf c.args.table.now.value in
    All-tail P c.in-Some.pass (into_iter_items c.next.new.self) (subst (All P) c.in-Some.ensures.steps.0 c.loop-pass.invariant)

pub new-requires : goal.new-requires
new-requires c =
    let P = IsOwnPassOf c.args.table.now.value in
    let own = All-head P c.in-Some.pass (into_iter_items c.next.new.self) (subst (All P) c.in-Some.ensures.steps.0 c.loop-pass.invariant) in
    (own.0 ∙ sym c.in_ok-table.ensures, own.1)
