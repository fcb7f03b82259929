-- A change tells what a key has, and else what is settled.
use Rattle.std.proofs.Common.{ap, ◌∙◌, sym}
use Rattle.ibc_ids.specs.Maps.{at}
use Rattle.ibc_maps.specs.SettledPairs.{settled_pairs}
use Rattle.ibc_maps.proofs.Changes.{found_in_changes, found_settled}
use Rattle.ibc_maps.proofs.shared_map.SharedMap.get.Goals as goal

pub returns-in-Some : goal.returns-in-Some
returns-in-Some g c =
    found_in_changes g.met.K.Ord.total c.args.key.now c.self.inside.changes.pairs (settled_pairs c.self.inside.settled) c.args.self.now.pairs c.in-Some.change.now _
    c.self.invariant.0.in_changes c.self.invariant.0.in_settled (ap (λ m. m.pairs) c.self.view_is) c.as_ref.ensures.value c.in-Some.ensures

pub returns-in-Some-settled : goal.returns-in-Some-settled
returns-in-Some-settled g c =
    found_settled g.met.K.Ord.total c.args.key.now c.self.inside.changes.pairs (settled_pairs c.self.inside.settled) c.args.self.now.pairs _
    c.self.invariant.0.in_changes c.self.invariant.0.in_settled (ap (λ m. m.pairs) c.self.view_is)
    (c.get-in-Some-settled.ensures ∙ ap (at g.K.Ord.cmp c.args.key.now) c.deref.ensures ∙ ap (λ s. at g.K.Ord.cmp c.args.key.now (settled_pairs s)) (sym c.in-Some-settled.is)) c.in-None.ensures

pub returns-in-None-settled : goal.returns-in-None-settled
returns-in-None-settled g c =
    found_settled g.met.K.Ord.total c.args.key.now c.self.inside.changes.pairs (settled_pairs c.self.inside.settled) c.args.self.now.pairs _
    c.self.invariant.0.in_changes c.self.invariant.0.in_settled (ap (λ m. m.pairs) c.self.view_is)
    (ap (λ s. at g.K.Ord.cmp c.args.key.now (settled_pairs s)) (sym c.in-None-settled.is)) c.in-None.ensures
