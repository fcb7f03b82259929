use Rattle.std.proofs.Common.{◌∙◌, All, ℕ, ap, arith, length, subst, sym}
use Rattle.std.proofs.lemmas.List.{nil_from_length}
use Rattle.std.proofs.lemmas.List.Elements.{All-head, All-tail}
use Rattle.std.specs.Vec.Iter.{into_iter_items}
use Rattle.ibc_race.specs.SharedWorlds.{HasItsBook}
use Rattle.ibc_race.proofs.Booked.{Booked}
use Rattle.ibc_race.proofs.Gathering.{all_made, one_more_made}
use Rattle.ibc_race.proofs.share.Goals as goal

pub shared-requires : goal.shared-requires
shared-requires g c =
    let P : Booked → Type 0 = HasItsBook g.W.WorldBrand.table g.W.WorldBrand.genesis g.W.WorldBrand.book in
    All-head P (c.in-Some.ledger, c.in-Some.opened) (into_iter_items c.next.new.self) (subst (All P) c.in-Some.ensures.steps.0 c.loop-ledger.invariant.left)

pub loop-ledger-preserved : goal.loop-ledger-preserved
loop-ledger-preserved g c =
    let P : Booked → Type 0 = HasItsBook g.W.WorldBrand.table g.W.WorldBrand.genesis g.W.WorldBrand.book in
    let at = c.loop-ledger in
    let booked : Booked = (c.in-Some.ledger, c.in-Some.opened) in
    let chain : Booked → ℕ = λ p. p.0.ledger.chain in
    record {
      left = All-tail P booked (into_iter_items c.next.new.self) (subst (All P) c.in-Some.ensures.steps.0 at.invariant.left);
      counted =
          let long = ap length c.in-Some.ensures.steps.0 in
          let one_less = c.in-Some.ensures.steps.1 in
          let counted = at.invariant.counted in
          omega arith;
      made = one_more_made chain at.chains.items c.push.new.self.items (into_iter_items at.ledger-iterator) (into_iter_items c.next.new.self) c.args.ledgers.items booked
          c.in_ok-shared.field-0 c.in_ok-push.ensures.items c.in_ok-shared.ensures.ok c.in-Some.ensures.steps.0 at.invariant.made;
    }

pub returns-clause-chains : goal.returns-clause-chains
returns-clause-chains g c =
    let at = c.loop-ledger in
    let none = nil_from_length (into_iter_items at.ledger-iterator) (sym at.invariant.counted ∙ c.in-None.ensures.steps.0) in
    all_made (λ p. p.0.ledger.chain) at.chains.items (into_iter_items at.ledger-iterator) c.args.ledgers.items none at.invariant.made
