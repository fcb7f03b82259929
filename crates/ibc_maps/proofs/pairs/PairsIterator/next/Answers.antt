-- A settled pair below all changes, a new value, or a removal.
use Rattle.std.proofs.Common.{sym, ◌∙◌}
use Rattle.ibc_maps.proofs.Merging.{goes, passed_turn, given_turn, skipped_turn, sorted_turn}
use Rattle.ibc_maps.proofs.pairs.PairsIterator.next.Goals as goal

pub returns-then-begins_below-clause-steps : goal.returns-then-begins_below-clause-steps
returns-then-begins_below-clause-steps g c =
    passed_turn g.met.K.Ord.total (λ pair. (pair.0.now, pair.1.now)) c.take.result c.in-Some.change.now c.in-Some.changes.now c.loop-change.self-inside.changes.now c.loop-change.self-inside.settled c.begins_below.new.self c.take.new.self
    c.args.self.now c.in-Some.ensures.cases.0 c.loop-change.invariant.sorted (sym c.begins_below.ensures.below ∙ c.if-begins_below.true) c.begins_below.ensures.passed
    (c.loop-change.invariant.same ∙ c.self.view_is) c.take.ensures

pub returns-then-begins_below-clause-goes : goal.returns-then-begins_below-clause-goes
returns-then-begins_below-clause-goes g c = goes (λ pair. (pair.0.now, pair.1.now)) _ (λ rest. tt) c.take.result c.args.self.now _ (returns-then-begins_below-clause-steps g c)

pub returns-in-Some-1₀-clause-steps : goal.returns-in-Some-1₀-clause-steps
returns-in-Some-1₀-clause-steps g c =
    given_turn g.met.K.Ord.total c.self.invariant.1 c.in-Some.change.now c.in-Some-1₀.value c.in-Some.changes.now c.loop-change.self-inside.changes.now c.loop-change.self-inside.settled
    c.begins_below.new.self c.args.self.now c.in-Some.ensures.cases.0 c.loop-change.invariant.sorted (sym c.begins_below.ensures.below ∙ c.if-begins_below.false) c.begins_below.ensures.passed
    c.in-Some-1₀.is (c.loop-change.invariant.same ∙ c.self.view_is)

pub returns-in-Some-1₀-clause-goes : goal.returns-in-Some-1₀-clause-goes
returns-in-Some-1₀-clause-goes g c = goes (λ pair. (pair.0.now, pair.1.now)) _ (λ rest. tt) _ c.args.self.now _ (returns-in-Some-1₀-clause-steps g c)

pub loop-change-preserved : goal.loop-change-preserved
loop-change-preserved g c = record {
  same =
      skipped_turn g.met.K.Ord.total c.in-Some.change.now c.in-Some.changes.now c.loop-change.self-inside.changes.now c.loop-change.self-inside.settled c.begins_below.new.self
      c.in-Some.ensures.cases.0 c.loop-change.invariant.sorted (sym c.begins_below.ensures.below ∙ c.if-begins_below.false) c.begins_below.ensures.passed c.in_default-1₀.not-Some
      ∙ c.loop-change.invariant.same;
  sorted =
      sorted_turn g.met.K.Ord.total c.in-Some.change.now c.in-Some.changes.now c.loop-change.self-inside.changes.now c.loop-change.self-inside.settled c.begins_below.new.self
      c.in-Some.ensures.cases.0 c.loop-change.invariant.sorted c.begins_below.ensures.passed;
}
