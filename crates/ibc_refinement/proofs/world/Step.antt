-- What a step of a world leaves of each ledger, and what all have seen then.
use Rattle.std.proofs.Common.{◌≡◌, ℕ, ◌<◌, List, ◌++◌, length, sym, ap, ◌∙◌, subst, Some, slice_get, arith, append-nil, inl, inr}
use Rattle.std.proofs.lemmas.Bool.{cases_lt}
use Rattle.ibc_ids.specs.Publications.{published_by}
use Rattle.ibc_ids.specs.declared.publication.Publication.{Publication}
use Rattle.ibc_machine.specs.declared.event.Event.{Event}
use Rattle.ibc_machine.specs.declared.reply.Reply.{Reply}
use Rattle.ibc_machine.specs.ledger.Ledgers.{Ledger, IsLedger, SeesMore}
use Rattle.ibc_machine.specs.promises.Worlds.{AreLedgersOf}
use Rattle.ibc_refinement.proofs.ChangedPlaces.{get_there, get_within}
use Rattle.ibc_refinement.specs.World.{WorldState, AreOfFirstChains, IsWorld}
use Rattle.ibc_refinement.specs.Steps.{IsStep}
use Rattle.ibc_refinement.proofs.world.Publications.{nothing_behind, within_behind, none_more}
use Rattle.ibc_refinement.proofs.world.Grown.{sees_only}

module _ (old new : WorldState) (event : Event) (given : Reply) (is : IsWorld old) (step : IsStep old event given new) where
  -- ledger k before and after
  pub record BothAt (k : ℕ) : Type 0 where
    pub before : Ledger
    pub after : Ledger
    pub was : slice_get old.ledgers k ≡ Some before
    pub now : slice_get new.ledgers k ≡ Some after

  pub both_at : (k : ℕ) → k < length old.ledgers → BothAt k
  both_at k low =
      let a = get_there old.ledgers k low in
      let b = get_there new.ledgers k (omega (arith, low, step.as_many)) in
      record { before = a.0; after = b.0; was = a.1; now = b.1 }

  pub before_of : (k : ℕ) (after : Ledger) → slice_get new.ledgers k ≡ Some after → (before : Ledger) × (slice_get old.ledgers k ≡ Some before)
  before_of k after now = get_there old.ledgers k (omega (arith, get_within new.ledgers k after now, step.as_many))

  -- each is still the ledger of its chain
  pub ledgers_of : ((k : ℕ) (before after : Ledger) → slice_get old.ledgers k ≡ Some before → slice_get new.ledgers k ≡ Some after → (after.genesis ≡ before.genesis) × (after.chain ≡ before.chain))
      → AreLedgersOf old.genesis new.ledgers
  ledgers_of same = record {
    each = λ k after now.
        let w = before_of k after now in
        let s = same k w.0 after w.1 now in
        let of = is.of.each k w.0 w.1 in
        (s.0 ∙ of.0, s.1 ∙ of.1, step.each_is k after now);
    all = step.as_many ∙ is.of.all;
  }

  -- all have seen more by what one of them has seen more
  pub grown : (k : ℕ) (before after : Ledger) (more : List Publication) → slice_get old.ledgers k ≡ Some before → slice_get new.ledgers k ≡ Some after → after.seen ≡ before.seen ++ more
      → step.publications ≡ is.publications ++ more
  grown k before after more was now seen = sym (step.seen k after now) ∙ seen ∙ ap (λ xs. xs ++ more) (is.seen k before was)

  -- a ledger that only saw more published nothing
  pub quiet : (k : ℕ) (before after : Ledger) → slice_get old.ledgers k ≡ Some before → slice_get new.ledgers k ≡ Some after → SeesMore before after
      → published_by k step.publications ≡ published_by k is.publications
  quiet k before after was now w =
      let of = is.of.each k before was in
      let one = sees_only before w.0 of.2 (subst IsLedger w.1 (step.each_is k after now)) in
      ap (published_by k) (sym (step.seen k after now) ∙ ap (λ (l : Ledger). l.seen) w.1)
      ∙ subst (λ c. published_by c (before.seen ++ w.0) ≡ published_by c before.seen) of.1 one
      ∙ ap (published_by k) (is.seen k before was)

  within_new : AreOfFirstChains (length old.ledgers) step.publications
  within_new = subst (λ n. AreOfFirstChains n step.publications) step.as_many step.within

  pub within_more : (more : List Publication) → step.publications ≡ is.publications ++ more → AreOfFirstChains (length old.ledgers) more
  within_more more e = within_behind (length old.ledgers) is.publications more (subst (AreOfFirstChains (length old.ledgers)) e within_new)

  -- where all only saw more, they have seen nothing new
  pub nothing_new : ((k : ℕ) (before after : Ledger) → slice_get old.ledgers k ≡ Some before → slice_get new.ledgers k ≡ Some after → SeesMore before after) → step.publications ≡ is.publications
  nothing_new sees =
      elim (cases_lt 0 (length old.ledgers)) [
        | inl some ↦
            let b = both_at 0 some in
            let w = sees 0 b.before b.after b.was b.now in
            let e = grown 0 b.before b.after w.0 b.was b.now (ap (λ (l : Ledger). l.seen) w.1) in
            let none = none_more (length old.ledgers) w.0 (within_more w.0 e) (λ c low.
            let at = both_at c low in
            nothing_behind c is.publications w.0 (ap (published_by c) (sym e) ∙ quiet c at.before at.after at.was at.now (sees c at.before at.after at.was at.now))) in
            e ∙ ap (λ xs. is.publications ++ xs) none ∙ append-nil is.publications
        | inr past ↦
            none_more (length old.ledgers) step.publications within_new (λ c low. absurd (omega arith))
            ∙ sym (none_more (length old.ledgers) is.publications is.within (λ c low. absurd (omega arith)))
      ]
