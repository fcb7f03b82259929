-- The tables are made and the beginning is put in, one call behind another.
use Rattle.std.proofs.Common.{◌≡◌, List, ℕ, [], sym, ap, subst, ◌∙◌, arith}
use Rattle.std.specs.Prelude.{IsTrue}
use Rattle.sqlite.specs.State.{State, HasCleanDisk, Survives}
use Rattle.sqlite.proofs.StateLemmas.{survives_then}
use Rattle.ibc_journal.specs.Tables.{no_schema, meta_schema, journal_schema, HasRows, IsJournal}
use Rattle.ibc_journal.specs.Crashes.{HasBegun, GoesOn, HasCommitted, LeavesBegun}

abbrev pub MakesMeta : State → State → Type 0
MakesMeta old new = old.now.schema ≡ no_schema → (new.now.schema ≡ meta_schema) × (new.now.trees 0 ≡ []) × (IsTrue old.in_transaction → GoesOn old new)

abbrev pub MakesEntries : State → State → Type 0
MakesEntries old new =
    old.now.schema ≡ meta_schema → old.now.trees 0 ≡ [] → (new.now.schema ≡ journal_schema) × (new.now.trees 0 ≡ []) × (new.now.trees 1 ≡ []) × (IsTrue old.in_transaction → GoesOn old new)

abbrev pub PutsBeginning : State → State → List ℕ → Type 0
PutsBeginning old new genesis =
    old.now.schema ≡ journal_schema → old.now.trees 0 ≡ [] → old.now.trees 1 ≡ [] → IsJournal new.now genesis [] × (IsTrue old.in_transaction → GoesOn old new)

abbrev pub Fills : State → State → List ℕ → Type 0
Fills old new genesis = old.now.schema ≡ no_schema → IsTrue old.in_transaction → IsJournal new.now genesis [] × GoesOn old new

module _ (a b : State) (one : HasCleanDisk b → MakesMeta a b) (quiet : Survives a b (λ _. a.now.schema ≡ no_schema → ¬ IsTrue a.in_transaction)) where
  pub two_calls : (c : State) → Survives b c (λ _. b.now.schema ≡ meta_schema → ¬ IsTrue b.in_transaction) → Survives a c (λ _. a.now.schema ≡ no_schema → ¬ IsTrue a.in_transaction)
  two_calls c next =
      survives_then a b c _ _ _ (λ clean db h. h) (λ clean db h. λ has inside. let made = one (omega (arith, next.clean, clean)) has in h made.0 (made.2 inside).inside) quiet next

  module _ (c : State) (two : HasCleanDisk c → MakesEntries b c) (calm : Survives b c (λ _. b.now.schema ≡ meta_schema → ¬ IsTrue b.in_transaction)) where
    pub three_calls : (d : State) → Survives c d (λ _. c.now.schema ≡ journal_schema → ¬ IsTrue c.in_transaction) → Survives a d (λ _. a.now.schema ≡ no_schema → ¬ IsTrue a.in_transaction)
    three_calls d next =
        survives_then a c d _ _ _ (λ clean db h. h) (λ clean db h. λ has inside.
        let made = one (omega (arith, calm.clean, next.clean, clean)) has in
        let more = two (omega (arith, next.clean, clean)) made.0 made.1 in
        h more.0 (more.3 (made.2 inside).inside).inside) (two_calls c calm) next

    pub fills : (d : State) (genesis : List ℕ) → Survives c d (λ _. c.now.schema ≡ journal_schema → ¬ IsTrue c.in_transaction) → PutsBeginning c d genesis → HasCleanDisk d → Fills a d genesis
    fills d genesis next puts clean has inside =
        let made = one (omega (arith, calm.clean, next.clean, clean)) has in
        let more = two (omega (arith, next.clean, clean)) made.0 made.1 in
        let put = puts more.0 more.1 more.2 in
        let first = made.2 inside in
        let second = more.3 first.inside in
        let third = put.1 second.inside in
        (put.0, record { inside = third.inside; committed = third.committed ∙ second.committed ∙ first.committed })

-- ---- the transaction

module _ (old begun : State) (genesis : List ℕ) (begins : HasCleanDisk begun → HasBegun old begun) (quiet : Survives old begun (λ _. ⊥)) where
  begun_empty : HasCleanDisk begun → old.now.schema ≡ no_schema → begun.now.schema ≡ no_schema
  begun_empty clean has = ap (λ d. d.schema) (begins clean).now ∙ has

  -- before the commit nothing is left of it
  pub before_commit : (full : State) → Survives begun full (λ _. begun.now.schema ≡ no_schema → ¬ IsTrue begun.in_transaction) → Survives old full (LeavesBegun old genesis)
  before_commit full fill =
      survives_then old begun full _ _ _ (λ clean db none. absurd none) (λ clean db h. λ has. let calm : HasCleanDisk begun = omega (arith, fill.clean, clean) in absurd (h (begun_empty calm has) (begins calm).inside)) quiet fill

  module _ (full new : State) (made : HasCleanDisk full → Fills begun full genesis) (fill : Survives begun full (λ _. begun.now.schema ≡ no_schema → ¬ IsTrue begun.in_transaction)) (all : Survives full new (λ trees. trees ≡ full.now.trees)) where
    its_journal : HasCleanDisk new → old.now.schema ≡ no_schema → IsJournal full.now genesis []
    its_journal clean has =
        let calm : HasCleanDisk begun = omega (arith, fill.clean, all.clean, clean) in
        (made (omega (arith, all.clean, clean)) (begun_empty calm has) (begins calm).inside).0

    -- the commit leaves all of it
    pub with_commit : Survives old new (LeavesBegun old genesis)
    with_commit =
        survives_then old full new _ _ _ (λ clean db h. h) (λ clean db is. λ has. subst (HasRows genesis []) (sym is) (its_journal clean has).rows) (before_commit full fill) all

    pub begun_all : (HasCleanDisk new → HasCommitted full new) → old.now.schema ≡ no_schema → HasCleanDisk new → IsJournal new.committed genesis []
    begun_all commits has clean = subst (λ d. IsJournal d genesis []) (sym (commits clean).committed) (its_journal clean has)
