-- Ledgers that are gathered, in any order, and have met are of one table; and each chain has one.
use Rattle.std.proofs.Common.{◌≡◌, ℕ, zero, suc, ◌+◌, ◌≤◌, ◌<◌, Bool, true, false, cond, eqb, List, [], ◌∷◌, ◌++◌, length, map, filter, take, refl, sym, ap, ◌∙◌, subst, Some, slice_get, arith, eqb-true, eq-eqb, length-append}
use Rattle.std.specs.Prelude.{◌||◌}
use Rattle.std.specs.List.{list_all, list_any, flat_map, range_with_len}
use Rattle.std.proofs.lemmas.Bool.{and_parts, and_from, false≢true}
use Rattle.std.proofs.lemmas.List.{take_all, take-append-le}
use Rattle.ibc_ids.specs.Publications.{published_by}
use Rattle.ibc_ids.specs.declared.publication.Publication.{Publication}
use Rattle.ibc_machine.specs.chain.Genesis.{GenesisState}
use Rattle.ibc_machine.specs.ledger.Replay.{LedgerState, starting_state}
use Rattle.ibc_machine.specs.ledger.Ledgers.{Ledger, IsLedger, SeesMore, published_as}
use Rattle.ibc_machine.specs.promises.Worlds.{AreOfOneTable, of_chain, is_complete}
use Rattle.ibc_refinement.specs.Audits.{AreOfGenesis}
use Rattle.ibc_refinement.proofs.ChangedPlaces.{get_there, get_within}
use Rattle.ibc_refinement.proofs.SeenMore.{replay_stays}
use Rattle.ibc_refinement.specs.World.{AreOfFirstChains}
use Rattle.ibc_refinement.specs.Meetings.{HaveMet}
use Rattle.ibc_refinement.proofs.world.Together.{first_within, rest_within}

-- ---- one ledger for each chain

module _ (test : Ledger → Bool) where
  any_of_some : (xs : List Ledger) → length (filter test xs) ≡ 1 → list_any test xs ≡ true
  any_of_some [] e = absurd (omega arith)
  any_of_some (x ∷ xs) e = elim (test x) as (λ b. length (cond b (x ∷ filter test xs) (filter test xs)) ≡ 1 → (b || list_any test xs) ≡ true) [
    | true ↦ λ _. refl
    | false ↦ λ e. any_of_some xs e
  ] e

-- what all numbers pass, one of them passes
all_within : (f : ℕ → Bool) (n a k : ℕ) → list_all f (range_with_len a n) ≡ true → a ≤ k → k < a + n → f k ≡ true
all_within f zero a k all low high = absurd (omega arith)
all_within f (suc n) a k all low high =
    let parts = and_parts (f a) (list_all f (range_with_len (a + 1) n)) all in
    elim (eqb a k) as (λ b. eqb a k ≡ b → f k ≡ true) [
      | true ↦ λ same. ap f (sym (eqb-true a k same)) ∙ parts.0
      | false ↦ λ apart.
          let away : a ≡ k → ⊥ = λ same. false≢true (sym apart ∙ eq-eqb a k same) in
          all_within f n (a + 1) k parts.1 (omega (arith, away)) (omega arith)
    ] refl

-- how many ledgers the chains a, a + 1 and so on have
abbrev total : List Ledger → ℕ → ℕ → ℕ
total ledgers a n = length (flat_map (λ k. of_chain k ledgers) (range_with_len a n))

total_more : (ledgers : List Ledger) (a n : ℕ) → total ledgers a (suc n) ≡ length (of_chain a ledgers) + total ledgers (a + 1) n
total_more ledgers a n = length-append (of_chain a ledgers) (flat_map (λ k. of_chain k ledgers) (range_with_len (a + 1) n))

of_other : (l : Ledger) (ledgers : List Ledger) (a : ℕ) → (l.chain ≡ a → ⊥) → of_chain a (l ∷ ledgers) ≡ of_chain a ledgers
of_other l ledgers a away = elim (eqb l.chain a) as (λ b. eqb l.chain a ≡ b → cond b (l ∷ of_chain a ledgers) (of_chain a ledgers) ≡ of_chain a ledgers) [
  | true ↦ λ same. absurd (away (eqb-true l.chain a same))
  | false ↦ λ _. refl
] refl

of_own : (l : Ledger) (ledgers : List Ledger) (a : ℕ) → l.chain ≡ a → of_chain a (l ∷ ledgers) ≡ l ∷ of_chain a ledgers
of_own l ledgers a same = ap (λ b. cond b (l ∷ of_chain a ledgers) (of_chain a ledgers)) (eq-eqb l.chain a same)

apart_total : (l : Ledger) (ledgers : List Ledger) (n a : ℕ) → l.chain < a → total (l ∷ ledgers) a n ≡ total ledgers a n
apart_total l ledgers zero a low = refl
apart_total l ledgers (suc n) a low =
    let here = ap length (of_other l ledgers a (λ same. omega (arith, same))) in
    let rest = apart_total l ledgers n (a + 1) (omega arith) in
    let more = total_more (l ∷ ledgers) a n in
    let was = total_more ledgers a n in
    omega (arith, here, rest, more, was)

own_total : (l : Ledger) (ledgers : List Ledger) (n a : ℕ) → a ≤ l.chain → l.chain < a + n → total (l ∷ ledgers) a n ≡ suc (total ledgers a n)
own_total l ledgers zero a low high = absurd (omega arith)
own_total l ledgers (suc n) a low high =
    let more = total_more (l ∷ ledgers) a n in
    let was = total_more ledgers a n in
    elim (eqb l.chain a) as (λ b. eqb l.chain a ≡ b → total (l ∷ ledgers) a (suc n) ≡ suc (total ledgers a (suc n))) [
      | true ↦ λ same.
          let is = eqb-true l.chain a same in
          let here = ap length (of_own l ledgers a is) in
          let rest = apart_total l ledgers n (a + 1) (omega (arith, is)) in
          omega (arith, here, rest, more, was)
      | false ↦ λ apart.
          let away : l.chain ≡ a → ⊥ = λ same. false≢true (sym apart ∙ eq-eqb l.chain a same) in
          let here = ap length (of_other l ledgers a away) in
          let rest = own_total l ledgers n (a + 1) (omega (arith, away)) (omega arith) in
          omega (arith, here, rest, more, was)
    ] refl

none_total : (n a : ℕ) → total [] a n ≡ 0
none_total zero a = refl
none_total (suc n) a = none_total n (a + 1)

-- where the numbers are below n, all ledgers are counted
all_total : (n : ℕ) (ledgers : List Ledger) → ((k : ℕ) (l : Ledger) → slice_get ledgers k ≡ Some l → l.chain < n) → total ledgers 0 n ≡ length ledgers
all_total n [] below = none_total n 0
all_total n (l ∷ ledgers) below =
    own_total l ledgers n 0 (omega arith) (let low = below 0 l refl in omega (arith, low)) ∙ ap suc (all_total n ledgers (λ k x there. below (suc k) x there))

-- where each chain has one ledger, there are as many as chains
whole_total : (ledgers : List Ledger) (n a : ℕ) → list_all (λ k. eqb (length (of_chain k ledgers)) 1) (range_with_len a n) ≡ true → total ledgers a n ≡ n
whole_total ledgers zero a whole = refl
whole_total ledgers (suc n) a whole =
    let parts = and_parts (eqb (length (of_chain a ledgers)) 1) (list_all (λ k. eqb (length (of_chain k ledgers)) 1) (range_with_len (a + 1) n)) whole in
    let one = eqb-true (length (of_chain a ledgers)) 1 parts.0 in
    let rest = whole_total ledgers n (a + 1) parts.1 in
    let more = total_more ledgers a n in
    omega (arith, one, rest, more)

-- ---- what they have seen

module _ (genesis : GenesisState) (ledgers : List Ledger) (of : AreOfGenesis genesis ledgers) (complete : is_complete genesis ledgers ≡ true) where
  pub as_many : length genesis.chains ≡ length ledgers
  as_many =
      sym (whole_total ledgers (length genesis.chains) 0 complete)
      ∙ all_total (length genesis.chains) ledgers (λ k l there. let g = of k l there in subst (λ (g : GenesisState). l.chain < length g.chains) g.0 g.1.number)

  known : (publications : List Publication) → AreOfFirstChains (length ledgers) publications → list_all (λ (p : Publication). list_any (λ (l : Ledger). eqb l.chain p.chain) ledgers) publications ≡ true
  known [] within = refl
  known (p ∷ publications) within =
      let low = first_within (length ledgers) p publications within in
      let one = all_within (λ k. eqb (length (of_chain k ledgers)) 1) (length genesis.chains) 0 p.chain complete (omega arith) (omega (arith, as_many)) in
      and_from (list_any (λ (l : Ledger). eqb l.chain p.chain) ledgers) (list_all (λ (p : Publication). list_any (λ (l : Ledger). eqb l.chain p.chain) ledgers) publications)
      (any_of_some (λ (l : Ledger). eqb l.chain p.chain) ledgers (eqb-true (length (of_chain p.chain ledgers)) 1 one))
      (known publications (rest_within (length ledgers) p publications within))

  -- what a ledger has seen is a beginning, with all of its own chain's
  module _ (ledger after : Ledger) (is : IsLedger ledger) (now : IsLedger after) (sees : SeesMore ledger after) (publications : List Publication) (all : after.seen ≡ publications) where
    seen_all : ledger.seen ++ sees.0 ≡ publications
    seen_all = ap (λ (l : Ledger). l.seen) (sym sees.1) ∙ all

    begins : ledger.seen ≡ take (length ledger.seen) publications
    begins = sym (ap (take (length ledger.seen)) (sym seen_all) ∙ take-append-le (length ledger.seen) ledger.seen sees.0 (omega arith) ∙ take_all (length ledger.seen) ledger.seen (omega arith))

    owns : published_by ledger.chain ledger.seen ≡ published_by ledger.chain publications
    owns =
        let grown : IsLedger (record ledger { seen = ledger.seen ++ sees.0 }) = subst IsLedger sees.1 now in
        let same = replay_stays ledger ledger.chain sees.0 (starting_state ledger.genesis ledger.chain) ledger.history is.entries in
        is.published ∙ ap (λ (s : LedgerState). map (published_as ledger.chain) s.chain.committed) (sym same) ∙ sym grown.published ∙ ap (published_by ledger.chain) seen_all

  pub one_table : (now : List Ledger) (met : HaveMet ledgers now) → AreOfOneTable met.publications ledgers
  one_table now met = record {
    beginnings = λ k l there. let at = there_now k l there in (length l.seen, begins l at.0 (of k l there).1 (met.each_is k at.0 at.1) (met.each k l at.0 there at.1) met.publications (met.seen k at.0 at.1));
    own = λ k l there. let at = there_now k l there in owns l at.0 (of k l there).1 (met.each_is k at.0 at.1) (met.each k l at.0 there at.1) met.publications (met.seen k at.0 at.1);
    of_chains = known met.publications (subst (λ n. AreOfFirstChains n met.publications) met.as_many met.within);
  }
    where
      there_now : (k : ℕ) (l : Ledger) → slice_get ledgers k ≡ Some l → (after : Ledger) × (slice_get now k ≡ Some after)
      there_now k l there = get_there now k (let low = get_within ledgers k l there in omega (arith, met.as_many))
