-- A merge by stamps has each history's entries in their order, and its readings fit.
use Rattle.std.proofs.Common.{◌≡◌, ℕ, zero, suc, ◌≤◌, true, false, cond, eqb, List, [], ◌∷◌, ◌++◌, length, map, drop, refl, sym, ap, ◌∙◌, subst, Some, slice_get, arith, eqb-true, eq-eqb, append-nil, append_assoc}
use Rattle.std.specs.Prelude.{IfSome}
use Rattle.std.specs.List.{AllByRecursion, flat_map}
use Rattle.std.proofs.lemmas.List.Elements.{filter-append}
use Rattle.ibc_ids.specs.declared.publication.Publication.{Publication}
use Rattle.ibc_machine.specs.declared.entry.Entry.{Entry}
use Rattle.ibc_machine.specs.ledger.Replay.{StampedEntry}
use Rattle.ibc_machine.specs.ledger.Ledgers.{chain_of}
use Rattle.ibc_machine.specs.ledger.Merge.{is_of_chain}
use Rattle.ibc_refinement.specs.Stamps.{is_by, entries_until, entries_since, first_entries, later_entries, next_block, left_after, by_stamps}
use Rattle.ibc_refinement.proofs.Placed.{IsPlaced, IsStaged}
use Rattle.ibc_refinement.proofs.Stages.{IsAbove, splits, publishes, stays}
use Rattle.ibc_refinement.proofs.StageLists.{Histories, history_at, next_is, left_is, own, AreOf, own_if, own_by}

abbrev pub entries_of : List StampedEntry → List Entry
entries_of = map (λ (e : StampedEntry). e.entry)

first_later : (xs : List StampedEntry) → first_entries xs ++ later_entries xs ≡ xs
first_later [] = refl
first_later (e ∷ xs) = refl

-- the next publication of those that are left
pub drop_next : (n : ℕ) (all : List Publication) (p : Publication) (ps : List Publication) → drop n all ≡ p ∷ ps → (slice_get all n ≡ Some p) × (drop (suc n) all ≡ ps)
drop_next zero [] p ps e = absurd (cc)
drop_next (suc n) [] p ps e = absurd (cc)
drop_next zero (q ∷ all) p ps e = (let same : q ≡ p = cc in ap Some same, cc)
drop_next (suc n) (q ∷ all) p ps e = drop_next n all p ps e

drop_none : (n : ℕ) (all : List Publication) → drop n all ≡ [] → length all ≤ n
drop_none zero [] e = omega arith
drop_none (suc n) [] e = omega arith
drop_none zero (q ∷ all) e = absurd (cc)
drop_none (suc n) (q ∷ all) e = let h = drop_none n all e in omega arith

module _ (window : ℕ) (all : List Publication) where
  -- each history in the middle of the merge
  abbrev pub Staged : ℕ → Histories → Type 0
  Staged n hs = (k : ℕ) → IsStaged window all n k (history_at k 0 hs)

  pub placed_of : (k : ℕ) (history : List StampedEntry) → AllByRecursion (IsPlaced window all k) history → AreOf k history
  placed_of k [] h = tt
  placed_of k (e ∷ history) h = (eq-eqb (chain_of e.entry.event) k h.0.chain, placed_of k history h.1)

  pub stage_next : (n : ℕ) (p : Publication) (hs : Histories) → slice_get all n ≡ Some p → Staged n hs → Staged (suc n) (left_after n p.chain 0 hs)
  stage_next n p hs published staged k =
      subst (IsStaged window all (suc n) k) (sym (left_is n p.chain k 0 hs))
      (elim (eqb p.chain k) as (λ b. eqb p.chain k ≡ b → IsStaged window all (suc n) k (cond b (later_entries (entries_since n (history_at k 0 hs))) (entries_since n (history_at k 0 hs)))) [
        | true ↦ λ is.
            let w = publishes window all n p published k (history_at k 0 hs) (eqb-true p.chain k is) (staged k) in
            subst (IsStaged window all (suc n) k) (ap later_entries (sym w.whole)) w.staged
        | false ↦ λ other. stays window all n p published k (history_at k 0 hs) other (staged k)
      ] refl)

  until_of : (n j : ℕ) (h : List StampedEntry) → AreOf j h → AreOf j (entries_until n h)
  until_of n j [] of = tt
  until_of n j (e ∷ h) of = elim (is_by n e) as (λ b. AreOf j (cond b (e ∷ entries_until n h) [])) [ true ↦ (of.0, until_of n j h of.1) | false ↦ tt ]

  -- ---- each chain's entries

  own_until : (n k : ℕ) (hs : Histories) → Staged n hs → own k (flat_map (entries_until n) hs) ≡ entries_until n (history_at k 0 hs)
  own_until n k hs staged = own_by (entries_until n) refl (until_of n) k 0 hs (λ j. placed_of j (history_at j 0 hs) (staged j).placed)

  nothing_above : (n k : ℕ) (left : List StampedEntry) → length all ≤ n → AllByRecursion (IsPlaced window all k) left → IsAbove n left → left ≡ []
  nothing_above n k [] low placed above = refl
  nothing_above n k (e ∷ left) low placed above = let bound = subst (λ o. IfSome o (λ m. m ≤ length all)) above.1 placed.0.bound in absurd (omega (arith, above.2))

  pub own_merged : (ps : List Publication) (n : ℕ) (hs : Histories) → drop n all ≡ ps → Staged n hs → (k : ℕ) → own k (by_stamps ps n hs) ≡ history_at k 0 hs
  own_merged [] n hs done staged k =
      let h = history_at k 0 hs in
      let s = splits window all n k h (staged k).placed (staged k).rising in
      let none = nothing_above n k (entries_since n h) (drop_none n all done) s.behind s.above in
      own_until n k hs staged ∙ sym (append-nil (entries_until n h)) ∙ ap (λ xs. entries_until n h ++ xs) (sym none) ∙ s.whole
  own_merged (p ∷ ps) n hs left staged k =
      let h = history_at k 0 hs in
      let c = p.chain in
      let w = drop_next n all p ps left in
      let s = splits window all n k h (staged k).placed (staged k).rising in
      let block = publishes window all n p w.0 c (history_at c 0 hs) refl (staged c) in
      let test = λ (s : StampedEntry). is_of_chain k s.entry in
      let A = flat_map (entries_until n) hs in
      let B = next_block n c 0 hs in
      let C = by_stamps ps (suc n) (left_after n c 0 hs) in
      let B_is : B ≡ block.block ∷ [] = next_is n c 0 hs ∙ ap first_entries block.whole in
      let B_of : AreOf c B = subst (AreOf c) (sym B_is) (eq-eqb (chain_of block.block.entry.event) c block.placed.chain, tt) in
      let rest = own_merged ps (suc n) (left_after n c 0 hs) w.1 (stage_next n p hs w.0 staged) k ∙ left_is n c k 0 hs in
      filter-append test (A ++ B) C ∙ ap (λ xs. xs ++ own k C) (filter-append test A B)
      ∙ ap (λ xs. xs ++ own k B ++ own k C) (own_until n k hs staged)
      ∙ ap (λ xs. entries_until n h ++ xs ++ own k C) (own_if k c B B_of)
      ∙ ap (λ xs. entries_until n h ++ cond (eqb c k) B [] ++ xs) rest
      ∙ elim (eqb c k) as (λ b. eqb c k ≡ b → entries_until n h ++ cond b B [] ++ cond b (later_entries (entries_since n h)) (entries_since n h) ≡ h) [
        | true ↦ λ is.
            let first_is : B ≡ first_entries (entries_since n h) = next_is n c 0 hs ∙ ap (λ j. first_entries (entries_since n (history_at j 0 hs))) (eqb-true c k is) in
            ap (λ xs. entries_until n h ++ xs ++ later_entries (entries_since n h)) first_is ∙ append_assoc (entries_until n h) (first_entries (entries_since n h)) (later_entries (entries_since n h)) ∙ ap (λ xs. entries_until n h ++ xs) (first_later (entries_since n h)) ∙ s.whole
        | false ↦ λ _. ap (λ xs. xs ++ entries_since n h) (append-nil (entries_until n h)) ∙ s.whole
      ] refl
