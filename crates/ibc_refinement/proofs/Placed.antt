-- A history in the middle of a merge by stamps: where n are published, what stands by then has no block, and
-- the blocks that are left are the publications that are left.
use Rattle.std.proofs.Common.{◌≡◌, ℕ, zero, suc, ◌+◌, ◌<◌, ◌≤◌, true, false, cond, eqb, List, [], ◌∷◌, length, drop, refl, ap, ◌∙◌, subst, Some, None, Option, unwrap_or, slice_get, arith, eq-eqb, ◌-◌}
use Rattle.std.specs.Prelude.{IfSome}
use Rattle.std.specs.List.{AllByRecursion}
use Rattle.ibc_ids.specs.Publications.{published_by, height_among}
use Rattle.ibc_ids.specs.declared.publication.Publication.{Publication}
use Rattle.ibc_wire.specs.declared.header.Header.{Header}
use Rattle.ibc_machine.specs.declared.entry.Reading.{Reading}
use Rattle.ibc_machine.specs.ledger.Replay.{StampedEntry}
use Rattle.ibc_machine.specs.ledger.Ledgers.{AreRising, chain_of, header_in, is_accepted_block, reading_fits}

-- an entry of chain k, and the publications that its stamp speaks of
pub record IsPlaced (window : ℕ) (publications : List Publication) (k : ℕ) (e : StampedEntry) : Type 0 where
  pub chain : chain_of e.entry.event ≡ k
  pub bound : IfSome e.stamp (λ n. n ≤ length publications)
  pub reading : (r : Reading) → e.entry.reading ≡ Some r → (header : Header) × (n : ℕ) × (header_in e.entry.event ≡ Some header) × (e.stamp ≡ Some n)
      × (reading_fits window (height_among header.chain n publications) header.height r ≡ true)
  pub block : is_accepted_block e.entry ≡ true → (n : ℕ) × (p : Publication) × (e.stamp ≡ Some (suc n)) × (slice_get publications n ≡ Some p) × (p.chain ≡ k) × (e.entry.reading ≡ None)

-- how many blocks were accepted
abbrev pub blocks : List StampedEntry → ℕ
blocks [] = 0
blocks (e ∷ history) = cond (is_accepted_block e.entry) (suc (blocks history)) (blocks history)

pub record IsStaged (window : ℕ) (publications : List Publication) (n k : ℕ) (history : List StampedEntry) : Type 0 where
  pub placed : AllByRecursion (IsPlaced window publications k) history
  pub rising : AreRising n history
  pub count : blocks history ≡ length (published_by k (drop n publications))

-- ---- publications that are left

drop_one : (publications : List Publication) (n : ℕ) (p : Publication) → slice_get publications n ≡ Some p → drop n publications ≡ p ∷ drop (suc n) publications
drop_one [] n p e = absurd (cc)
drop_one (q ∷ publications) zero p e = let same : q ≡ p = cc in ap (λ x. x ∷ publications) same
drop_one (q ∷ publications) (suc n) p e = drop_one publications n p e

pub left_own : (k : ℕ) (publications : List Publication) (n : ℕ) (p : Publication) → slice_get publications n ≡ Some p → p.chain ≡ k
    → length (published_by k (drop n publications)) ≡ suc (length (published_by k (drop (suc n) publications)))
left_own k publications n p e c =
    ap (λ xs. length (published_by k xs)) (drop_one publications n p e)
    ∙ ap (λ b. length (cond b (p ∷ published_by k (drop (suc n) publications)) (published_by k (drop (suc n) publications)))) (eq-eqb p.chain k c)

pub left_other : (k : ℕ) (publications : List Publication) (n : ℕ) (p : Publication) → slice_get publications n ≡ Some p → eqb p.chain k ≡ false
    → length (published_by k (drop n publications)) ≡ length (published_by k (drop (suc n) publications))
left_other k publications n p e c =
    ap (λ xs. length (published_by k xs)) (drop_one publications n p e)
    ∙ ap (λ b. length (cond b (p ∷ published_by k (drop (suc n) publications)) (published_by k (drop (suc n) publications)))) c

fewer_by_one : (k : ℕ) (publications : List Publication) (n : ℕ) → length (published_by k (drop (suc n) publications)) ≤ length (published_by k (drop n publications))
fewer_by_one k [] zero = omega arith
fewer_by_one k [] (suc n) = omega arith
fewer_by_one k (q ∷ publications) zero =
    elim (eqb q.chain k) as (λ b. length (published_by k publications) ≤ length (cond b (q ∷ published_by k publications) (published_by k publications))) [ true ↦ omega arith | false ↦ omega arith ]
fewer_by_one k (q ∷ publications) (suc n) = fewer_by_one k publications n

pub fewer : (k : ℕ) (publications : List Publication) (n more m : ℕ) → n + more ≡ m → length (published_by k (drop m publications)) ≤ length (published_by k (drop n publications))
fewer k publications n zero m e =
    let same : m ≡ n = omega arith in
    let lengths = ap (λ x. length (published_by k (drop x publications))) same in
    omega arith
fewer k publications n (suc more) m e =
    let one = fewer_by_one k publications n in
    let rest = fewer k publications (suc n) more m (omega arith) in
    omega arith

pub fewer_after : (k : ℕ) (publications : List Publication) (n m : ℕ) → n ≤ m → length (published_by k (drop m publications)) ≤ length (published_by k (drop n publications))
fewer_after k publications n m low = fewer k publications n (m - n) m (omega arith)

-- ---- blocks with rising stamps are no more than the publications that are left

module _ (window : ℕ) (publications : List Publication) (k : ℕ) where
  pub few_blocks : (low : ℕ) (history : List StampedEntry) → AllByRecursion (IsPlaced window publications k) history → AreRising low history
      → blocks history ≤ length (published_by k (drop low publications))
  few_blocks low [] placed rising = omega arith
  few_blocks low (e ∷ history) placed rising =
      elim (is_accepted_block e.entry) as (λ b. is_accepted_block e.entry ≡ b → cond b (suc (blocks history)) (blocks history) ≤ length (published_by k (drop low publications))) [
        | true ↦ λ is.
            let w = placed.0.block is in
            let here = subst (λ o. IfSome o (λ n. (low ≤ n) × (is_accepted_block e.entry ≡ true → low < n))) w.2 rising.0 in
            let above = here.1 is in
            let rest = few_blocks (suc w.0) history placed.1 (subst (λ o. AreRising (unwrap_or o low) history) w.2 rising.1) in
            let one = left_own k publications w.0 w.1 w.3 w.4 in
            let all = fewer_after k publications low w.0 (omega arith) in
            omega arith
        | false ↦ λ _. by_stamp (λ n h. few_blocks n history placed.1 h) e.stamp rising.0 rising.1
      ] refl
    where
      by_stamp : ((n : ℕ) → AreRising n history → blocks history ≤ length (published_by k (drop n publications))) → (o : Option ℕ) → IfSome o (λ n. (low ≤ n) × (is_accepted_block e.entry ≡ true → low < n)) → AreRising (unwrap_or o low) history
          → blocks history ≤ length (published_by k (drop low publications))
      by_stamp few None here rest = few low rest
      by_stamp few (Some n) here rest = let a = few n rest in let b = fewer_after k publications low n here.0 in omega arith
