-- One stage of a merge by stamps: what stands by then, the next block, and what is left.
use Rattle.std.proofs.Common.{◌≡◌, ℕ, suc, ◌<◌, ◌≤◌, Bool, true, false, cond, eqb, nat_le, List, [], ◌∷◌, ◌++◌, length, drop, refl, sym, ap, ◌∙◌, subst, Some, None, Option, unwrap_or, slice_get, arith, leb-true, le-leb, eq-eqb, inl, inr}
use Rattle.std.specs.Prelude.{⊤, IfSome}
use Rattle.std.specs.List.{AllByRecursion}
use Rattle.std.specs.Option.{option_map_or}
use Rattle.std.proofs.lemmas.Bool.{false≢true, cases_lt}
use Rattle.ibc_ids.specs.Publications.{published_by}
use Rattle.ibc_ids.specs.declared.publication.Publication.{Publication}
use Rattle.ibc_machine.specs.ledger.Replay.{StampedEntry}
use Rattle.ibc_machine.specs.ledger.Ledgers.{AreRising, is_accepted_block}
use Rattle.ibc_refinement.specs.Stamps.{is_by, entries_until, entries_since}
use Rattle.ibc_refinement.proofs.Placed.{IsPlaced, IsStaged, blocks, few_blocks, left_own, left_other, fewer_after}

-- an entry that stands by then isn't a block, and its stamp is n
pub record StandsBy (window : ℕ) (publications : List Publication) (n k : ℕ) (e : StampedEntry) : Type 0 where
  pub placed : IsPlaced window publications k e
  pub no_block : is_accepted_block e.entry ≡ false
  pub stamp : (m : ℕ) → e.stamp ≡ Some m → m ≡ n

-- what comes behind begins with a stamp above n
abbrev pub IsAbove : ℕ → List StampedEntry → Type 0
IsAbove n [] = ⊤
IsAbove n (e ∷ history) = (m : ℕ) × (e.stamp ≡ Some m) × (n < m) × (is_accepted_block e.entry ≡ true → n < m) × AreRising m history

some_number : {x y : ℕ} → ◌≡◌ {A = Option ℕ} (Some x) (Some y) → x ≡ y
some_number e = cc

none_number : {x : ℕ} {B : Type 0} → ◌≡◌ {A = Option ℕ} None (Some x) → B
none_number e = absurd (cc)

module _ (window : ℕ) (publications : List Publication) (n k : ℕ) where
  pub record Splits (history : List StampedEntry) : Type 0 where
    pub by : AllByRecursion (StandsBy window publications n k) (entries_until n history)
    pub behind : AllByRecursion (IsPlaced window publications k) (entries_since n history)
    pub above : IsAbove n (entries_since n history)
    pub count : blocks (entries_since n history) ≡ blocks history
    pub whole : entries_until n history ++ entries_since n history ≡ history

  -- no block stands by then
  no_block_by : (e : StampedEntry) → IsPlaced window publications k e → (is_accepted_block e.entry ≡ true → (m : ℕ) → e.stamp ≡ Some m → n < m) → is_by n e ≡ true → is_accepted_block e.entry ≡ false
  no_block_by e placed above by =
      elim (is_accepted_block e.entry) as (λ b. is_accepted_block e.entry ≡ b → b ≡ false) [
        | false ↦ λ _. refl
        | true ↦ λ is.
            let w = placed.block is in
            let low = leb-true (suc w.0) n (ap (λ o. option_map_or (λ stamp. nat_le stamp n) o true) (sym w.2) ∙ by) in
            let high = above is (suc w.0) w.2 in
            absurd (omega arith)
      ] refl

  pub splits : (history : List StampedEntry) → AllByRecursion (IsPlaced window publications k) history → AreRising n history → Splits history
  splits [] placed rising = record { by = tt; behind = tt; above = tt; count = refl; whole = refl }
  splits (e ∷ history) placed rising = by_stamp (λ h. splits history placed.1 h) e.stamp refl rising.0 rising.1
    where
      split_by : is_by n e ≡ true → (is_accepted_block e.entry ≡ true → (m : ℕ) → e.stamp ≡ Some m → n < m) → ((m : ℕ) → e.stamp ≡ Some m → m ≡ n) → Splits history → Splits (e ∷ history)
      split_by by above stamp rest =
          let none = no_block_by e placed.0 above by in
          record {
            by = subst (λ b. AllByRecursion (StandsBy window publications n k) (cond b (e ∷ entries_until n history) [])) (sym by) (record { placed = placed.0; no_block = none; stamp = stamp }, rest.by);
            behind = subst (λ b. AllByRecursion (IsPlaced window publications k) (cond b (entries_since n history) (e ∷ history))) (sym by) rest.behind;
            above = subst (λ b. IsAbove n (cond b (entries_since n history) (e ∷ history))) (sym by) rest.above;
            count = ap (λ b. blocks (cond b (entries_since n history) (e ∷ history))) by ∙ rest.count ∙ ap (λ b. cond b (suc (blocks history)) (blocks history)) (sym none);
            whole = ap (λ b. cond b (e ∷ entries_until n history) [] ++ cond b (entries_since n history) (e ∷ history)) by ∙ ap (λ xs. e ∷ xs) rest.whole;
          }

      split_here : (m : ℕ) → e.stamp ≡ Some m → n < m → (is_accepted_block e.entry ≡ true → n < m) → AreRising m history → is_by n e ≡ false → Splits (e ∷ history)
      split_here m is high block rest by = record {
        by = subst (λ b. AllByRecursion (StandsBy window publications n k) (cond b (e ∷ entries_until n history) [])) (sym by) tt;
        behind = subst (λ b. AllByRecursion (IsPlaced window publications k) (cond b (entries_since n history) (e ∷ history))) (sym by) placed;
        above = subst (λ b. IsAbove n (cond b (entries_since n history) (e ∷ history))) (sym by) (m, is, high, block, rest);
        count = ap (λ b. blocks (cond b (entries_since n history) (e ∷ history))) by;
        whole = ap (λ b. cond b (e ∷ entries_until n history) [] ++ cond b (entries_since n history) (e ∷ history)) by;
      }

      by_number : (AreRising n history → Splits history) → (m : ℕ) → e.stamp ≡ Some m → (n ≤ m) × (is_accepted_block e.entry ≡ true → n < m) → AreRising m history → (b : Bool) → nat_le m n ≡ b → Splits (e ∷ history)
      by_number rest m is here rising true low =
          let most = leb-true m n low in
          let same : m ≡ n = omega (arith, here.0, most) in
          split_by (ap (λ o. option_map_or (λ stamp. nat_le stamp n) o true) is ∙ low) (λ block x e. let one = some_number (sym is ∙ e) in subst (λ y. n < y) one (here.1 block))
          (λ x e. sym (some_number (sym is ∙ e)) ∙ same) (rest (subst (λ x. AreRising x history) same rising))
      by_number rest m is here rising false high =
          let above : n < m = elim (cases_lt n m) [ inl w ↦ w | inr w ↦ absurd (false≢true (sym high ∙ le-leb m n w)) ] in
          split_here m is above here.1 rising (ap (λ o. option_map_or (λ stamp. nat_le stamp n) o true) is ∙ high)

      by_stamp : (AreRising n history → Splits history) → (o : Option ℕ) → e.stamp ≡ o → IfSome o (λ m. (n ≤ m) × (is_accepted_block e.entry ≡ true → n < m)) → AreRising (unwrap_or o n) history → Splits (e ∷ history)
      by_stamp rest None is here rising =
          split_by (ap (λ o. option_map_or (λ stamp. nat_le stamp n) o true) is) (λ block x e. none_number (sym is ∙ e)) (λ x e. none_number (sym is ∙ e)) (rest rising)
      by_stamp rest (Some m) is here rising = by_number rest m is here rising (nat_le m n) refl

-- ---- the next publication

module _ (window : ℕ) (publications : List Publication) (n : ℕ) (p : Publication) (published : slice_get publications n ≡ Some p) where
  -- what is left of the history of the chain that publishes begins with its block
  pub record Publishes (k : ℕ) (left : List StampedEntry) : Type 0 where
    pub block : StampedEntry
    pub rest : List StampedEntry
    pub whole : left ≡ block ∷ rest
    pub placed : IsPlaced window publications k block
    pub accepted : is_accepted_block block.entry ≡ true
    pub staged : IsStaged window publications (suc n) k rest

  publishes_from : (k : ℕ) (left : List StampedEntry) → p.chain ≡ k → AllByRecursion (IsPlaced window publications k) left → IsAbove n left
      → blocks left ≡ length (published_by k (drop n publications)) → Publishes k left
  publishes_from k [] own placed above count = let one = left_own k publications n p published own in absurd (omega arith)
  publishes_from k (e ∷ rest) own placed above count =
      elim (is_accepted_block e.entry) as (λ b. is_accepted_block e.entry ≡ b → Publishes k (e ∷ rest)) [
        | true ↦ λ is.
            let w = placed.0.block is in
            let stamps : above.0 ≡ suc w.0 = some_number (sym above.1 ∙ w.2) in
            let counted : suc (blocks rest) ≡ length (published_by k (drop n publications)) = ap (λ b. cond b (suc (blocks rest)) (blocks rest)) (sym is) ∙ count in
            let one = left_own k publications n p published own in
            let few = few_blocks window publications k above.0 rest placed.1 above.4 in
            let here = left_own k publications w.0 w.1 w.3 w.4 in
            let few_there = ap (λ x. length (published_by k (drop x publications))) stamps in
            let same : above.0 ≡ suc n = elim (cases_lt n w.0) [
              | inl far ↦ let less = fewer_after k publications (suc n) w.0 (omega arith) in absurd (omega arith)
              | inr near ↦ omega (arith, above.2)
            ] in
            record {
              block = e;
              rest = rest;
              whole = refl;
              placed = placed.0;
              accepted = is;
              staged = record { placed = placed.1; rising = subst (λ m. AreRising m rest) same above.4; count = omega arith };
            }
        | false ↦ λ is.
            let counted : blocks rest ≡ length (published_by k (drop n publications)) = ap (λ b. cond b (suc (blocks rest)) (blocks rest)) (sym is) ∙ count in
            let one = left_own k publications n p published own in
            let few = few_blocks window publications k above.0 rest placed.1 above.4 in
            let less = fewer_after k publications (suc n) above.0 (omega (arith, above.2)) in
            absurd (omega arith)
      ] refl

  pub publishes : (k : ℕ) (history : List StampedEntry) → p.chain ≡ k → IsStaged window publications n k history → Publishes k (entries_since n history)
  publishes k history own staged =
      let s = splits window publications n k history staged.placed staged.rising in
      publishes_from k (entries_since n history) own s.behind s.above (s.count ∙ staged.count)

  -- another chain's
  rising_from : (k : ℕ) (left : List StampedEntry) → eqb p.chain k ≡ false → AllByRecursion (IsPlaced window publications k) left → IsAbove n left → AreRising (suc n) left
  rising_from k [] other placed above = tt
  rising_from k (e ∷ rest) other placed above = (
    subst (λ o. IfSome o (λ m. (suc n ≤ m) × (is_accepted_block e.entry ≡ true → suc n < m))) (sym above.1) (omega (arith, above.2), later_block),
    subst (λ o. AreRising (unwrap_or o (suc n)) rest) (sym above.1) above.4,
  )
    where
      later_block : is_accepted_block e.entry ≡ true → suc n < above.0
      later_block is =
          let w = placed.0.block is in
          let stamps : above.0 ≡ suc w.0 = some_number (sym above.1 ∙ w.2) in
          elim (cases_lt n w.0) [
            | inl far ↦ omega arith
            | inr near ↦
                let same : w.0 ≡ n = omega (arith, above.2) in
                let both : Some w.1 ≡ Some p = sym w.3 ∙ ap (slice_get publications) same ∙ published in
                let one : w.1 ≡ p = cc in
                absurd (false≢true (sym other ∙ eq-eqb p.chain k (ap (λ (x : Publication). x.chain) (sym one) ∙ w.4)))
          ]

  pub stays : (k : ℕ) (history : List StampedEntry) → eqb p.chain k ≡ false → IsStaged window publications n k history → IsStaged window publications (suc n) k (entries_since n history)
  stays k history other staged =
      let s = splits window publications n k history staged.placed staged.rising in
      record {
        placed = s.behind;
        rising = rising_from k (entries_since n history) other s.behind s.above;
        count = s.count ∙ staged.count ∙ left_other k publications n p published other;
      }
