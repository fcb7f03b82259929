-- In a merge by stamps the readings fit, the entries are of the chains, and the blocks are of the chains that
-- published.
use Rattle.std.proofs.Common.{◌≡◌, ℕ, zero, suc, ◌+◌, ◌<◌, Bool, true, false, cond, ◌&&◌, eqb, nat_lt, List, [], ◌∷◌, ◌++◌, length, map, filter, take, drop, refl, sym, ap, ◌∙◌, subst, Some, None, Option, slice_get, arith, eqb-true, eq-eqb, lt-ltb, append-nil, append_assoc, length-append}
use Rattle.std.specs.Prelude.{IfSome}
use Rattle.std.specs.List.{AllByRecursion, flat_map, list_all}
use Rattle.std.proofs.lemmas.Bool.{and_from, and_right}
use Rattle.std.proofs.lemmas.List.{map-append}
use Rattle.std.proofs.lemmas.List.Elements.{filter-append}
use Rattle.std.proofs.lemmas.List.Folds.{list_all-append}
use Rattle.ibc_ids.specs.Publications.{height_among}
use Rattle.ibc_ids.specs.declared.publication.Publication.{Publication}
use Rattle.ibc_machine.specs.declared.entry.Entry.{Entry}
use Rattle.ibc_machine.specs.declared.entry.Reading.{Reading}
use Rattle.ibc_machine.specs.ledger.Replay.{StampedEntry}
use Rattle.ibc_machine.specs.ledger.Ledgers.{chain_of, header_in, is_accepted_block, reading_fits}
use Rattle.ibc_machine.specs.ledger.Merge.{is_of_chain, blocks_of, ReadingFitsBefore, EachWithEarlier}
use Rattle.ibc_refinement.specs.Stamps.{entries_until, entries_since, first_entries, next_block, left_after, by_stamps}
use Rattle.ibc_refinement.proofs.RunStep.{blocks_more}
use Rattle.ibc_refinement.proofs.Stages.{StandsBy, splits, publishes}
use Rattle.ibc_refinement.proofs.StageLists.{Histories, history_at, not_before, next_is}
use Rattle.ibc_refinement.proofs.MergeStages.{entries_of, drop_next, Staged, stage_next}

-- ---- lists with what stands before

each_append : (P : List Entry → Entry → Type 0) (before xs ys : List Entry) → EachWithEarlier P before xs → EachWithEarlier P (before ++ xs) ys → EachWithEarlier P before (xs ++ ys)
each_append P before [] ys h g = subst (λ b. EachWithEarlier P b ys) (append-nil before) g
each_append P before (x ∷ xs) ys h g = (h.0, each_append P (before ++ x ∷ []) xs ys h.1 (subst (λ b. EachWithEarlier P b ys) (sym (append_assoc before (x ∷ []) xs)) g))

-- ---- the entries that stand by then

-- an entry of one of the chains from i on that there are
pub record StandsFor (window : ℕ) (all : List Publication) (n chains : ℕ) (e : StampedEntry) : Type 0 where
  pub chain : ℕ
  pub low : chain < chains
  pub stands : StandsBy window all n chain e

all_append : (P : StampedEntry → Type 0) (xs ys : List StampedEntry) → AllByRecursion P xs → AllByRecursion P ys → AllByRecursion P (xs ++ ys)
all_append P [] ys h g = g
all_append P (x ∷ xs) ys h g = (h.0, all_append P xs ys h.1 g)

module _ (window : ℕ) (all : List Publication) where
  stand_for : (n chains k : ℕ) (xs : List StampedEntry) → k < chains → AllByRecursion (StandsBy window all n k) xs → AllByRecursion (StandsFor window all n chains) xs
  stand_for n chains k [] low h = tt
  stand_for n chains k (e ∷ xs) low h = (record { chain = k; low = low; stands = h.0 }, stand_for n chains k xs low h.1)

  -- all of them
  all_stand : (n i chains : ℕ) (hs : Histories) → i + length hs ≡ chains → ((k : ℕ) → AllByRecursion (StandsBy window all n k) (entries_until n (history_at k i hs)))
      → AllByRecursion (StandsFor window all n chains) (flat_map (entries_until n) hs)
  all_stand n i chains [] count each = tt
  all_stand n i chains (h ∷ hs) count each =
      all_append (StandsFor window all n chains) (entries_until n h) (flat_map (entries_until n) hs)
      (stand_for n chains i (entries_until n h) (omega arith) (subst (λ b. AllByRecursion (StandsBy window all n i) (entries_until n (cond b h (history_at i (suc i) hs)))) (eq-eqb i i refl) (each i)))
      (all_stand n (suc i) chains hs (omega arith) (λ k. elim (eqb i k) as (λ b. eqb i k ≡ b → AllByRecursion (StandsBy window all n k) (entries_until n (history_at k (suc i) hs))) [
        | true ↦ λ is. let same = eqb-true i k is in subst (λ xs. AllByRecursion (StandsBy window all n k) (entries_until n xs)) (sym (not_before k (suc i) hs (omega arith))) tt
        | false ↦ λ other. subst (λ b. AllByRecursion (StandsBy window all n k) (entries_until n (cond b h (history_at k (suc i) hs)))) other (each k)
      ] refl))

  stage_stands : (n : ℕ) (hs : Histories) → Staged window all n hs → AllByRecursion (StandsFor window all n (length hs)) (flat_map (entries_until n) hs)
  stage_stands n hs staged = all_stand n 0 (length hs) hs (omega arith) (λ k. (splits window all n k (history_at k 0 hs) (staged k).placed (staged k).rising).by)

  -- where so many are published
  abbrev pub Counts : List Entry → ℕ → Type 0
  Counts before n = (c : ℕ) → blocks_of c before ≡ height_among c n all

  counts_plain : (before : List Entry) (n : ℕ) (e : Entry) → Counts before n → is_accepted_block e ≡ false → Counts (before ++ e ∷ []) n
  counts_plain before n e counts none c =
      let more = blocks_more c before e false (and_right (is_of_chain c e) (is_accepted_block e) none) in
      let same = counts c in
      omega arith

  reads_plain : (n k : ℕ) (before : List Entry) (e : StampedEntry) → Counts before n → StandsBy window all n k e → ReadingFitsBefore window before e.entry
  reads_plain n k before e counts stands = by_reading e.entry.reading refl
    where
      by_reading : (o : Option Reading) → e.entry.reading ≡ o → IfSome o (λ r. IfSome (header_in e.entry.event) (λ header. reading_fits window (blocks_of header.chain before) header.height r ≡ true))
      by_reading None is = tt
      by_reading (Some r) is =
          let w = stands.placed.reading r is in
          let m = stands.stamp w.1 w.3 in
          subst (λ o. IfSome o (λ header. reading_fits window (blocks_of header.chain before) header.height r ≡ true)) (sym w.2)
          (ap (λ p. reading_fits window p w.0.height r) (counts w.0.chain ∙ ap (λ x. height_among w.0.chain x all) (sym m)) ∙ w.4)

  -- what is said of a part of the list
  pub record Reads (chains : ℕ) (before : List Entry) (part : List StampedEntry) (publishing : List ℕ) : Type 0 where
    pub reads : EachWithEarlier (ReadingFitsBefore window) before (entries_of part)
    pub within : list_all (λ (entry : Entry). nat_lt (chain_of entry.event) chains) (entries_of part) ≡ true
    pub blocks : map (λ (e : Entry). chain_of e.event) (filter is_accepted_block (entries_of part)) ≡ publishing

  both_read : (chains : ℕ) (before : List Entry) (xs ys : List StampedEntry) (cs ds : List ℕ) → Reads chains before xs cs → Reads chains (before ++ entries_of xs) ys ds → Reads chains before (xs ++ ys) (cs ++ ds)
  both_read chains before xs ys cs ds h g =
      let parts = sym (map-append (λ (e : StampedEntry). e.entry) xs ys) in
      let test = λ (entry : Entry). nat_lt (chain_of entry.event) chains in
      let chain = λ (e : Entry). chain_of e.event in
      record {
        reads = subst (EachWithEarlier (ReadingFitsBefore window) before) parts (each_append (ReadingFitsBefore window) before (entries_of xs) (entries_of ys) h.reads g.reads);
        within = ap (list_all test) (sym parts) ∙ list_all-append test (entries_of xs) (entries_of ys) ∙ and_from (list_all test (entries_of xs)) (list_all test (entries_of ys)) h.within g.within;
        blocks = ap (λ l. map chain (filter is_accepted_block l)) (sym parts) ∙ ap (map chain) (filter-append is_accepted_block (entries_of xs) (entries_of ys))
            ∙ map-append chain (filter is_accepted_block (entries_of xs)) (filter is_accepted_block (entries_of ys)) ∙ ap (λ l. l ++ map chain (filter is_accepted_block (entries_of ys))) h.blocks ∙ ap (λ l. cs ++ l) g.blocks;
      }

  pub record Plain (chains n : ℕ) (before : List Entry) (part : List StampedEntry) : Type 0 where
    pub part_reads : Reads chains before part []
    pub counts : Counts (before ++ entries_of part) n

  plain : (chains n : ℕ) (before : List Entry) (part : List StampedEntry) → Counts before n → AllByRecursion (StandsFor window all n chains) part → Plain chains n before part
  plain chains n before [] counts h = record { part_reads = record { reads = tt; within = refl; blocks = refl }; counts = subst (λ b. Counts b n) (sym (append-nil before)) counts }
  plain chains n before (e ∷ part) counts h =
      let s = h.0.stands in
      let next = counts_plain before n e.entry counts s.no_block in
      let rest = plain chains n (before ++ e.entry ∷ []) part next h.1 in
      let low : chain_of e.entry.event < chains = omega (arith, s.placed.chain, h.0.low) in
      record {
        part_reads = record {
          reads = (reads_plain n h.0.chain before e counts s, rest.part_reads.reads);
          within = and_from (nat_lt (chain_of e.entry.event) chains) (list_all (λ (entry : Entry). nat_lt (chain_of entry.event) chains) (entries_of part)) (lt-ltb (chain_of e.entry.event) chains low) rest.part_reads.within;
          blocks = ap (λ b. map (λ (e : Entry). chain_of e.event) (cond b (e.entry ∷ filter is_accepted_block (entries_of part)) (filter is_accepted_block (entries_of part)))) s.no_block ∙ rest.part_reads.blocks;
        };
        counts = subst (λ b. Counts b n) (append_assoc before (e.entry ∷ []) (entries_of part)) rest.counts;
      }

  -- ---- a block

  take_one : (n : ℕ) (xs : List Publication) (p : Publication) → slice_get xs n ≡ Some p → take (suc n) xs ≡ take n xs ++ p ∷ []
  take_one n [] p e = absurd (cc)
  take_one zero (q ∷ xs) p e = let same : q ≡ p = cc in ap (λ x. x ∷ []) same
  take_one (suc n) (q ∷ xs) p e = ap (λ ys. q ∷ ys) (take_one n xs p e)

  height_next : (c n : ℕ) (p : Publication) → slice_get all n ≡ Some p → height_among c (suc n) all ≡ height_among c n all + cond (eqb p.chain c) 1 0
  height_next c n p there =
      let test = λ (q : Publication). eqb q.chain c in
      let whole = ap (λ xs. length (filter test xs)) (take_one n all p there) ∙ ap length (filter-append test (take n all) (p ∷ [])) ∙ length-append (filter test (take n all)) (filter test (p ∷ [])) in
      let one : length (filter test (p ∷ [])) ≡ cond (eqb p.chain c) 1 0 = elim (eqb p.chain c) as (λ b. length (cond b (p ∷ []) []) ≡ cond b 1 0) [ true ↦ refl | false ↦ refl ] in
      omega arith

  counts_block : (n : ℕ) (p : Publication) (before : List Entry) (e : Entry) → slice_get all n ≡ Some p → Counts before n → chain_of e.event ≡ p.chain → is_accepted_block e ≡ true → Counts (before ++ e ∷ []) (suc n)
  counts_block n p before e there counts mine accepted c =
      let both : (is_of_chain c e && is_accepted_block e) ≡ eqb p.chain c = ap (λ b. is_of_chain c e && b) accepted ∙ and_true (is_of_chain c e) ∙ ap (λ k. eqb k c) mine in
      blocks_more c before e (eqb p.chain c) both ∙ ap (λ x. x + cond (eqb p.chain c) 1 0) (counts c) ∙ sym (height_next c n p there)
    where
      and_true : (b : Bool) → (b && true) ≡ b
      and_true true = refl
      and_true false = refl

  -- ---- the whole

  length_left : (n k i : ℕ) (hs : Histories) → length (left_after n k i hs) ≡ length hs
  length_left n k i [] = refl
  length_left n k i (h ∷ hs) = ap suc (length_left n k (suc i) hs)

  within_histories : (k i : ℕ) (hs : Histories) (e : StampedEntry) (rest : List StampedEntry) → history_at k i hs ≡ e ∷ rest → k < i + length hs
  within_histories k i [] e rest is = absurd (cc)
  within_histories k i (h ∷ hs) e rest is =
      elim (eqb i k) as (λ b. eqb i k ≡ b → cond b h (history_at k (suc i) hs) ≡ e ∷ rest → k < i + suc (length hs)) [
        | true ↦ λ same _. let s = eqb-true i k same in omega arith
        | false ↦ λ _ is. let w = within_histories k (suc i) hs e rest is in omega arith
      ] refl is

  pub merged_reads : (ps : List Publication) (n : ℕ) (hs : Histories) (before : List Entry) → drop n all ≡ ps → Staged window all n hs → Counts before n
      → Reads (length hs) before (by_stamps ps n hs) (map (λ (p : Publication). p.chain) ps)
  merged_reads [] n hs before left staged counts = (plain (length hs) n before (flat_map (entries_until n) hs) counts (stage_stands n hs staged)).part_reads
  merged_reads (p ∷ ps) n hs before left staged counts =
      let c = p.chain in
      let w = drop_next n all p ps left in
      let A = flat_map (entries_until n) hs in
      let B = next_block n c 0 hs in
      let a = plain (length hs) n before A counts (stage_stands n hs staged) in
      let block = publishes window all n p w.0 c (history_at c 0 hs) refl (staged c) in
      let e = block.block in
      let B_is : B ≡ e ∷ [] = next_is n c 0 hs ∙ ap first_entries block.whole in
      let quiet = (block.placed.block block.accepted).5 in
      let low : chain_of e.entry.event < length hs = omega (arith, block.placed.chain, publishing_low c hs e block.rest block.whole) in
      let b : Reads (length hs) (before ++ entries_of A) (e ∷ []) (c ∷ []) = record {
        reads = (subst (λ o. IfSome o (λ r. IfSome (header_in e.entry.event) (λ header. reading_fits window (blocks_of header.chain (before ++ entries_of A)) header.height r ≡ true))) (sym quiet) tt, tt);
        within = and_from (nat_lt (chain_of e.entry.event) (length hs)) true (lt-ltb (chain_of e.entry.event) (length hs) low) refl;
        blocks = ap (λ b. map (λ (e : Entry). chain_of e.event) (cond b (e.entry ∷ []) [])) block.accepted ∙ ap (λ x. x ∷ []) block.placed.chain;
      } in
      let next = counts_block n p (before ++ entries_of A) e.entry w.0 a.counts block.placed.chain block.accepted in
      let rest = merged_reads ps (suc n) (left_after n c 0 hs) ((before ++ entries_of A) ++ e.entry ∷ []) w.1 (stage_next window all n p hs w.0 staged) next in
      let same_length = length_left n c 0 hs in
      let front = both_read (length hs) before A (e ∷ []) [] (c ∷ []) a.part_reads b in
      let places : (before ++ entries_of A) ++ e.entry ∷ [] ≡ before ++ entries_of (A ++ e ∷ []) =
      append_assoc before (entries_of A) (e.entry ∷ []) ∙ ap (λ l. before ++ l) (sym (map-append (λ (e : StampedEntry). e.entry) A (e ∷ [])))
      in
      let C = by_stamps ps (suc n) (left_after n c 0 hs) in
      subst (λ xs. Reads (length hs) before (A ++ xs ++ C) (c ∷ map (λ (p : Publication). p.chain) ps)) (sym B_is)
      (both_read (length hs) before (A ++ e ∷ []) C (c ∷ []) (map (λ (p : Publication). p.chain) ps) front
      (subst (λ b. Reads (length hs) b C (map (λ (p : Publication). p.chain) ps)) places (subst (λ l. Reads l ((before ++ entries_of A) ++ e.entry ∷ []) C (map (λ (p : Publication). p.chain) ps)) same_length rest)))
    where
      since_some : (h : List StampedEntry) (e : StampedEntry) (rest : List StampedEntry) → entries_since n h ≡ e ∷ rest → (x : StampedEntry) × (ys : List StampedEntry) × (h ≡ x ∷ ys)
      since_some [] e rest is = absurd (cc)
      since_some (x ∷ ys) e rest is = (x, ys, refl)

      publishing_low : (c : ℕ) (hs : Histories) (e : StampedEntry) (rest : List StampedEntry) → entries_since n (history_at c 0 hs) ≡ e ∷ rest → c < length hs
      publishing_low c hs e rest is = let w = since_some (history_at c 0 hs) e rest is in let low = within_histories c 0 hs w.0 w.1 w.2 in omega arith
