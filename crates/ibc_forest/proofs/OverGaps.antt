-- A row of leaves from gap to gap: what stays in front of a gap, and what stays behind all.
use Rattle.std.proofs.Common.{◌≡◌, ℕ, ◌+◌, ◌-◌, ◌<◌, ◌≤◌, List, [], ◌∷◌, ◌++◌, length, get_or, take, drop, map, refl, sym, ap, ◌∙◌, subst, arith, inl, inr, length-append, length-drop}
use Rattle.std.proofs.lemmas.Bool.{cases_eq}
use Rattle.std.proofs.lemmas.List.{append-nil, append_assoc, drop_at, drop_more, drop_all, drop-drop, length-take-le, take_all, take_at, take_rest, take-append-drop}
use Rattle.ibc_merkle.specs.Tree.{Pairs, Tree}
use Rattle.ibc_merkle.proofs.Sorted.{AreRising}
use Rattle.ibc_forest.specs.Levels.{leaf_of, trees_at}
use Rattle.ibc_forest.specs.NodeLevels.{Stand}
use Rattle.ibc_forest.specs.Leaves.{row_pairs, AreLeaves, count_new, keys, differing_count}
use Rattle.ibc_forest.specs.Gaps.{DifferIn, HasFirst, IsFoundFrom}
use Rattle.ibc_forest.specs.declared.gap.Gap.{Gap}
use Rattle.ibc_forest.proofs.LeafRows.{length-row_pairs}
use Rattle.ibc_forest.proofs.Finding.{Passed, passed}
use Rattle.ibc_forest.proofs.FirstLeaves.{first_kept, differing-kept}
use Rattle.ibc_forest.proofs.NewPairs.{new_rest}
use Rattle.ibc_forest.proofs.Turning.{same_keys_count}

-- all of the last pairs in one gap
pub whole_gap : (last pairs : Pairs) (gone come : ℕ) → gone ≡ length last → come ≡ length pairs → DifferIn (record { kept = 0; gone = gone; come = come } ∷ []) last pairs
whole_gap last pairs gone come a b =
    let these : 0 + come ≡ come = omega arith in
    let those : 0 + gone ≡ gone = omega arith in (
      omega arith,
      omega arith,
      refl,
      ap (λ n. drop n pairs) these ∙ drop_all come pairs (omega arith) ∙ sym (ap (λ n. drop n last) those ∙ drop_all gone last (omega arith)),
    )

pub record Opened (trees : List Tree) (last entries : Pairs) (old row : List ℕ) (gaps : List Gap) (i from : ℕ) (gap : Gap) : Type 0 where
  pub there : from + (gap.kept + gap.gone) ≤ length old
  pub within : length row + (gap.kept + gap.come) ≤ length entries
  pub first : HasFirst trees entries (row ++ take gap.kept (drop from old))
  pub counted : length (row ++ take gap.kept (drop from old)) ≡ length row + gap.kept
  pub past : Passed last entries from (length row) gap.kept
  pub next : DifferIn (drop (i + 1) gaps) (drop (from + (gap.kept + gap.gone)) last) (drop (length row + (gap.kept + gap.come)) entries)

pub opened : (trees : List Tree) (last entries : Pairs) (old row : List ℕ) (gaps : List Gap) (i from : ℕ) (d : Gap) → AreLeaves trees old → row_pairs trees old ≡ last
    → AreRising last → AreRising entries → HasFirst trees entries row → from ≤ length old → i < length gaps
    → DifferIn (drop i gaps) (drop from last) (drop (length row) entries) → Opened trees last entries old row gaps i from (get_or gaps i d)
opened trees last entries old row gaps i from d leaves held last_rises rises first there l differ =
    let gap : Gap = get_or gaps i d in
    let here = subst (λ (gs : List Gap). DifferIn gs (drop from last) (drop (length row) entries)) (drop_more gaps i d l) differ in
    let counted : length last ≡ length old = ap length (sym held) ∙ length-row_pairs trees old in
    let a = length-drop from last in
    let b = length-drop (length row) entries in
    let gone = here.0 in
    let come = here.1 in
    let rows = first.within in
    let kept = first_kept trees old row entries from gap.kept leaves first (omega arith) (omega arith) (here.2 ∙ ap (λ (pairs : Pairs). take gap.kept (drop from pairs)) (sym held)) in
    record {
      there = omega arith;
      within = omega arith;
      first = kept.0;
      counted = kept.1;
      past = passed last entries from (length row) gap.kept last_rises rises (omega arith) (omega arith) here.2;
      next =
          subst (λ (pairs : Pairs). DifferIn (drop (i + 1) gaps) pairs (drop (length row + (gap.kept + gap.come)) entries)) (drop-drop (gap.kept + gap.gone) from last)
          (subst (λ (pairs : Pairs). DifferIn (drop (i + 1) gaps) (drop (gap.kept + gap.gone) (drop from last)) pairs) (drop-drop (gap.kept + gap.come) (length row) entries) here.3);
    }

pub found_past : (last entries : Pairs) (from i kept place behind : ℕ) → Passed last entries from i kept → IsFoundFrom last place (drop i entries) → (kept ≡ 0 → behind ≡ place)
    → (0 < kept → behind ≡ from + kept) → IsFoundFrom last behind (drop (i + kept) entries)
found_past last entries from i kept place behind past found none some =
    elim (cases_eq kept 0) [
      | inl is ↦
          let at : i ≡ i + kept = omega arith in
          subst (λ n. IsFoundFrom last behind (drop n entries)) at (subst (λ n. IsFoundFrom last n (drop i entries)) (sym (none is)) found)
      | inr more ↦
          let l : 0 < kept = omega arith in
          subst (λ n. IsFoundFrom last n (drop (i + kept) entries)) (sym (some l)) (past.next l)
    ]

pub differing_past : (last entries : Pairs) (old row : List ℕ) (from kept : ℕ) → Passed last entries from (length row) kept → keys entries ≡ keys last → from + kept ≤ length old
    → differing_count (row ++ take kept (drop from old)) old ≤ differing_count row old
differing_past last entries old row from kept past same there =
    elim (cases_eq kept 0) [
      | inl is ↦
          let none : differing_count (row ++ take kept (drop from old)) old ≡ differing_count row old =
          ap (λ n. differing_count (row ++ take n (drop from old)) old) is ∙ ap (λ row. differing_count row old) (append-nil row)
          in
          omega arith
      | inr more ↦
          let here : from ≡ length row = past.same same (omega arith) in
          let at : differing_count (row ++ take kept (drop from old)) old ≡ differing_count (row ++ take kept (drop (length row) old)) old =
          ap (λ n. differing_count (row ++ take kept (drop n old)) old) here
          in
          let most = differing-kept row old kept (omega arith) in
          omega arith
    ]

pub record Whole (trees : List Tree) (last entries : Pairs) (old row all : List ℕ) : Type 0 where
  pub leaves : trees_at trees all ≡ map leaf_of entries
  pub stand : Stand trees all
  pub none : count_new last (drop (length row) entries) ≡ 0
  pub same : keys entries ≡ keys last → differing_count all old ≤ differing_count row old

pub whole : (trees : List Tree) (last entries : Pairs) (old row all : List ℕ) (gaps : List Gap) (i from : ℕ) → AreLeaves trees old → row_pairs trees old ≡ last
    → HasFirst trees entries row → from ≤ length old → length gaps ≤ i → DifferIn (drop i gaps) (drop from last) (drop (length row) entries)
    → all ≡ row ++ take (length old - from) (drop from old) → Whole trees last entries old row all
whole trees last entries old row all gaps i from leaves held first there past differ items =
    let rest : drop (length row) entries ≡ drop from last = subst (λ (gs : List Gap). DifferIn gs (drop from last) (drop (length row) entries)) (drop_all i gaps past) differ in
    let kept : ℕ = length old - from in
    let counted : length last ≡ length old = ap length (sym held) ∙ length-row_pairs trees old in
    let a = length-drop from last in
    let b = length-drop (length row) entries in
    let e = ap length rest in
    let rows = first.within in
    let f = first_kept trees old row entries from kept leaves first (omega arith) (omega arith) (ap (take kept) rest ∙ ap (λ (pairs : Pairs). take kept (drop from pairs)) (sym held)) in
    let first_all = f.0 in
    let many : length (row ++ take kept (drop from old)) ≡ length row + kept = f.1 in
    record {
      leaves = ap (trees_at trees) items ∙ first_all.leaves ∙ ap (map leaf_of) (take_all (length (row ++ take kept (drop from old))) entries (omega arith));
      stand = subst (Stand trees) (sym items) first_all.stand;
      none = ap (count_new last) rest ∙ new_rest last from;
      same = λ same.
          let n = same_keys_count entries last same in
          let here : from ≡ length row = omega arith in
          let at : differing_count all old ≡ differing_count (row ++ take kept (drop (length row) old)) old =
          ap (λ row. differing_count row old) items ∙ ap (λ n. differing_count (row ++ take kept (drop n old)) old) here
          in
          let most = differing-kept row old kept (omega arith) in
          omega arith;
    }

-- ---- the row differs from the one before in the gaps

-- where the rest of a row differs in the rest of the gaps, the whole row differs in all
pub splice_next : (gaps : List Gap) (i from : ℕ) (d : Gap) (old row next : List ℕ) → i < length gaps
    → from + ((get_or gaps i d).kept + (get_or gaps i d).gone) ≤ length old
    → length next ≡ length row + ((get_or gaps i d).kept + (get_or gaps i d).come)
    → take (length row + (get_or gaps i d).kept) next ≡ row ++ take (get_or gaps i d).kept (drop from old)
    → ((rest : List ℕ) → DifferIn (drop i gaps) (drop from old) rest → DifferIn gaps old (row ++ rest))
    → (rest : List ℕ) → DifferIn (drop (i + 1) gaps) (drop (from + ((get_or gaps i d).kept + (get_or gaps i d).gone)) old) rest → DifferIn gaps old (next ++ rest)
splice_next gaps i from d old row next l there counted front so_far rest differ =
    let gap = get_or gaps i d in
    let kept : List ℕ = take gap.kept (drop from old) in
    let come : List ℕ = drop (length row + gap.kept) next in
    let mid : List ℕ = kept ++ (come ++ rest) in
    let a = length-drop from old in
    let its : length kept ≡ gap.kept = length-take-le gap.kept (drop from old) (omega arith) in
    let b = length-drop (length row + gap.kept) next in
    let both = length-append kept come in
    let all = length-append kept (come ++ rest) in
    let behind = length-append come rest in
    let is : next ++ rest ≡ row ++ mid =
    ap (λ (xs : List ℕ). xs ++ rest) (sym (take-append-drop (length row + gap.kept) next) ∙ ap (λ (xs : List ℕ). xs ++ come) front)
    ∙ append_assoc (row ++ kept) come rest
    ∙ append_assoc row kept (come ++ rest)
    in
    let passed : drop (gap.kept + gap.come) mid ≡ rest = ap (drop (gap.kept + gap.come)) (sym (append_assoc kept come rest)) ∙ drop_at (kept ++ come) rest (gap.kept + gap.come) (omega arith) in
    let here : DifferIn (gap ∷ drop (i + 1) gaps) (drop from old) mid = (
      omega arith,
      omega arith,
      take_at kept (come ++ rest) gap.kept its,
      subst (λ (xs : List ℕ). DifferIn (drop (i + 1) gaps) xs (drop (gap.kept + gap.come) mid)) (sym (drop-drop (gap.kept + gap.gone) from old))
          (subst (λ (xs : List ℕ). DifferIn (drop (i + 1) gaps) (drop (from + (gap.kept + gap.gone)) old) xs) (sym passed) differ),
    )
    in
    subst (DifferIn gaps old) (sym is) (so_far mid (subst (λ (gs : List Gap). DifferIn gs (drop from old) mid) (sym (drop_more gaps i d l)) here))

pub splice_end : (gaps : List Gap) (i from : ℕ) (old row all : List ℕ) → length gaps ≤ i → all ≡ row ++ take (length old - from) (drop from old)
    → ((rest : List ℕ) → DifferIn (drop i gaps) (drop from old) rest → DifferIn gaps old (row ++ rest)) → DifferIn gaps old all
splice_end gaps i from old row all past items so_far =
    let is : all ≡ row ++ drop from old = items ∙ ap (λ (xs : List ℕ). row ++ xs) (take_rest old from) in
    let none : DifferIn [] (drop from old) (drop from old) = refl in
    subst (DifferIn gaps old) (sym is) (so_far (drop from old) (subst (λ (gs : List Gap). DifferIn gs (drop from old) (drop from old)) (sym (drop_all i gaps past)) none))
