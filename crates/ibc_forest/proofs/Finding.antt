-- How pairs are found among the last ones: both rise, so each is looked for in all of them.
use Rattle.std.proofs.Common.{◌≡◌, ℕ, zero, suc, ◌+◌, ◌-◌, ◌<◌, ◌≤◌, is_lt, Less, [], ◌∷◌, length, get_or, take, drop, refl, sym, ap, ap₂, ◌∙◌, subst, arith, inl, inr, length-drop}
use Rattle.std.proofs.lemmas.Bool.{cases_Bool}
use Rattle.std.proofs.lemmas.List.{drop_more, get_or-drop, get_or-take, get_or_default}
use Rattle.ibc_ids.specs.Texts.{Text, same_text, text_cmp}
use Rattle.ibc_ids.proofs.Texts.{text_same, same_text_itself, text_ties, lt_is_less, text_cmp_total}
use Rattle.ibc_merkle.specs.Tree.{Pairs}
use Rattle.ibc_merkle.specs.Proofs.{is_below}
use Rattle.ibc_merkle.proofs.Sorted.{AreRising, AllAbove}
use Rattle.ibc_forest.specs.Leaves.{from_key, behind_key, is_new, count_new, keys}
use Rattle.ibc_forest.specs.Gaps.{IsFoundFrom, IsOneOther}
use Rattle.ibc_forest.proofs.LeafRows.{passes, stops, leaves_behind, leaves_none, same_key}
use Rattle.ibc_forest.proofs.NewPairs.{lacks, new_one, new_found, new_past, new_one_other}

pub rising-drop : (n : ℕ) (pairs : Pairs) → AreRising pairs → AreRising (drop n pairs)
rising-drop zero pairs rising = rising
rising-drop (suc n) [] rising = tt
rising-drop (suc n) (pair ∷ pairs) rising = rising-drop n pairs rising.1

pub above_at : (key : Text) (pairs : Pairs) (n : ℕ) (d : Text × Text) → AllAbove key pairs → n < length pairs → text_cmp key (get_or pairs n d).0 ≡ Less
above_at key [] n d above l = absurd (omega arith)
above_at key (pair ∷ pairs) zero d above l = above.0
above_at key (pair ∷ pairs) (suc n) d above l = above_at key pairs n d above.1 (omega arith)

-- a key is found where it stands
found_at : (last : Pairs) (n : ℕ) (d : Text × Text) → AreRising last → n < length last → from_key (get_or last n d).0 last ≡ drop n last
found_at [] n d rising l = absurd (omega arith)
found_at (pair ∷ last) zero d rising l = stops pair.0 (pair ∷ last) last pair refl (ap is_lt (text_ties pair.0))
found_at (pair ∷ last) (suc n) d rising l =
    passes (get_or last n d).0 (pair ∷ last) last pair refl (ap is_lt (above_at pair.0 last n d rising.0 (omega arith))) ∙ found_at last n d rising.1 (omega arith)

-- a key above another is found behind that
found_behind : (last : Pairs) (key next : Text) → text_cmp key next ≡ Less → from_key next (behind_key key (from_key key last)) ≡ from_key next last
found_behind [] key next l = refl
found_behind (pair ∷ last) key next l =
    let all : Pairs = pair ∷ last in
    elim (cases_Bool (is_below pair.0 key)) [
      | inl below ↦
          let further : text_cmp pair.0 next ≡ Less = text_cmp_total.trans pair.0 key next (lt_is_less _ below) l in
          ap (λ (pairs : Pairs). from_key next (behind_key key pairs)) (passes key all last pair refl below)
          ∙ found_behind last key next l
          ∙ sym (passes next all last pair refl (ap is_lt further))
      | inr not ↦
          ap (λ (pairs : Pairs). from_key next (behind_key key pairs)) (stops key all last pair refl not)
          ∙ elim (cases_Bool (same_text pair.0 key)) [
            | inl same ↦
                ap (from_key next) (leaves_behind key all last pair refl same)
                ∙ sym (passes next all last pair refl (ap (λ k. is_lt (text_cmp k next)) (text_same pair.0 key same) ∙ ap is_lt l))
            | inr other ↦ ap (from_key next) (leaves_none key all last pair refl other)
          ]
    ]

next_found : (last : Pairs) (place : ℕ) (pair : Text × Text) (pairs : Pairs) → AllAbove pair.0 pairs → drop place last ≡ behind_key pair.0 (from_key pair.0 last)
    → IsFoundFrom last place pairs
next_found last place pair [] above is = tt
next_found last place pair (next ∷ pairs) above is = ap (from_key next.0) is ∙ found_behind last pair.0 next.0 above.0

pub first_found : (last pairs : Pairs) → IsFoundFrom last 0 pairs
first_found last [] = tt
first_found last (pair ∷ pairs) = refl

-- ---- one pair that is looked for

pub record Stepped (last entries : Pairs) (i found behind : ℕ) (entry : Text × Text) : Type 0 where
  pub count : count_new last (drop i entries) ≡ is_new entry (drop found last) + count_new last (drop (i + 1) entries)
  pub next : IsFoundFrom last behind (drop (i + 1) entries)
  pub same : keys entries ≡ keys last → (i < length last) × (found ≡ i)

pub stepped : (last entries : Pairs) (i place found behind : ℕ) (entry : Text × Text) → AreRising last → AreRising entries → i < length entries → entry ≡ get_or entries i entry
    → found ≤ length last → IsFoundFrom last place (drop i entries) → drop found last ≡ from_key entry.0 (drop place last)
    → drop behind last ≡ behind_key entry.0 (drop found last) → Stepped last entries i found behind entry
stepped last entries i place found behind entry last_rises rises l is within from rest past =
    let opened : drop i entries ≡ entry ∷ drop (i + 1) entries = drop_more entries i entry l ∙ ap (λ (e : Text × Text). e ∷ drop (i + 1) entries) (sym is) in
    let above = (subst AreRising opened (rising-drop i entries rises)).0 in
    let all : drop found last ≡ from_key entry.0 last = rest ∙ subst (IsFoundFrom last place) opened from in
    record {
      count =
          let one = new_one last entry (drop (i + 1) entries) in
          let new : is_new entry (drop found last) ≡ lacks last entry = ap (is_new entry) all ∙ new_found last entry last_rises in
          let first = ap (count_new last) opened in
          omega arith;
      next = next_found last behind entry (drop (i + 1) entries) above (past ∙ ap (behind_key entry.0) all);
      same = λ same.
          let k = same_key last entries i entry entry same l is in
          let here : drop found last ≡ drop i last = all ∙ ap (λ key. from_key key last) (sym k.1) ∙ found_at last i entry last_rises k.0 in
          let a = length-drop found last in
          let b = length-drop i last in
          let e = ap length here in
          let there = k.0 in
          (there, omega arith);
    }

-- the same of one pair alone
pub record FoundOne (last entries : Pairs) (i found : ℕ) (entry : Text × Text) : Type 0 where
  pub count : count_new last entries ≡ is_new entry (drop found last)
  pub same : keys entries ≡ keys last → found ≡ i

pub found_one : (last entries : Pairs) (i found : ℕ) (entry : Text × Text) → AreRising last → IsOneOther i last entries → entry ≡ get_or entries i entry
    → found ≤ length last → IsFoundFrom last i (drop i entries) → drop found last ≡ from_key entry.0 (drop i last) → FoundOne last entries i found entry
found_one last entries i found entry last_rises other is within from rest =
    let l = other.here in
    let opened : drop i entries ≡ entry ∷ drop (i + 1) entries = drop_more entries i entry l ∙ ap (λ (e : Text × Text). e ∷ drop (i + 1) entries) (sym is) in
    let all : drop found last ≡ from_key entry.0 last = rest ∙ subst (IsFoundFrom last i) opened from in
    let here : get_or entries i ([], []) ≡ entry = get_or_default entries i ([], []) entry l ∙ sym is in
    record {
      count = new_one_other last entries i other ∙ ap (lacks last) here ∙ sym (ap (is_new entry) all ∙ new_found last entry last_rises);
      same = λ same.
          let k = same_key last entries i entry entry same l is in
          let here : drop found last ≡ drop i last = all ∙ ap (λ key. from_key key last) (sym k.1) ∙ found_at last i entry last_rises k.0 in
          let a = length-drop found last in
          let b = length-drop i last in
          let e = ap length here in
          let there = k.0 in
          omega arith;
    }

-- ---- pairs that stayed

pub record Passed (last entries : Pairs) (from i kept : ℕ) : Type 0 where
  pub count : count_new last (drop (i + kept) entries) ≡ count_new last (drop i entries)
  pub next : 0 < kept → IsFoundFrom last (from + kept) (drop (i + kept) entries)
  pub same : keys entries ≡ keys last → 0 < kept → from ≡ i

pub passed : (last entries : Pairs) (from i kept : ℕ) → AreRising last → AreRising entries → from + kept ≤ length last → i + kept ≤ length entries
    → take kept (drop i entries) ≡ take kept (drop from last) → Passed last entries from i kept
passed last entries from i kept last_rises rises there within same =
    let d : Text × Text = ([], []) in
    let at : (j : ℕ) → j < kept → get_or entries (i + j) d ≡ get_or last (from + j) d =
    λ j l.
    sym (get_or-drop i entries j d)
    ∙ sym (get_or-take kept (drop i entries) j d l)
    ∙ ap (λ (pairs : Pairs). get_or pairs j d) same
    ∙ get_or-take kept (drop from last) j d l
    ∙ get_or-drop from last j d
    in
    record {
      count = new_past last entries from i kept same;
      next = λ some.
          let j : ℕ = kept - 1 in
          let e = get_or last (from + j) d in
          let opened : drop (i + j) entries ≡ e ∷ drop (i + kept) entries =
          drop_more entries (i + j) d (omega arith)
          ∙ ap₂ (λ (x : Text × Text) n. x ∷ drop n entries) (at j (omega arith)) (let e : (i + j) + 1 ≡ i + kept = omega arith in e)
          in
          let here : drop (from + j) last ≡ e ∷ drop (from + kept) last =
          drop_more last (from + j) d (omega arith) ∙ ap (λ n. e ∷ drop n last) (let e : (from + j) + 1 ≡ from + kept = omega arith in e)
          in
          let behind : drop (from + kept) last ≡ behind_key e.0 (from_key e.0 last) =
          sym (ap (behind_key e.0) (found_at last (from + j) d last_rises (omega arith)) ∙ leaves_behind e.0 (drop (from + j) last) (drop (from + kept) last) e here (same_text_itself e.0))
          in
          next_found last (from + kept) e (drop (i + kept) entries) (subst AreRising opened (rising-drop (i + j) entries rises)).0 behind;
      same = λ same_keys some.
          let none : i + 0 ≡ i = omega arith in
          let zero_from : from + 0 ≡ from = omega arith in
          let first : get_or entries i d ≡ get_or last from d = ap (λ n. get_or entries n d) (sym none) ∙ at 0 some ∙ ap (λ n. get_or last n d) zero_from in
          let k = same_key last entries i (get_or entries i d) d same_keys (omega arith) (get_or_default entries i d (get_or entries i d) (omega arith)) in
          let drops : drop from last ≡ drop i last =
          sym (found_at last from d last_rises (omega arith))
          ∙ ap (λ key. from_key key last) (ap (λ (pair : Text × Text). pair.0) (sym first) ∙ sym k.1)
          ∙ found_at last i d last_rises k.0
          in
          let a = length-drop from last in
          let b = length-drop i last in
          let e = ap length drops in
          let l = k.0 in
          omega arith;
    }
