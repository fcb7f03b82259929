-- How the keys before and behind a place stand to a key.
use Rattle.std.proofs.Common.{◌≡◌, ℕ, ◌+◌, ◌-◌, ◌<◌, ◌≤◌, true, [], length, get_or, take, drop, refl, sym, ap, ◌∙◌, arith, inl, inr, length-take, length-drop, Ordering, Less, Equal, Greater, Result, Ok, Err, IfErr}
use Rattle.std.proofs.lemmas.Bool.{cases_lt}
use Rattle.std.proofs.lemmas.List.{get_or_default, get_or-take, get_or-drop}
use Rattle.std.specs.List.{HoldsAt}
use Rattle.std.specs.List.Sorted.{IsPartitionPoint}
use Rattle.std.specs.Ordering.{ordering_index}
use Rattle.std.specs.FinMap.{is_sorted}
use Rattle.ibc_ids.specs.Texts.{Text, text_cmp}
use Rattle.ibc_merkle.specs.PairPlaces.{key_at}
use Rattle.ibc_merkle.specs.Tree.{Pairs}
use Rattle.ibc_merkle.proofs.SearchedPairs.{searchable}

least : (o : Ordering) → ordering_index o ≤ 0 → o ≡ Less
least Less l = refl
least Equal l = absurd (omega arith)
least Greater l = absurd (omega arith)

greatest : (o : Ordering) → 2 ≤ ordering_index o → o ≡ Greater
greatest Less l = absurd (omega arith)
greatest Equal l = absurd (omega arith)
greatest Greater l = refl

pub lower : (pairs : Pairs) (key : Text) (i j : ℕ) (d : Text × Text) → is_sorted text_cmp pairs ≡ true → i ≤ j → j < length pairs → text_cmp (key_at pairs j) key ≡ Less
    → text_cmp (get_or pairs i d).0 key ≡ Less
lower pairs key i j d sorted le l is =
    let e : Text × Text = ([], []) in
    let rise = searchable pairs key sorted i j e le l in
    let at = ap ordering_index is in
    ap (λ (p : Text × Text). text_cmp p.0 key) (get_or_default pairs i d e (omega arith)) ∙ least (text_cmp (get_or pairs i e).0 key) (omega arith)

pub higher : (pairs : Pairs) (key : Text) (i j : ℕ) (d : Text × Text) → is_sorted text_cmp pairs ≡ true → i ≤ j → j < length pairs → text_cmp (key_at pairs i) key ≡ Greater
    → text_cmp (get_or pairs j d).0 key ≡ Greater
higher pairs key i j d sorted le l is =
    let e : Text × Text = ([], []) in
    let rise = searchable pairs key sorted i j e le l in
    let at = ap ordering_index is in
    ap (λ (p : Text × Text). text_cmp p.0 key) (get_or_default pairs j d e l) ∙ greatest (text_cmp (get_or pairs j e).0 key) (omega arith)

-- ---- where a key stands, or would stand

abbrev pub IsHere : Text → Pairs → ℕ → Type 0
IsHere key pairs = HoldsAt (λ (pair : Text × Text). text_cmp pair.0 key ≡ Equal) pairs

abbrev pub IsGap : Text → Pairs → ℕ → Type 0
IsGap key pairs = IsPartitionPoint (λ (pair : Text × Text). text_cmp pair.0 key ≡ Less) (λ (pair : Text × Text). text_cmp pair.0 key ≡ Greater) pairs

pub here_at : (pairs : Pairs) (key : Text) (i : ℕ) → i < length pairs → text_cmp (key_at pairs i) key ≡ Equal → IsHere key pairs i
here_at pairs key i l is = λ d. ap (λ (p : Text × Text). text_cmp p.0 key) (get_or_default pairs i d ([], []) l) ∙ is

-- the first pair of the right half
pub first_right : (pairs half : Pairs) (split : ℕ) → half ≡ drop split pairs → key_at half 0 ≡ key_at pairs split
first_right pairs half split is =
    let none : split + 0 ≡ split = omega arith in
    let d : Text × Text = ([], []) in
    ap (λ (p : Text × Text). p.0) (ap (λ (ps : Pairs). get_or ps 0 d) is ∙ get_or-drop split pairs 0 d ∙ ap (λ n. get_or pairs n d) none)

pub left_here : (pairs half : Pairs) (key : Text) (split i : ℕ) → half ≡ take split pairs → i < split → IsHere key half i → IsHere key pairs i
left_here pairs half key split i is l here = λ d. ap (λ (p : Text × Text). text_cmp p.0 key) (sym (ap (λ (ps : Pairs). get_or ps i d) is ∙ get_or-take split pairs i d l)) ∙ here d

pub right_here : (pairs half : Pairs) (key : Text) (split i : ℕ) → half ≡ drop split pairs → IsHere key half i → IsHere key pairs (split + i)
right_here pairs half key split i is here = λ d. ap (λ (p : Text × Text). text_cmp p.0 key) (sym (ap (λ (ps : Pairs). get_or ps i d) is ∙ get_or-drop split pairs i d)) ∙ here d

pub left_gap : (pairs half : Pairs) (key : Text) (split i : ℕ) → is_sorted text_cmp pairs ≡ true → half ≡ take split pairs → split < length pairs → text_cmp (key_at pairs split) key ≡ Greater
    → i ≤ split → IsGap key half i → IsGap key pairs i
left_gap pairs half key split i sorted is there greater within gap =
    let counted : length half ≡ split = ap length is ∙ simp length-take (omega arith) in
    let at : (k : ℕ) (d : Text × Text) → k < split → text_cmp (get_or pairs k d).0 key ≡ text_cmp (get_or half k d).0 key =
    λ k d l. ap (λ (p : Text × Text). text_cmp p.0 key) (sym (ap (λ (ps : Pairs). get_or ps k d) is ∙ get_or-take split pairs k d l))
    in (
      (λ k d from l. at k d (omega arith) ∙ gap.0 k d from l),
      (λ k d from l. elim (cases_lt k split) [
        | inl before ↦ at k d before ∙ gap.1 k d from (omega arith)
        | inr past ↦ higher pairs key split k d sorted past l greater
      ]),
    )

pub right_gap : (pairs half : Pairs) (key : Text) (split i : ℕ) → is_sorted text_cmp pairs ≡ true → half ≡ drop split pairs → split < length pairs → text_cmp (key_at pairs split) key ≡ Less
    → IsGap key half i → IsGap key pairs (split + i)
right_gap pairs half key split i sorted is there less gap =
    let counted : length half ≡ length pairs - split = ap length is ∙ length-drop split pairs in
    let at : (k : ℕ) (d : Text × Text) → split ≤ k → text_cmp (get_or pairs k d).0 key ≡ text_cmp (get_or half (k - split) d).0 key =
    λ k d past.
    ap (λ (p : Text × Text). text_cmp p.0 key)
    (sym (ap (λ (ps : Pairs). get_or ps (k - split) d) is ∙ get_or-drop split pairs (k - split) d ∙ ap (λ n. get_or pairs n d) (let e : split + (k - split) ≡ k = omega arith in e)))
    in (
      (λ k d from l. elim (cases_lt k split) [
        | inl before ↦ lower pairs key k split d sorted (omega arith) there less
        | inr past ↦ at k d past ∙ gap.0 (k - split) d (omega arith) (omega arith)
      ]),
      (λ k d from l. at k d (omega arith) ∙ gap.1 (k - split) d (omega arith) (omega arith)),
    )

pub if_both_err : {T E : Type 0} (r : Result T E) (P Q R : E → Type 0) → ((e : E) → P e → Q e → R e) → IfErr r P → IfErr r Q → IfErr r R
if_both_err (Ok x) P Q R f p q = p
if_both_err (Err e) P Q R f p q = f e p q
