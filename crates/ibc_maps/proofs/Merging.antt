-- Changes merged into the pairs that they change, pair by pair.
use Rattle.std.proofs.Common.{◌≡◌, ◌<◌, true, false, Option, Some, None, List, [], ◌∷◌, length, refl, sym, ap, ap₂, ◌∙◌, subst, arith, Ordering, Less, Equal, Greater, cond, is_eq}
use Rattle.std.specs.Cmp.{IsTotalOrder}
use Rattle.std.specs.Ordering.{match_ordering, is_gt}
use Rattle.std.specs.FinMap.{is_sorted}
use Rattle.std.specs.Option.{MatchOption}
use Rattle.std.specs.Iterator.{MakesProgress, item_count}
use Rattle.std.proofs.lemmas.Map.Lookups.{CmpEqualImpliesEq}
use Rattle.ibc_ids.specs.Maps.{Map, with, without}
use Rattle.ibc_maps.specs.Sides.{AllAbove}
use Rattle.ibc_maps.proofs.Sorted.{AreRising, rising_from_sorted, greater_from, less_from}
use Rattle.ibc_maps.proofs.Edits.{without-above, sorted_from_rising}
use Rattle.ibc_maps.specs.Changes.{with_change, with_changes}
use Rattle.ibc_maps.specs.SettledPairs.{AreSettledSorted}
use Rattle.ibc_maps.specs.Merging.{begins_below, behind_key}
use Rattle.ibc_maps.proofs.Orders.{above-less}

greater : (o : Ordering) → is_gt o ≡ true → o ≡ Greater
greater Less h = absurd (cc h)
greater Equal h = absurd (cc h)
greater Greater h = refl

pub sorted-rest : {K X : Type 0} (order : K → K → Ordering) (p : K × X) (ps : Map K X) → is_sorted order (p ∷ ps) ≡ true → is_sorted order ps ≡ true
sorted-rest order p ps h = sorted_from_rising order ps (rising_from_sorted order (p ∷ ps) h).1

-- an iterator that gave what came first has less to give
pub goes : {A B : Type 0} (view : A → B) (can : List B → Type 0) → ((rest : List B) → can rest) → (r : Option A) (before after : List B)
    → MatchOption r ((before ≡ []) × (after ≡ [])) (λ x. before ≡ view x ∷ after) → MakesProgress can (item_count {A = B} (λ rest. rest)) before r after
goes view can always None before after h = record { on = λ _. tt; keeps = tt; rests = λ _. tt }
goes view can always (Some x) before after h = record {
  on = λ _. (always after, tt, subst (λ xs. length after < length xs) (sym h) (omega arith));
  keeps = always after;
  rests = λ _. tt;
}

module _ {K V : Type 0} {order : K → K → Ordering} (total : IsTotalOrder order) where
  written-behind : (e : K × V) (key : K) (c : Option V) (ps : Map K V) → order key e.0 ≡ Greater → with_change order key c (e ∷ ps) ≡ e ∷ with_change order key c ps
  written-behind e key (Some v) ps is = ap (λ o. match_ordering o ((key, v) ∷ e ∷ ps) ((e.0, v) ∷ ps) (e ∷ with order key v ps)) is
  written-behind e key None ps is = ap (λ o. cond (is_eq o) ps (e ∷ without order key ps)) is

  -- a pair below all changes passes them
  pub changed-behind : (e : K × V) (cs : Map K (Option V)) (ps : Map K V) → AllAbove order e.0 cs → with_changes order cs (e ∷ ps) ≡ e ∷ with_changes order cs ps
  changed-behind e [] ps above = refl
  changed-behind e (c ∷ cs) ps above =
      ap (with_changes order cs) (written-behind e c.0 c.1 ps (greater_from total e.0 c.0 above.0))
      ∙ changed-behind e cs (with_change order c.0 c.1 ps) above.1

  -- a new value below all pairs
  pub changed-new : (key : K) (v : V) (cs : Map K (Option V)) (ps : Map K V) → AllAbove order key cs → AllAbove order key ps
      → with_changes order ((key, Some v) ∷ cs) ps ≡ (key, v) ∷ with_changes order cs ps
  changed-new key v cs ps above first = ap (with_changes order cs) (new ps first) ∙ changed-behind (key, v) cs ps above
    where
      new : (ps : Map K V) → AllAbove order key ps → with order key v ps ≡ (key, v) ∷ ps
      new [] h = refl
      new (p ∷ ps) h = ap (λ o. match_ordering o ((key, v) ∷ p ∷ ps) ((p.0, v) ∷ ps) (p ∷ with order key v ps)) h.0

  -- nothing to be removed
  pub changed-absent : (key : K) (cs : Map K (Option V)) (ps : Map K V) → AllAbove order key ps → with_changes order ((key, None) ∷ cs) ps ≡ with_changes order cs ps
  changed-absent key cs ps first = ap (with_changes order cs) (without-above total ps key first)

  -- the first pair gets a value, or is removed
  pub changed-first : (key : K) (v : V) (cs : Map K (Option V)) (p : K × V) (ps : Map K V) → order key p.0 ≡ Equal → key ≡ p.0 → AllAbove order key cs
      → with_changes order ((key, Some v) ∷ cs) (p ∷ ps) ≡ (key, v) ∷ with_changes order cs ps
  changed-first key v cs p ps is same above =
      ap (λ o. with_changes order cs (match_ordering o ((key, v) ∷ p ∷ ps) ((p.0, v) ∷ ps) (p ∷ with order key v ps))) is
      ∙ ap (λ k. with_changes order cs ((k, v) ∷ ps)) (sym same)
      ∙ changed-behind (key, v) cs ps above

  pub changed-removed : (key : K) (cs : Map K (Option V)) (p : K × V) (ps : Map K V) → order key p.0 ≡ Equal → with_changes order ((key, None) ∷ cs) (p ∷ ps) ≡ with_changes order cs ps
  changed-removed key cs p ps is = ap (λ o. with_changes order cs (cond (is_eq o) ps (p ∷ without order key ps))) is

  -- ---- one turn

  -- all changes are above the first pair
  pub passes : (c : K × Option V) (cs : Map K (Option V)) (p : K × V) (ps : Map K V) → is_sorted order (c ∷ cs) ≡ true → is_gt (order c.0 p.0) ≡ true
      → with_changes order (c ∷ cs) (p ∷ ps) ≡ p ∷ with_changes order (c ∷ cs) ps
  passes c cs p ps sorted above =
      let less : order p.0 c.0 ≡ Less = less_from total c.0 p.0 (greater (order c.0 p.0) above) in
      changed-behind p (c ∷ cs) ps (less, above-less total p.0 c.0 cs less (rising_from_sorted order (c ∷ cs) sorted).0)

  -- a new value comes, in place of the first pair if that has the key
  pub gives : CmpEqualImpliesEq order → (c : K × Option V) (v : V) (cs : Map K (Option V)) (ps : Map K V) → is_sorted order (c ∷ cs) ≡ true → is_sorted order ps ≡ true
      → begins_below order c.0 ps ≡ false → c.1 ≡ Some v → with_changes order (c ∷ cs) ps ≡ (c.0, v) ∷ with_changes order cs (behind_key order c.0 ps)
  gives exact c v cs ps sorted_c sorted_p first is = ap (λ x. with_changes order cs (with_change order c.0 x ps)) is ∙ by ps (rising_from_sorted order ps sorted_p) first
    where
      above : AllAbove order c.0 cs
      above = (rising_from_sorted order (c ∷ cs) sorted_c).0

      by : (ps : Map K V) → AreRising order ps → begins_below order c.0 ps ≡ false → with_changes order ((c.0, Some v) ∷ cs) ps ≡ (c.0, v) ∷ with_changes order cs (behind_key order c.0 ps)
      by [] h first = changed-new c.0 v cs [] above tt
      by (p ∷ ps) h first = go (order c.0 p.0) refl first
        where
          go : (o : Ordering) → order c.0 p.0 ≡ o → is_gt o ≡ false → with_changes order ((c.0, Some v) ∷ cs) (p ∷ ps) ≡ (c.0, v) ∷ with_changes order cs (cond (is_eq o) ps (p ∷ ps))
          go Less was not = changed-new c.0 v cs (p ∷ ps) above (was, above-less total c.0 p.0 ps was h.0)
          go Equal was not = changed-first c.0 v cs p ps was (exact c.0 p.0 was) above
          go Greater was not = absurd (cc not)

  -- a removal
  pub skips : (c : K × Option V) (cs : Map K (Option V)) (ps : Map K V) → is_sorted order ps ≡ true → begins_below order c.0 ps ≡ false → c.1 ≡ None
      → with_changes order (c ∷ cs) ps ≡ with_changes order cs (behind_key order c.0 ps)
  skips c cs ps sorted_p first is = ap (λ x. with_changes order cs (with_change order c.0 x ps)) is ∙ by ps (rising_from_sorted order ps sorted_p) first
    where
      by : (ps : Map K V) → AreRising order ps → begins_below order c.0 ps ≡ false → with_changes order ((c.0, None) ∷ cs) ps ≡ with_changes order cs (behind_key order c.0 ps)
      by [] h first = refl
      by (p ∷ ps) h first = go (order c.0 p.0) refl first
        where
          go : (o : Ordering) → order c.0 p.0 ≡ o → is_gt o ≡ false → with_changes order ((c.0, None) ∷ cs) (p ∷ ps) ≡ with_changes order cs (cond (is_eq o) ps (p ∷ ps))
          go Less was not = changed-absent c.0 cs (p ∷ ps) (was, above-less total c.0 p.0 ps was h.0)
          go Equal was not = changed-removed c.0 cs p ps was
          go Greater was not = absurd (cc not)

  pub sorted-behind : (key : K) (ps : Map K V) → is_sorted order ps ≡ true → is_sorted order (behind_key order key ps) ≡ true
  sorted-behind key [] h = h
  sorted-behind key (p ∷ ps) h =
      elim (is_eq (order key p.0)) as (λ b. is_sorted order (cond b ps (p ∷ ps)) ≡ true) [
        | true ↦ sorted-rest order p ps h
        | false ↦ h
      ]

  -- ---- the turns of an iterator

  -- a pair below all changes
  pub passed_turn : {A : Type 0} (view : A → K × V) (r : Option A) (c : K × Option V) (cs all : Map K (Option V)) (ps begun after m : Map K V) → all ≡ c ∷ cs → AreSettledSorted order all ps
      → begins_below order c.0 ps ≡ true → begun ≡ behind_key order c.0 ps → with_changes order all ps ≡ m
      → MatchOption r ((begun ≡ []) × (after ≡ [])) (λ x. begun ≡ view x ∷ after) → MatchOption r ((m ≡ []) × (with_changes order all after ≡ [])) (λ x. m ≡ view x ∷ with_changes order all after)
  passed_turn view r c cs all [] begun after m split sorted below is same h = absurd (cc below)
  passed_turn view r c cs all (p ∷ ps) begun after m split sorted below is same h = by r h
    where
      stays : begun ≡ p ∷ ps
      stays = is ∙ ap (λ o. cond (is_eq o) ps (p ∷ ps)) (greater (order c.0 p.0) below)

      nothing : begun ≡ [] → ⊥
      nothing none = let e : p ∷ ps ≡ [] = sym stays ∙ none in cc e

      first : (x : K × V) (xs : Map K V) → p ∷ ps ≡ x ∷ xs → p ≡ x
      first x xs e = cc e

      rest : (x : K × V) (xs : Map K V) → p ∷ ps ≡ x ∷ xs → ps ≡ xs
      rest x xs e = cc e

      by : (r : Option _) → MatchOption r ((begun ≡ []) × (after ≡ [])) (λ x. begun ≡ view x ∷ after) → MatchOption r ((m ≡ []) × (with_changes order all after ≡ [])) (λ x. m ≡ view x ∷ with_changes order all after)
      by None none = absurd (nothing none.0)
      by (Some x) gave =
          let e : p ∷ ps ≡ view x ∷ after = sym stays ∙ gave in
          sym same
          ∙ ap (λ xs. with_changes order xs (p ∷ ps)) split
          ∙ passes c cs p ps (ap (is_sorted order) (sym split) ∙ sorted.in_changes) below
          ∙ ap₂ (λ (y : K × V) (ys : Map K V). y ∷ ys) (first (view x) after e) (ap₂ (with_changes order) (sym split) (rest (view x) after e))

  -- a new value
  pub given_turn : CmpEqualImpliesEq order → (c : K × Option V) (v : V) (cs all : Map K (Option V)) (ps after m : Map K V) → all ≡ c ∷ cs → AreSettledSorted order all ps
      → begins_below order c.0 ps ≡ false → after ≡ behind_key order c.0 ps → c.1 ≡ Some v → with_changes order all ps ≡ m → m ≡ (c.0, v) ∷ with_changes order cs after
  given_turn exact c v cs all ps after m split sorted below is value same =
      sym same
      ∙ ap (λ xs. with_changes order xs ps) split
      ∙ gives exact c v cs ps (ap (is_sorted order) (sym split) ∙ sorted.in_changes) sorted.in_settled below value
      ∙ ap (λ qs. (c.0, v) ∷ with_changes order cs qs) (sym is)

  -- a removal
  pub skipped_turn : (c : K × Option V) (cs all : Map K (Option V)) (ps after : Map K V) → all ≡ c ∷ cs → AreSettledSorted order all ps → begins_below order c.0 ps ≡ false
      → after ≡ behind_key order c.0 ps → ((v : V) → c.1 ≡ Some v → ⊥) → with_changes order cs after ≡ with_changes order all ps
  skipped_turn c cs all ps after split sorted below is not =
      ap (with_changes order cs) is
      ∙ sym (ap (λ xs. with_changes order xs ps) split ∙ skips c cs ps sorted.in_settled below (none c.1 refl))
    where
      none : (o : Option V) → c.1 ≡ o → c.1 ≡ None
      none None e = e
      none (Some v) e = absurd (not v e)

  pub sorted_turn : (c : K × Option V) (cs all : Map K (Option V)) (ps after : Map K V) → all ≡ c ∷ cs → AreSettledSorted order all ps → after ≡ behind_key order c.0 ps → AreSettledSorted order cs after
  sorted_turn c cs all ps after split sorted is = record {
    in_changes = sorted-rest order c cs (ap (is_sorted order) (sym split) ∙ sorted.in_changes);
    in_settled = ap (is_sorted order) is ∙ sorted-behind c.0 ps sorted.in_settled;
  }
