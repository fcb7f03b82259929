-- An entry behind a history stands behind the kept order that names that history once more.
use Rattle.std.proofs.Common.{◌≡◌, ℕ, suc, ◌≤◌, true, false, cond, eqb, nat_lt, List, [], ◌∷◌, ◌++◌, length, map, refl, sym, ap, ◌∙◌, subst, Some, None, Option, option_map, unwrap_or, slice_get, slice_set, arith, eqb-true, eq-eqb, ltb-true, inl, inr}
use Rattle.std.specs.List.{list_all, count_by}
use Rattle.std.proofs.lemmas.Bool.{and_parts, false≢true, cases_lt}
use Rattle.std.proofs.lemmas.List.{length-map, set-set, set_comm}
use Rattle.std.proofs.lemmas.List.Sums.{sum_by-cons}
use Rattle.std.proofs.lemmas.Option.{slice_get-map, slice_get_past}
use Rattle.ibc_machine.specs.declared.entry.Entry.{Entry}
use Rattle.ibc_machine.specs.ledger.Ledgers.{Ledger}
use Rattle.ibc_machine.specs.promises.Worlds.{entries, interleaved_from, interleaved}
use Rattle.ibc_refinement.proofs.ChangedPlaces.{get_set, get_set_other, get_within, get_there}
use Rattle.ibc_refinement.specs.World.{NamesEntries}

abbrev named : ℕ → List ℕ → ℕ
named k order = count_by (λ n. eqb n k) order

-- history k, empty where there is none
abbrev history_of : List (List Entry) → ℕ → List Entry
history_of histories k = unwrap_or (slice_get histories k) []

-- the order names each history as often as it has entries
abbrev UsesUp : List ℕ → List (List Entry) → Type 0
UsesUp order histories = (k : ℕ) → named k order ≡ length (history_of histories k)

history_there : (histories : List (List Entry)) (k : ℕ) (h : List Entry) → slice_get histories k ≡ Some h → history_of histories k ≡ h
history_there histories k h there = ap (λ o. unwrap_or o []) there

-- a history with an entry
begun : (histories : List (List Entry)) (k n : ℕ) → suc n ≡ length (history_of histories k)
    → (x : Entry) × (rest : List Entry) × (slice_get histories k ≡ Some (x ∷ rest)) × (n ≡ length rest)
begun histories k n count = by_option (slice_get histories k) refl
  where
    by_option : (o : Option (List Entry)) → slice_get histories k ≡ o → (x : Entry) × (rest : List Entry) × (slice_get histories k ≡ Some (x ∷ rest)) × (n ≡ length rest)
    by_option None is = let none : length (history_of histories k) ≡ 0 = ap (λ o. length (unwrap_or o [])) is in absurd (omega arith)
    by_option (Some []) is = let none : length (history_of histories k) ≡ 0 = ap (λ o. length (unwrap_or o [])) is in absurd (omega arith)
    by_option (Some (x ∷ rest)) is = let some : length (history_of histories k) ≡ suc (length rest) = ap (λ o. length (unwrap_or o [])) is in (x, rest, is, omega arith)

named_first : (k : ℕ) (order : List ℕ) → named k (k ∷ order) ≡ suc (named k order)
named_first k order =
    let one : ◌≡◌ {A = ℕ} (cond (eqb k k) 1 0) 1 = ap {B = ℕ} (λ b. cond b 1 0) (eq-eqb k k refl) in
    let whole = sum_by-cons (λ n. cond (eqb n k) 1 0) k order in
    omega (arith, one, whole)

named_other : (k j : ℕ) (order : List ℕ) → eqb j k ≡ false → named k (j ∷ order) ≡ named k order
named_other k j order apart =
    let none : ◌≡◌ {A = ℕ} (cond (eqb j k) 1 0) 0 = ap {B = ℕ} (λ b. cond b 1 0) apart in
    let whole = sum_by-cons (λ n. cond (eqb n k) 1 0) j order in
    omega (arith, none, whole)

-- after the first entry of history j
uses_rest : (j : ℕ) (order : List ℕ) (histories : List (List Entry)) (x : Entry) (rest : List Entry) → slice_get histories j ≡ Some (x ∷ rest) → UsesUp (j ∷ order) histories
    → UsesUp order (slice_set histories j rest)
uses_rest j order histories x rest there uses k =
    elim (eqb j k) as (λ b. eqb j k ≡ b → named k order ≡ length (history_of (slice_set histories j rest) k)) [
      | true ↦ λ is. subst (λ i. named i order ≡ length (history_of (slice_set histories j rest) i)) (eqb-true j k is) own
      | false ↦ λ apart.
          sym (named_other k j order apart) ∙ uses k
          ∙ ap (λ o. length (unwrap_or o [])) (sym (get_set_other histories j k rest (λ same. false≢true (sym apart ∙ eq-eqb j k same))))
    ] refl
  where
    own : named j order ≡ length (history_of (slice_set histories j rest) j)
    own =
        let before = uses j in
        let first = named_first j order in
        let was : length (history_of histories j) ≡ suc (length rest) = ap length (history_there histories j (x ∷ rest) there) in
        let is : length (history_of (slice_set histories j rest) j) ≡ length rest =
        ap length (history_there (slice_set histories j rest) j rest (get_set histories j rest (get_within histories j (x ∷ rest) there)))
        in
        omega arith

interleaved_first : (j : ℕ) (order : List ℕ) (histories : List (List Entry)) (x : Entry) (rest : List Entry) → slice_get histories j ≡ Some (x ∷ rest)
    → interleaved (j ∷ order) histories ≡ x ∷ interleaved order (slice_set histories j rest)
interleaved_first j order histories x rest there = ap (interleaved_from (interleaved order) histories j) there

interleaved_last : (order : List ℕ) (histories : List (List Entry)) (k : ℕ) (h : List Entry) (e : Entry) → UsesUp order histories → slice_get histories k ≡ Some h
    → interleaved (order ++ k ∷ []) (slice_set histories k (h ++ e ∷ [])) ≡ interleaved order histories ++ e ∷ []
interleaved_last [] histories k [] e uses there =
    interleaved_first k [] (slice_set histories k (e ∷ [])) e [] (get_set histories k (e ∷ []) (get_within histories k [] there))
interleaved_last [] histories k (x ∷ h) e uses there = let none = uses k in let some = ap length (history_there histories k (x ∷ h) there) in absurd (omega arith)
interleaved_last (j ∷ order) histories k h e uses there =
    let w = begun histories j (named j order) (sym (named_first j order) ∙ uses j) in
    let x = w.0 in
    let rest = w.1 in
    let next = uses_rest j order histories x rest w.2 uses in
    let first = interleaved_first j order histories x rest w.2 in
    elim (eqb j k) as (λ b. eqb j k ≡ b → interleaved (j ∷ order ++ k ∷ []) (slice_set histories k (h ++ e ∷ [])) ≡ interleaved (j ∷ order) histories ++ e ∷ []) [
      | true ↦ λ is.
          let same = eqb-true j k is in
          let both : Some h ≡ Some (x ∷ rest) = sym there ∙ ap (slice_get histories) (sym same) ∙ w.2 in
          let whole : h ≡ x ∷ rest = cc in
          let long : slice_get (slice_set histories k (h ++ e ∷ [])) j ≡ Some (x ∷ rest ++ e ∷ []) =
          ap (slice_get (slice_set histories k (h ++ e ∷ []))) same ∙ get_set histories k (h ++ e ∷ []) (get_within histories k h there) ∙ ap (λ l. Some (l ++ e ∷ [])) whole
          in
          let sets : slice_set (slice_set histories k (h ++ e ∷ [])) j (rest ++ e ∷ []) ≡ slice_set (slice_set histories j rest) k (rest ++ e ∷ []) =
          ap (λ i. slice_set (slice_set histories k (h ++ e ∷ [])) i (rest ++ e ∷ [])) same ∙ set-set histories k (h ++ e ∷ []) (rest ++ e ∷ [])
          ∙ sym (set-set histories k rest (rest ++ e ∷ [])) ∙ ap (λ i. slice_set (slice_set histories i rest) k (rest ++ e ∷ [])) (sym same)
          in
          let own : slice_get (slice_set histories j rest) k ≡ Some rest = ap (λ i. slice_get (slice_set histories j rest) i) (sym same) ∙ get_set histories j rest (get_within histories j (x ∷ rest) w.2) in
          interleaved_first j (order ++ k ∷ []) (slice_set histories k (h ++ e ∷ [])) x (rest ++ e ∷ []) long
          ∙ ap (λ hs. x ∷ interleaved (order ++ k ∷ []) hs) sets
          ∙ ap (λ l. x ∷ l) (interleaved_last order (slice_set histories j rest) k rest e next own)
          ∙ ap (λ l. l ++ e ∷ []) (sym first)
      | false ↦ λ is.
          let apart : j ≡ k → ⊥ = λ same. false≢true (sym is ∙ eq-eqb j k same) in
          let back : k ≡ j → ⊥ = λ same. apart (sym same) in
          let long : slice_get (slice_set histories k (h ++ e ∷ [])) j ≡ Some (x ∷ rest) = get_set_other histories k j (h ++ e ∷ []) back ∙ w.2 in
          let other : slice_get (slice_set histories j rest) k ≡ Some h = get_set_other histories j k rest apart ∙ there in
          interleaved_first j (order ++ k ∷ []) (slice_set histories k (h ++ e ∷ [])) x rest long
          ∙ ap (λ hs. x ∷ interleaved (order ++ k ∷ []) hs) (set_comm histories k j (h ++ e ∷ []) rest back)
          ∙ ap (λ l. x ∷ l) (interleaved_last order (slice_set histories j rest) k h e next other)
          ∙ ap (λ l. l ++ e ∷ []) (sym first)
    ] refl

-- ---- ledgers

none_named : (k n : ℕ) (order : List ℕ) → list_all (λ i. nat_lt i n) order ≡ true → n ≤ k → named k order ≡ 0
none_named k n [] all past = refl
none_named k n (j ∷ order) all past =
    let parts = and_parts (nat_lt j n) (list_all (λ i. nat_lt i n) order) all in
    let low = ltb-true j n parts.0 in
    let rest = none_named k n order parts.1 past in
    named_other k j order (elim (eqb j k) as (λ b. eqb j k ≡ b → b ≡ false) [ true ↦ λ is. let same = eqb-true j k is in absurd (omega arith) | false ↦ λ _. refl ] refl) ∙ rest

module _ (order : List ℕ) (ledgers : List Ledger) (names : NamesEntries order ledgers) where
  uses_up : UsesUp order (map entries ledgers)
  uses_up k =
      elim (cases_lt k (length ledgers)) [
        | inl low ↦
            let at = get_there ledgers k low in
            names.each k at.0 at.1 ∙ sym (length-map at.0.history _) ∙ ap length (sym (history_there (map entries ledgers) k (entries at.0) (slice_get-map entries ledgers k ∙ ap (option_map entries) at.1)))
        | inr past ↦
            none_named k (length ledgers) order names.no_others past
            ∙ ap (λ o. length (unwrap_or o [])) (sym (slice_get-map entries ledgers k ∙ ap (option_map entries) (slice_get_past ledgers k past)))
      ]

  -- the entry of ledger k is the last
  pub kept_last : (k : ℕ) (ledger : Ledger) (e : Entry) → slice_get ledgers k ≡ Some ledger
      → interleaved (order ++ k ∷ []) (slice_set (map entries ledgers) k (entries ledger ++ e ∷ [])) ≡ interleaved order (map entries ledgers) ++ e ∷ []
  kept_last k ledger e there = interleaved_last order (map entries ledgers) k (entries ledger) e uses_up (slice_get-map entries ledgers k ∙ ap (option_map entries) there)
