-- One stage of a merge by stamps, chain by chain.
use Rattle.std.proofs.Common.{◌≡◌, ℕ, suc, ◌<◌, true, false, cond, eqb, List, [], ◌∷◌, ◌++◌, filter, refl, sym, ap, ◌∙◌, subst, arith, eqb-true, eq-eqb, append-nil}
use Rattle.std.specs.List.{AllByRecursion, flat_map}
use Rattle.std.proofs.lemmas.Bool.{false≢true}
use Rattle.std.proofs.lemmas.List.Elements.{filter-append}
use Rattle.ibc_machine.specs.ledger.Replay.{StampedEntry}
use Rattle.ibc_machine.specs.ledger.Merge.{is_of_chain}
use Rattle.ibc_refinement.specs.Stamps.{entries_since, first_entries, later_entries, next_block, left_after}

abbrev pub Histories : Type 0
Histories = List (List StampedEntry)

-- the history of chain k among those of chains i, i + 1 and so on
abbrev pub history_at : ℕ → ℕ → Histories → List StampedEntry
history_at k i [] = []
history_at k i (h ∷ hs) = cond (eqb i k) h (history_at k (suc i) hs)

pub not_before : (k i : ℕ) (hs : Histories) → k < i → history_at k i hs ≡ []
not_before k i [] low = refl
not_before k i (h ∷ hs) low = ap (λ b. cond b h (history_at k (suc i) hs)) (apart) ∙ not_before k (suc i) hs (omega arith)
  where
    apart : eqb i k ≡ false
    apart = elim (eqb i k) as (λ b. eqb i k ≡ b → b ≡ false) [ true ↦ λ is. let same = eqb-true i k is in absurd (omega arith) | false ↦ λ _. refl ] refl

pub next_is : (n k i : ℕ) (hs : Histories) → next_block n k i hs ≡ first_entries (entries_since n (history_at k i hs))
next_is n k i [] = refl
next_is n k i (h ∷ hs) =
    elim (eqb i k) as (λ b. cond b (first_entries (entries_since n h)) (next_block n k (suc i) hs) ≡ first_entries (entries_since n (cond b h (history_at k (suc i) hs)))) [ true ↦ refl | false ↦ next_is n k (suc i) hs ]

-- what is left of chain j's, where chain k has published
pub left_is : (n k j i : ℕ) (hs : Histories) → history_at j i (left_after n k i hs) ≡ cond (eqb k j) (later_entries (entries_since n (history_at j i hs))) (entries_since n (history_at j i hs))
left_is n k j i [] = elim (eqb k j) as (λ b. ◌≡◌ {A = List StampedEntry} [] (cond b [] [])) [ true ↦ refl | false ↦ refl ]
left_is n k j i (h ∷ hs) =
    elim (eqb i j) as (λ b. eqb i j ≡ b → cond b (cond (eqb i k) (later_entries (entries_since n h)) (entries_since n h)) (history_at j (suc i) (left_after n k (suc i) hs))
    ≡ cond (eqb k j) (later_entries (entries_since n (cond b h (history_at j (suc i) hs)))) (entries_since n (cond b h (history_at j (suc i) hs)))) [
      | true ↦ λ is. ap (λ b. cond b (later_entries (entries_since n h)) (entries_since n h)) (turned is)
      | false ↦ λ _. left_is n k j (suc i) hs
    ] refl
  where
    turned : eqb i j ≡ true → eqb i k ≡ eqb k j
    turned is =
        let same = eqb-true i j is in
        elim (eqb k j) as (λ b. eqb k j ≡ b → eqb i k ≡ b) [
          | true ↦ λ e. eq-eqb i k (same ∙ sym (eqb-true k j e))
          | false ↦ λ e. elim (eqb i k) as (λ c. eqb i k ≡ c → c ≡ false) [ true ↦ λ d. absurd (false≢true (sym e ∙ eq-eqb k j (sym (eqb-true i k d) ∙ same))) | false ↦ λ _. refl ] refl
        ] refl

-- ---- the entries of a chain

abbrev pub own : ℕ → List StampedEntry → List StampedEntry
own k = filter (λ (s : StampedEntry). is_of_chain k s.entry)

abbrev pub AreOf : ℕ → List StampedEntry → Type 0
AreOf k history = AllByRecursion (λ (s : StampedEntry). is_of_chain k s.entry ≡ true) history

own_all : (k : ℕ) (history : List StampedEntry) → AreOf k history → own k history ≡ history
own_all k [] h = refl
own_all k (e ∷ history) h = ap (λ b. cond b (e ∷ own k history) (own k history)) h.0 ∙ ap (λ xs. e ∷ xs) (own_all k history h.1)

own_none : (k j : ℕ) (history : List StampedEntry) → eqb j k ≡ false → AreOf j history → own k history ≡ []
own_none k j [] other h = refl
own_none k j (e ∷ history) other h =
    ap (λ b. cond b (e ∷ own k history) (own k history)) (not_of e h.0) ∙ own_none k j history other h.1
  where
    not_of : (e : StampedEntry) → is_of_chain j e.entry ≡ true → is_of_chain k e.entry ≡ false
    not_of e is =
        let mine = eqb-true _ j is in
        elim (is_of_chain k e.entry) as (λ b. is_of_chain k e.entry ≡ b → b ≡ false) [ true ↦ λ d. absurd (false≢true (sym other ∙ eq-eqb j k (sym mine ∙ eqb-true _ k d))) | false ↦ λ _. refl ] refl

pub own_if : (k j : ℕ) (history : List StampedEntry) → AreOf j history → own k history ≡ cond (eqb j k) history []
own_if k j history of =
    elim (eqb j k) as (λ b. eqb j k ≡ b → own k history ≡ cond b history []) [
      | true ↦ λ is. let same = eqb-true j k is in own_all k history (subst (λ x. AreOf x history) same of)
      | false ↦ λ other. own_none k j history other of
    ] refl

-- of what stands by then of all histories, a chain's is what stands of its own
pub own_by : (f : List StampedEntry → List StampedEntry) → f [] ≡ [] → ((j : ℕ) (h : List StampedEntry) → AreOf j h → AreOf j (f h)) → (k i : ℕ) (hs : Histories)
    → ((j : ℕ) → AreOf j (history_at j i hs)) → own k (flat_map f hs) ≡ f (history_at k i hs)
own_by f none keeps k i [] of = sym none
own_by f none keeps k i (h ∷ hs) of =
    filter-append (λ (s : StampedEntry). is_of_chain k s.entry) (f h) (flat_map f hs)
    ∙ ap (λ xs. xs ++ own k (flat_map f hs)) (own_if k i (f h) (keeps i h mine))
    ∙ ap (λ xs. cond (eqb i k) (f h) [] ++ xs) (own_by f none keeps k (suc i) hs others)
    ∙ elim (eqb i k) as (λ b. eqb i k ≡ b → cond b (f h) [] ++ f (history_at k (suc i) hs) ≡ f (cond b h (history_at k (suc i) hs))) [
      | true ↦ λ is. let same = eqb-true i k is in ap (λ xs. f h ++ f xs) (not_before k (suc i) hs (omega arith)) ∙ ap (λ xs. f h ++ xs) none ∙ append-nil (f h)
      | false ↦ λ _. refl
    ] refl
  where
    mine : AreOf i h
    mine = subst (λ b. AreOf i (cond b h (history_at i (suc i) hs))) (eq-eqb i i refl) (of i)

    others : (j : ℕ) → AreOf j (history_at j (suc i) hs)
    others j =
        elim (eqb i j) as (λ b. eqb i j ≡ b → AreOf j (history_at j (suc i) hs)) [
          | true ↦ λ is. let same = eqb-true i j is in subst (AreOf j) (sym (not_before j (suc i) hs (omega arith))) tt
          | false ↦ λ other. subst (λ b. AreOf j (cond b h (history_at j (suc i) hs))) other (of j)
        ] refl
