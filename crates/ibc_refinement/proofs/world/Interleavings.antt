-- A list that has the histories' entries is interleaved from them by the chains of its entries.
use Rattle.std.proofs.Common.{◌≡◌, ℕ, true, false, cond, eqb, nat_lt, List, [], ◌∷◌, length, map, filter, refl, sym, ap, ◌∙◌, subst, Some, slice_get, slice_set, eqb-true, eq-eqb, ltb-true}
use Rattle.std.specs.List.{list_all}
use Rattle.std.proofs.lemmas.Bool.{and_parts, false≢true}
use Rattle.ibc_machine.specs.declared.entry.Entry.{Entry}
use Rattle.ibc_machine.specs.ledger.Ledgers.{chain_of}
use Rattle.ibc_machine.specs.ledger.Merge.{is_of_chain}
use Rattle.ibc_machine.specs.promises.Worlds.{interleaved_from, interleaved}
use Rattle.ibc_refinement.proofs.ChangedPlaces.{get_set, get_set_other, get_there, length_set}

-- the chains of entries
abbrev pub chains_of : List Entry → List ℕ
chains_of list = map (λ (e : Entry). chain_of e.event) list

-- each history has the entries of its chain, in their order
abbrev AreOf : List Entry → List (List Entry) → Type 0
AreOf list histories = (k : ℕ) (history : List Entry) → slice_get histories k ≡ Some history → filter (is_of_chain k) list ≡ history

abbrev AreWithin : List Entry → ℕ → Type 0
AreWithin list n = list_all (λ (e : Entry). nat_lt (chain_of e.event) n) list ≡ true

own_first : (e : Entry) (list : List Entry) → filter (is_of_chain (chain_of e.event)) (e ∷ list) ≡ e ∷ filter (is_of_chain (chain_of e.event)) list
own_first e list =
    let rest : List Entry = filter (is_of_chain (chain_of e.event)) list in
    ap (λ b. cond b (e ∷ rest) rest) (eq-eqb (chain_of e.event) (chain_of e.event) refl)

other_first : (e : Entry) (list : List Entry) (k : ℕ) → eqb (chain_of e.event) k ≡ false → filter (is_of_chain k) (e ∷ list) ≡ filter (is_of_chain k) list
other_first e list k apart =
    let rest : List Entry = filter (is_of_chain k) list in
    ap (λ b. cond b (e ∷ rest) rest) apart

-- the history of the first entry begins with it
first_there : (e : Entry) (list : List Entry) (histories : List (List Entry)) → AreOf (e ∷ list) histories → nat_lt (chain_of e.event) (length histories) ≡ true
    → slice_get histories (chain_of e.event) ≡ Some (e ∷ filter (is_of_chain (chain_of e.event)) list)
first_there e list histories each low =
    let at = get_there histories (chain_of e.event) (ltb-true (chain_of e.event) (length histories) low) in
    at.1 ∙ ap (λ l. Some l) (sym (each (chain_of e.event) at.0 at.1) ∙ own_first e list)

-- the others are of the histories without it
rest_of : (e : Entry) (list : List Entry) (histories : List (List Entry)) → AreOf (e ∷ list) histories → nat_lt (chain_of e.event) (length histories) ≡ true
    → AreOf list (slice_set histories (chain_of e.event) (filter (is_of_chain (chain_of e.event)) list))
rest_of e list histories each low k history there =
    let own : List Entry = filter (is_of_chain (chain_of e.event)) list in
    elim (eqb (chain_of e.event) k) as (λ b. eqb (chain_of e.event) k ≡ b → filter (is_of_chain k) list ≡ history) [
      | true ↦ λ same.
          let is = eqb-true (chain_of e.event) k same in
          let set = get_set histories (chain_of e.event) own (ltb-true (chain_of e.event) (length histories) low) in
          let both : Some own ≡ Some history = sym set ∙ ap (slice_get (slice_set histories (chain_of e.event) own)) is ∙ there in
          let one : own ≡ history = cc in
          ap (λ i. filter (is_of_chain i) list) (sym is) ∙ one
      | false ↦ λ apart.
          let away : chain_of e.event ≡ k → ⊥ = λ same. false≢true (sym apart ∙ eq-eqb (chain_of e.event) k same) in
          sym (other_first e list k apart) ∙ each k history (sym (get_set_other histories (chain_of e.event) k own away) ∙ there)
    ] refl

pub interleaved_is : (list : List Entry) (histories : List (List Entry)) → AreOf list histories → AreWithin list (length histories) → interleaved (chains_of list) histories ≡ list
interleaved_is [] histories each within = refl
interleaved_is (e ∷ list) histories each within =
    let parts = and_parts (nat_lt (chain_of e.event) (length histories)) (list_all (λ (e : Entry). nat_lt (chain_of e.event) (length histories)) list) within in
    let own : List Entry = filter (is_of_chain (chain_of e.event)) list in
    ap (interleaved_from (interleaved (chains_of list)) histories (chain_of e.event)) (first_there e list histories each parts.0)
    ∙ ap (λ l. e ∷ l) (interleaved_is list (slice_set histories (chain_of e.event) own) (rest_of e list histories each parts.0) (subst (AreWithin list) (sym (length_set histories (chain_of e.event) own)) parts.1))
