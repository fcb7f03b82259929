-- A written proof has a spelling, where the texts of the pairs and of the key are short and the tree isn't too deep.
use Rattle.std.proofs.Common.{◌≡◌, ℕ, zero, suc, ◌≤◌, ◌^◌, Bool, true, false, cond, ◌&&◌, nat_le, nat_lt, List, [], ◌∷◌, ◌++◌, length, filter, find, refl, sym, ap, ◌∙◌, subst, Option, Some, None, option_map, option_and_then, arith, le-leb, length-append, is_eq}
use Rattle.std.specs.List.{list_all, flat_map, AllByRecursion, last_or}
use Rattle.std.proofs.lemmas.List.Folds.{list_all-append}
use Rattle.std.proofs.lemmas.Grind.{flat_map-append}
use Rattle.std.proofs.lemmas.Bool.{and_from}
use Rattle.ibc_ids.specs.Texts.{Text, same_text, text_cmp}
use Rattle.ibc_ids.specs.Maps.{at}
use Rattle.ibc_merkle.specs.Tree.{Pairs, Tree, Leaf, Node, tree, root}
use Rattle.ibc_merkle.specs.Written.{left_child, right_child, found_below, operations_to, presence_of, last_below, first_above, written_proof, written_or_absent, absence_proof}
use Rattle.ibc_merkle.specs.Written as writing
use Rattle.ibc_merkle.specs.Proofs.{is_below}
use Rattle.ibc_merkle.specs.Hash.{leaf_mark}
use Rattle.ibc_merkle.specs.declared.proof.Operation.{Operation}
use Rattle.ibc_merkle.specs.declared.proof.Presence.{Presence}
use Rattle.ibc_merkle.proofs.Digests.{length-root}
use Rattle.ibc_merkle.proofs.Depths.{bytes-hash}
use Rattle.ibc_merkle.proofs.Depths.{IsWithin, tree_deep}
use Rattle.ibc_wire.specs.Fields.{Field, have_form, str_up_to, count_between}
use Rattle.ibc_wire.specs.Spelling.{operation_fields, presence_fields, neighbour_fields, proof_fields}
use Rattle.ibc_refinement.proofs.ShortTexts.{AreBytes, FitsText, FitsPair}

some_same : {A : Type 0} {x y : A} → ◌≡◌ {A = Option A} (Some x) (Some y) → x ≡ y
some_same e = cc

forms_both : (fs gs : List Field) → have_form fs ≡ true → have_form gs ≡ true → have_form (fs ++ gs) ≡ true
forms_both fs gs f g = list_all-append (λ (field : Field). field.in_type && field.in_form) fs gs ∙ and_from (have_form fs) (have_form gs) f g

str_form : (limit : ℕ) (text : Text) → FitsText limit text → have_form (str_up_to limit text ∷ []) ≡ true
str_form limit text h =
    and_from (list_all (λ c. nat_lt c 256) text && nat_le (length text) limit) true (and_from (list_all (λ c. nat_lt c 256) text) (nat_le (length text) limit) h.bytes (le-leb (length text) limit h.short)) refl

-- ---- operations

bytes-root : (t : Tree) → AreBytes (root t)
bytes-root (Leaf key value) = bytes-hash _
bytes-root (Node l r) = bytes-hash _

left_form : (t : Tree) → have_form (operation_fields (left_child (root t))) ≡ true
left_form t = forms_both (str_up_to 64 (1 ∷ []) ∷ []) (str_up_to 64 (root t) ∷ []) refl (str_form 64 (root t) (record { bytes = bytes-root t; short = omega (arith, length-root t) }))

right_form : (t : Tree) → have_form (operation_fields (right_child (root t))) ≡ true
right_form t =
    forms_both (str_up_to 64 (1 ∷ root t) ∷ []) (str_up_to 64 [] ∷ []) (str_form 64 (1 ∷ root t) (record { bytes = and_from (nat_lt 1 256) (list_all (λ c. nat_lt c 256) (root t)) refl (bytes-root t); short = omega (arith, length-root t) })) refl

pub record FitOperations (k : ℕ) (os : List Operation) : Type 0 where
  pub few : length os ≤ k
  pub form : have_form (flat_map operation_fields os) ≡ true

push_form : (k : ℕ) (os : List Operation) (o : Operation) → FitOperations k os → have_form (operation_fields o) ≡ true → FitOperations (suc k) (os ++ o ∷ [])
push_form k os o h f = record {
  few = omega (arith, length-append os (o ∷ []), h.few);
  form = ap have_form (flat_map-append operation_fields os (o ∷ [])) ∙ forms_both (flat_map operation_fields os) (operation_fields o ++ []) h.form (forms_both (operation_fields o) [] f refl);
}

operations_fit : (k : ℕ) (key : Text) (t : Tree) (os : List Operation) → IsWithin k t → operations_to key t ≡ Some os → FitOperations k os
operations_fit k key (Leaf other value) os within e =
    elim (same_text key other) as (λ b. (elim b as (λ _. Option (List Operation)) [ true ↦ Some [] | false ↦ None ]) ≡ Some os → FitOperations k os) [
      | true ↦ λ e. let same : [] ≡ os = cc in subst (FitOperations k) same (record { few = omega arith; form = refl })
      | false ↦ λ e. absurd (cc)
    ] e
operations_fit zero key (Node l r) os within e = absurd within
operations_fit (suc k) key (Node l r) os within e =
    elim (operations_to key l) as (λ o. operations_to key l ≡ o → found_below (root l) (root r) o (operations_to key r) ≡ Some os → FitOperations (suc k) os) [
      | Some xs ↦ λ is e.
          let same : Some (xs ++ left_child (root r) ∷ []) ≡ Some os = sym (found_left xs (operations_to key r)) ∙ e in
          subst (FitOperations (suc k)) (some_same same) (push_form k xs (left_child (root r)) (operations_fit k key l xs within.0 is) (left_form r))
      | None ↦ λ _ e. elim (operations_to key r) as (λ o. operations_to key r ≡ o → found_below (root l) (root r) None o ≡ Some os → FitOperations (suc k) os) [
        | Some xs ↦ λ is e. subst (FitOperations (suc k)) (some_same e) (push_form k xs (right_child (root l)) (operations_fit k key r xs within.1 is) (right_form l))
        | None ↦ λ _ e. absurd (cc)
      ] refl e
    ] refl e
  where
    found_left : (xs : List Operation) (o : Option (List Operation)) → found_below (root l) (root r) (Some xs) o ≡ Some (xs ++ left_child (root r) ∷ [])
    found_left xs None = refl
    found_left xs (Some ys) = refl

-- ---- presences

presence_form : (k : ℕ) (key value : Text) (os : List Operation) → k ≤ 64 → FitsPair (key, value) → FitOperations k os
    → have_form (presence_fields (record { key = key; value = value; leaf_prefix = leaf_mark; operations = os })) ≡ true
presence_form k key value os small fits operations =
    let tail : List Field = count_between 0 64 (length os) ∷ flat_map operation_fields os in
    forms_both (str_up_to 256 key ∷ []) (str_up_to 512 value ∷ str_up_to 64 leaf_mark ∷ tail) (str_form 256 key fits.0)
    (forms_both (str_up_to 512 value ∷ []) (str_up_to 64 leaf_mark ∷ tail) (str_form 512 value fits.1)
    (forms_both (str_up_to 64 leaf_mark ∷ []) tail refl
    (and_from (nat_le 0 (length os) && nat_le (length os) 64) (have_form (flat_map operation_fields os)) (and_from (nat_le 0 (length os)) (nat_le (length os) 64) (le-leb 0 (length os) (omega arith)) (le-leb (length os) 64 (omega (arith, operations.few)))) operations.form)))

-- a neighbour that is written has its form
abbrev NeighbourFits : Option Presence → Type 0
NeighbourFits o = have_form (neighbour_fields o) ≡ true

module _ (pairs : Pairs) (fits : AllByRecursion FitsPair pairs) (few : length pairs ≤ 2 ^ 64) where
  written_presence_form : (key value : Text) (p : Presence) → FitsPair (key, value) → writing.presence_in pairs key value ≡ Some p → have_form (presence_fields p) ≡ true
  written_presence_form key value p fit e =
      elim (operations_to key (tree pairs)) as (λ o. operations_to key (tree pairs) ≡ o
      → ◌≡◌ {A = Option Presence} (option_map (λ operations. record { key = key; value = value; leaf_prefix = leaf_mark; operations = operations }) o) (Some p) → have_form (presence_fields p) ≡ true) [
        | None ↦ λ _ e. absurd (cc)
        | Some os ↦ λ is e. subst (λ p. have_form (presence_fields p) ≡ true) (some_same e) (presence_form 64 key value os (omega arith) fit (operations_fit 64 key (tree pairs) os (tree_deep 64 pairs few) is))
      ] refl e

  pair_form : (pair : Option (Text × Text)) → ((e : Text × Text) → pair ≡ Some e → FitsPair e) → NeighbourFits (presence_of pairs pair)
  pair_form None h = refl
  pair_form (Some e) h =
      elim (writing.presence_in pairs e.0 e.1) as (λ o. writing.presence_in pairs e.0 e.1 ≡ o → NeighbourFits o) [
        | None ↦ λ _. refl
        | Some p ↦ λ is. and_from true (have_form (presence_fields p)) refl (written_presence_form e.0 e.1 p (h e refl) is)
      ] refl

  -- what a list's parts have
  last_fits : (test : Text × Text → Bool) (es : Pairs) (o : Option (Text × Text)) (e : Text × Text) → AllByRecursion FitsPair es → ((f : Text × Text) → o ≡ Some f → FitsPair f) → last_or o (filter test es) ≡ Some e → FitsPair e
  last_fits test [] o e h g is = g e is
  last_fits test (x ∷ es) o e h g is =
      elim (test x) as (λ b. last_or o (cond b (x ∷ filter test es) (filter test es)) ≡ Some e → FitsPair e) [
        | true ↦ λ is. last_fits test es (Some x) e h.1 (λ f same. subst FitsPair (some_same same) h.0) is
        | false ↦ λ is. last_fits test es o e h.1 g is
      ] is

  find_fits : (test : Text × Text → Bool) (es : Pairs) (e : Text × Text) → AllByRecursion FitsPair es → find test es ≡ Some e → FitsPair e
  find_fits test [] e h is = absurd (cc)
  find_fits test (x ∷ es) e h is =
      elim (test x) as (λ b. cond b (Some x) (find test es) ≡ Some e → FitsPair e) [ true ↦ λ is. subst FitsPair (some_same is) h.0 | false ↦ λ is. find_fits test es e h.1 is ] is

  value_fits : (key value : Text) (es : Pairs) → AllByRecursion FitsPair es → at text_cmp key es ≡ Some value → FitsText 512 value
  value_fits key value [] h is = absurd (cc)
  value_fits key value (x ∷ es) h is =
      elim (is_eq (text_cmp key x.0)) as (λ b. cond b (Some x.1) (at text_cmp key es) ≡ Some value → FitsText 512 value) [ true ↦ λ is. subst (FitsText 512) (some_same is) h.0.1 | false ↦ λ is. value_fits key value es h.1 is ] is

  absence_form : (key : Text) → FitsText 256 key → have_form (proof_fields (absence_proof pairs key)) ≡ true
  absence_form key fit =
      let rest : List Field = neighbour_fields (presence_of pairs (last_below pairs key)) ++ neighbour_fields (presence_of pairs (first_above pairs key)) in
      and_from true (have_form (str_up_to 256 key ∷ rest)) refl (forms_both (str_up_to 256 key ∷ []) rest (str_form 256 key fit)
      (forms_both (neighbour_fields (presence_of pairs (last_below pairs key))) (neighbour_fields (presence_of pairs (first_above pairs key)))
      (pair_form (last_below pairs key) (λ e is. last_fits (λ entry. is_below entry.0 key) pairs None e fits (λ f none. absurd (cc)) is))
      (pair_form (first_above pairs key) (λ e is. find_fits (λ entry. is_below key entry.0) pairs e fits is))))

  form_of_written : (key : Text) → FitsText 256 key → have_form (proof_fields (written_proof pairs key)) ≡ true
  unfolding written_proof
  form_of_written key fit =
      elim (option_and_then (λ value. writing.presence_in pairs key value) (at text_cmp key pairs)) as (λ o. option_and_then (λ value. writing.presence_in pairs key value) (at text_cmp key pairs) ≡ o → have_form (proof_fields (written_or_absent pairs key o)) ≡ true) [
        | None ↦ λ _. absence_form key fit
        | Some p ↦ λ is. and_from true (have_form (presence_fields p)) refl (found p (at text_cmp key pairs) refl is)
      ] refl
    where
      found : (p : Presence) (o : Option Text) → at text_cmp key pairs ≡ o → option_and_then (λ value. writing.presence_in pairs key value) o ≡ Some p → have_form (presence_fields p) ≡ true
      found p None there is = absurd (cc)
      found p (Some value) there is = written_presence_form key value p (fit, value_fits key value pairs fits there) is

-- a written proof has a spelling, where the texts of the pairs and of the key are short and the tree isn't too
-- deep
pub written_has_form : (pairs : Pairs) (key : Text) → AllByRecursion FitsPair pairs → length pairs ≤ 2 ^ 64 → FitsText 256 key
    → have_form (proof_fields (written_proof pairs key)) ≡ true
written_has_form pairs key fits few fit = form_of_written pairs fits few key fit
