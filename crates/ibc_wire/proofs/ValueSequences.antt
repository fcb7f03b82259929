-- Values in a row, one after the other, as loops read and write them.
use Rattle.std.proofs.Common.{◌≡◌, ℕ, suc, ◌+◌, ◌-◌, ◌<◌, ◌≤◌, false, List, [], ◌∷◌, ◌++◌, length, get_or, take, drop, Some, None, refl, sym, ap, ◌∙◌, subst, arith, append-nil, append_assoc, take-append-drop}
use Rattle.std.specs.Prelude.{IsTrue}
use Rattle.std.specs.List.{flat_map}
use Rattle.std.proofs.lemmas.List.{take_more, take_all}
use Rattle.std.proofs.lemmas.Grind.{flat_map-append}
use Rattle.ibc_ids.specs.Texts.{Text}
use Rattle.ibc_ids.specs.declared.refusal.Refusal.{Refusal}
use Rattle.ibc_wire.specs.Fields.{Field, have_form, bytes_of}
use Rattle.ibc_wire.specs.Reading.{◌>>=◌, Front}
use Rattle.ibc_wire.specs.Fronts.{IsRefusal, many_at_front}
use Rattle.ibc_wire.proofs.Writing.{refused, none_behind, none_before, all_behind}

-- what was read before, and what is still read
abbrev pub with_front : {A : Type 0} → List A → Front (List A) → Front (List A)
with_front front read = read >>= λ x. Some (front ++ x.0, x.1)

regroup : {A : Type 0} (front : List A) (x : A) (read : Front (List A)) → with_front front (read >>= λ y. Some (x ∷ y.0, y.1)) ≡ with_front (front ++ x ∷ []) read
regroup front x (Some y) = ap (λ xs. Some (xs, y.1)) (sym (append_assoc front (x ∷ []) y.0))
regroup front x None = refl

module _ {A : Type 0} (front : Text → Front A) where
  pub goes_on : (before : List A) (count i : ℕ) (bytes : Text) (x : A) (after : Text) (total : Front (List A)) → i < count → front bytes ≡ Some (x, after)
      → with_front before (many_at_front front (count - i) bytes) ≡ total → with_front (before ++ x ∷ []) (many_at_front front (count - (i + 1)) after) ≡ total
  goes_on before count i bytes x after total lt h so_far =
      let k : count - i ≡ suc (count - (i + 1)) = omega arith in
      let more : Front A → Front (List A) = λ o. o >>= λ head. many_at_front front (count - (i + 1)) head.1 >>= λ others. Some (head.0 ∷ others.0, others.1) in
      sym (regroup before x (many_at_front front (count - (i + 1)) after))
      ∙ ap (λ o. with_front before (more o)) (sym h)
      ∙ ap (λ n. with_front before (many_at_front front n bytes)) (sym k)
      ∙ so_far

  pub ends : (e : Refusal) (before : List A) (count i : ℕ) (bytes : Text) (total : Front (List A)) → i < count → IsRefusal e (front bytes ≡ None)
      → with_front before (many_at_front front (count - i) bytes) ≡ total → IsRefusal e (total ≡ None)
  ends e before count i bytes total lt h so_far =
      let k : count - i ≡ suc (count - (i + 1)) = omega arith in
      let more : Front A → Front (List A) = λ o. o >>= λ head. many_at_front front (count - (i + 1)) head.1 >>= λ others. Some (head.0 ∷ others.0, others.1) in
      refused e (λ none. sym so_far ∙ ap (λ n. with_front before (many_at_front front n bytes)) k ∙ ap (λ o. with_front before (more o)) none) h

  pub is_done : (before : List A) (count i : ℕ) (bytes : Text) (total : Front (List A)) → count ≤ i
      → with_front before (many_at_front front (count - i) bytes) ≡ total → total ≡ Some (before, bytes)
  is_done before count i bytes total le so_far =
      let k : count - i ≡ 0 = omega arith in
      sym so_far ∙ ap (λ n. with_front before (many_at_front front n bytes)) k ∙ ap (λ xs. Some (xs, bytes)) (append-nil before)

-- the fields of what was written so far have their form, and are written
abbrev pub SoFar : {A : Type 0} → (A → List Field) → List A → Text → Text → Type 0
SoFar fields xs old new = IsTrue (have_form (flat_map fields xs)) × (new ≡ old ++ bytes_of (flat_map fields xs))

module _ {A : Type 0} (fields : A → List Field) where
  one_more : (xs : List A) (i : ℕ) (x : A) → i < length xs → x ≡ get_or xs i x → flat_map fields (take (i + 1) xs) ≡ flat_map fields (take i xs) ++ fields x
  one_more xs i x lt is =
      ap (flat_map fields) (take_more xs i x lt) ∙ flat_map-append fields (take i xs) (get_or xs i x ∷ [])
      ∙ ap (λ y. flat_map fields (take i xs) ++ flat_map fields (y ∷ [])) (sym is) ∙ ap (λ fs. flat_map fields (take i xs) ++ fs) (append-nil (fields x))

  pub more_written : (xs : List A) (i : ℕ) (x : A) (old mid new : Text) → i < length xs → x ≡ get_or xs i x
      → SoFar fields (take i xs) old mid → IsTrue (have_form (fields x)) × (new ≡ mid ++ bytes_of (fields x)) → SoFar fields (take (i + 1) xs) old new
  more_written xs i x old mid new lt is so_far this =
      subst (λ fs. IsTrue (have_form fs) × (new ≡ old ++ bytes_of fs)) (sym (one_more xs i x lt is)) (all_behind (flat_map fields (take i xs)) (fields x) old mid new so_far this)

  pub one_fails : (e : Refusal) (xs : List A) (i : ℕ) (x : A) → i < length xs → x ≡ get_or xs i x → IsRefusal e (have_form (fields x) ≡ false) → IsRefusal e (have_form (flat_map fields xs) ≡ false)
  one_fails e xs i x lt is h =
      let parts : flat_map fields xs ≡ flat_map fields (take (i + 1) xs) ++ flat_map fields (drop (i + 1) xs) =
      ap (flat_map fields) (sym (take-append-drop (i + 1) xs)) ∙ flat_map-append fields (take (i + 1) xs) (drop (i + 1) xs)
      in
      refused e (λ none.
      ap have_form parts
      ∙ none_before (flat_map fields (take (i + 1) xs)) (flat_map fields (drop (i + 1) xs)) (ap have_form (one_more xs i x lt is) ∙ none_behind (flat_map fields (take i xs)) (fields x) none)) h

  pub all_written : (xs : List A) (i : ℕ) (old new : Text) → length xs ≤ i → SoFar fields (take i xs) old new → SoFar fields xs old new
  all_written xs i old new le h = subst (λ ys. SoFar fields ys old new) (take_all i xs le) h
