-- What is written behind bytes.
use Rattle.std.proofs.lemmas.List.Folds.{list_all-append}
use Rattle.std.proofs.lemmas.Grind.{flat_map-append}
use Rattle.std.proofs.Common.{Result, Ok, Err, Bool, false, ◌≡◌, ℕ, ◌<◌, ◌≤◌, true, ◌&&◌, nat_lt, nat_le, eqb, List, [], ◌∷◌, ◌++◌, length, get_or, refl, sym, ap, ◌∙◌, subst, append-nil, append_assoc, le-leb, eq-eqb}
use Rattle.std.specs.Prelude.{IsTrue}
use Rattle.std.specs.Int.{w16, to_be_bytes}
use Rattle.std.specs.List.{list_all}
use Rattle.std.proofs.lemmas.Bool.{and_from}
use Rattle.ibc_ids.specs.Texts.{Text}
use Rattle.ibc_ids.specs.declared.refusal.Refusal.{Refusal}
use Rattle.ibc_ids.specs.declared.refusal.Refusal.TheVariants.{NoMemory, BadMessage}
use Rattle.ibc_wire.specs.Fronts.{IsRefusal, Writes}
use Rattle.ibc_wire.specs.Fields.{Field, have_form, bytes_of, str_up_to, root32, form_condition}
use Rattle.ibc_wire.proofs.Fronts.{bytes_from, bytes_parts}
use Rattle.ibc_wire.specs.Lawful.{AreBytes}

pub text_is_written : (limit : ℕ) (text old mid new : Text) → ((i : ℕ) → i < length text → get_or text i 0 < 256) → length text ≤ limit
    → mid ≡ old ++ to_be_bytes w16 (length text) → new ≡ mid ++ text
    → IsTrue (have_form (str_up_to limit text ∷ [])) × (new ≡ old ++ bytes_of (str_up_to limit text ∷ []))
text_is_written limit text old mid new bytes short first second = (
  and_from (list_all (λ c. nat_lt c 256) text && nat_le (length text) limit) true
      (and_from (list_all (λ c. nat_lt c 256) text) (nat_le (length text) limit) (bytes_from text bytes) (le-leb (length text) limit short)) refl,
  second ∙ ap (λ x. x ++ text) first ∙ append_assoc old (to_be_bytes w16 (length text)) text ∙ ap (λ x. old ++ x) (sym (append-nil (to_be_bytes w16 (length text) ++ text))),
)

pub root_is_written : (root old new : Text) → ((i : ℕ) → i < length new → get_or new i 0 < 256) → length root ≡ 32 → new ≡ old ++ root
    → IsTrue (have_form (root32 root ∷ [])) × (new ≡ old ++ bytes_of (root32 root ∷ []))
root_is_written root old new bytes long is = (
  and_from (eqb (length root) 32 && list_all (λ c. nat_lt c 256) root && true) true
      (and_from (eqb (length root) 32 && list_all (λ c. nat_lt c 256) root) true
      (and_from (eqb (length root) 32) (list_all (λ c. nat_lt c 256) root) (eq-eqb (length root) 32 long) (bytes_parts old root (subst AreBytes is (bytes_from new bytes))).1) refl) refl,
  is ∙ ap (λ x. old ++ x) (sym (append-nil root)),
)

-- ---- fields behind fields

pub refused : {P Q : Type 0} (e : Refusal) → (P → Q) → IsRefusal e P → IsRefusal e Q
refused NoMemory f h = tt
refused BadMessage f h = f h
refused _ f h = absurd h

both_forms : (fs gs : List Field) → have_form (fs ++ gs) ≡ (have_form fs && have_form gs)
both_forms fs gs = list_all-append (λ (field : Field). field.in_type && field.in_form) fs gs

both_bytes : (fs gs : List Field) → bytes_of (fs ++ gs) ≡ bytes_of fs ++ bytes_of gs
both_bytes fs gs = flat_map-append (λ (field : Field). field.bytes) fs gs

pub none_behind : (fs gs : List Field) → have_form gs ≡ false → have_form (fs ++ gs) ≡ false
none_behind fs gs e = both_forms fs gs ∙ ap (λ b. have_form fs && b) e ∙ and_false (have_form fs)
  where
    and_false : (b : Bool) → (b && false) ≡ false
    and_false true = refl
    and_false false = refl

pub none_before : (fs gs : List Field) → have_form fs ≡ false → have_form (fs ++ gs) ≡ false
none_before fs gs e = both_forms fs gs ∙ ap (λ b. b && have_form gs) e

pub all_behind : (fs gs : List Field) (old mid new : Text) → IsTrue (have_form fs) × (mid ≡ old ++ bytes_of fs) → IsTrue (have_form gs) × (new ≡ mid ++ bytes_of gs)
    → IsTrue (have_form (fs ++ gs)) × (new ≡ old ++ bytes_of (fs ++ gs))
all_behind fs gs old mid new f g = (
  both_forms fs gs ∙ and_from (have_form fs) (have_form gs) f.0 g.0,
  g.1 ∙ ap (λ x. x ++ bytes_of gs) f.1 ∙ append_assoc old (bytes_of fs) (bytes_of gs) ∙ ap (λ x. old ++ x) (sym (both_bytes fs gs)),
)

pub behind : {X : Type 0} (fs gs : List Field) (old mid new : Text) (r : Result X Refusal) → IsTrue (have_form fs) × (mid ≡ old ++ bytes_of fs) → Writes gs mid r new → Writes (fs ++ gs) old r new
behind fs gs old mid new (Ok x) f g = all_behind fs gs old mid new f g
behind fs gs old mid new (Err e) f g = refused e (none_behind fs gs) g

-- a condition that holds has no bytes
pub nothing_behind : {X : Type 0} (fs : List Field) (holds : Bool) → holds ≡ true → (old new : Text) (r : Result X Refusal) → Writes fs old r new → Writes (fs ++ form_condition holds ∷ []) old r new
nothing_behind fs holds h old new (Ok x) f = all_behind fs (form_condition holds ∷ []) old new new f (and_from holds true h refl, sym (append-nil new))
nothing_behind fs holds h old new (Err e) f = refused e (none_before fs (form_condition holds ∷ [])) f
