-- What a reader gives, where all of the text is to be one value.
use Rattle.std.proofs.Common.{◌≡◌, ◌⊎◌, inl, inr, List, [], ◌∷◌, Option, Some, None, Result, Ok, Err, refl, sym, ap, ◌∙◌, append-nil}
use Rattle.std.specs.Prelude.{IfOk, IfErr, IsErrOf, IsOkUnless}
use Rattle.ibc_ids.specs.Texts.{Text}
use Rattle.ibc_ids.specs.declared.refusal.Refusal.{Refusal}
use Rattle.ibc_ids.specs.declared.refusal.Refusal.TheVariants.{NoMemory, BadMessage}
use Rattle.ibc_wire.specs.Fields.{Field, Spells, HasOneValue, bytes_of}
use Rattle.ibc_wire.specs.Reading.{Front}
use Rattle.ibc_wire.specs.Fronts.{IsRefusal, Gives, value_if_whole}
use Rattle.ibc_wire.proofs.Fronts.{some_same}
use Rattle.ibc_wire.specs.Lawful.{AreBytes, Begins, IsReader}

-- a refusal that may come is one of two
pub one_of_two : {bad : Type 0} (e : Refusal) → IsRefusal e bad → (e ≡ NoMemory) ⊎ ((e ≡ BadMessage) × bad)
one_of_two NoMemory h = inl refl
one_of_two BadMessage h = inr (refl, h)
one_of_two _ h = absurd h

only_is : {A : Type 0} (read : Front A) (a : A) → value_if_whole read ≡ Some a → read ≡ Some (a, [])
only_is None a e = absurd cc
only_is (Some (b, [])) a e = let same : b ≡ a = cc in λ i. Some (same i, [])
only_is (Some (b, x ∷ rest)) a e = absurd cc

module _ {A : Type 0} {fields : A → List Field} {front : Text → Front A} (reader : IsReader fields front) where
  pub is_spelled : (text : Text) (a : A) → AreBytes text → value_if_whole (front text) ≡ Some a → Spells (fields a) text
  is_spelled text a bytes e =
      let begins = reader.spelled text a [] bytes (only_is (front text) a e) in
      (begins.form, begins.is ∙ append-nil (bytes_of (fields a)))

  pub is_read : (text : Text) (a : A) → Spells (fields a) text → value_if_whole (front text) ≡ Some a
  is_read text a h =
      let begins : Begins (fields a) text [] = record { form = h.0; is = h.1 ∙ sym (append-nil (bytes_of (fields a))) } in
      ap value_if_whole (reader.read a text [] begins)

  pub one_value : HasOneValue fields
  one_value a b text h g =
      let same : ◌≡◌ {A = Option A} (Some a) (Some b) = sym (is_read text a h) ∙ is_read text b g in
      some_same same

  pub record Decodes (text : Text) (r : Result A Refusal) : Type 0 where
    pub ok : IfOk r (λ a. Spells (fields a) text)
    pub bad : IsErrOf r BadMessage → (a : A) → Spells (fields a) text → ⊥
    pub memory : (a : A) → Spells (fields a) text → IsOkUnless r NoMemory
    pub errors : IfErr r (λ e. (e ≡ BadMessage) ⊎ (e ≡ NoMemory))

  refused : (text : Text) (e : Refusal) → (e ≡ NoMemory) ⊎ ((e ≡ BadMessage) × (value_if_whole (front text) ≡ None)) → Decodes text (Err e)
  refused text e (inl no_memory) = record {
    ok = tt;
    bad = λ bad a h. absurd (cc);
    memory = λ a h. no_memory;
    errors = inr no_memory;
  }
  refused text e (inr (is_bad, none)) = record {
    ok = tt;
    bad = λ bad a h. let read = is_read text a h in absurd (cc);
    memory = λ a h. let read = is_read text a h in absurd (cc);
    errors = inl is_bad;
  }

  pub decoded : (text : Text) (r : Result A Refusal) → AreBytes text → Gives (λ a. a) r (value_if_whole (front text)) → Decodes text r
  decoded text (Ok a) bytes gives = record {
    ok = is_spelled text a bytes gives;
    bad = λ bad b h. absurd (cc);
    memory = λ b h. tt;
    errors = tt;
  }
  decoded text (Err e) bytes gives = refused text e (one_of_two e gives)
