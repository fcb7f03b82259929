-- Readers of several fields, one after another.
use Rattle.std.proofs.Common.{◌≡◌, ℕ, true, nat_lt, List, ◌∷◌, [], ◌++◌, Some, refl, sym, ap, ◌∙◌, subst}
use Rattle.ibc_ids.specs.Texts.{Text}
use Rattle.ibc_wire.specs.Fields.{Field, one_byte}
use Rattle.ibc_wire.specs.Reading.{◌>>=◌, Front, byte_at_front}
use Rattle.ibc_wire.specs.Lawful.{AreBytes, Begins, IsReader}
use Rattle.ibc_wire.proofs.Fronts.{bind_some, some_same, begins_both, begins_split, begins_none, rest_of_none, bytes_behind, u8_read, u8_front}

-- a reader of what is left of a value of which P is known already
pub record ReadsRest {A : Type 0} (P : A → Type 0) (fields : A → List Field) (front : Text → Front A) : Type 0 where
  pub spelled : (text : Text) (a : A) (rest : Text) → AreBytes text → front text ≡ Some (a, rest) → P a × Begins (fields a) text rest
  pub read : (a : A) (text rest : Text) → P a → Begins (fields a) text rest → front text ≡ Some (a, rest)

-- a part of the value first, and then what is left of it
pub first : {X A : Type 0} {P : A → Type 0} {part : X → List Field} {read : Text → Front X} {others : A → List Field} (next : X × Text → Front A) (get : A → X)
    → IsReader part read → ((x : X) → ReadsRest (λ a. P a × (x ≡ get a)) others (λ text. next (x, text)))
    → ReadsRest P (λ a. part (get a) ++ others a) (λ text. read text >>= next)
first {P = P} {part = part} {read = read} {others = others} next get reader rest_reader = record {
  spelled = λ text a rest bytes e.
      let found = bind_some (read text) next e in
      let x = found.0.0 in
      let behind = found.0.1 in
      let front = reader.spelled text x behind bytes found.1 in
      let back = (rest_reader x).spelled behind a rest (bytes_behind (part x) text behind bytes front) found.2 in
      (back.0.0, subst (λ y. Begins (part y ++ others a) text rest) back.0.1 (begins_both (part x) (others a) text behind rest front back.1));
  read = λ a text rest p h.
      let parts = begins_split (part (get a)) (others a) text rest h in
      ap (λ o. o >>= next) (reader.read (get a) text parts.0 parts.1) ∙ (rest_reader (get a)).read a parts.0 rest (p, refl) parts.2;
}

-- fields that are others by what is known
pub under : {A : Type 0} {P : A → Type 0} {fields others : A → List Field} {front : Text → Front A} → ((a : A) → P a → others a ≡ fields a)
    → ReadsRest P others front → ReadsRest P fields front
under same reader = record {
  spelled = λ text a rest bytes e. let found = reader.spelled text a rest bytes e in (found.0, subst (λ f. Begins f text rest) (same a found.0) found.1);
  read = λ a text rest p h. reader.read a text rest p (subst (λ f. Begins f text rest) (sym (same a p)) h);
}

-- a reader that does the same
pub like : {A : Type 0} {P : A → Type 0} {fields : A → List Field} {one other : Text → Front A} → ((text : Text) → one text ≡ other text) → ReadsRest P fields other → ReadsRest P fields one
like same reader = record {
  spelled = λ text a rest bytes e. reader.spelled text a rest bytes (sym (same text) ∙ e);
  read = λ a text rest p h. same text ∙ reader.read a text rest p h;
}

-- all of the value is known
pub done : {A : Type 0} {P : A → Type 0} (x : A) → P x → ((a : A) → P a → x ≡ a) → ReadsRest P (λ _. []) (λ text. Some (x, text))
done {P = P} x p same = record {
  spelled = λ text a rest bytes e.
      let parts = some_same e in
      subst (λ w. P w.0 × Begins [] text w.1) parts (p, begins_none text);
  read = λ a text rest q h. λ i. Some (same a q i, rest_of_none text rest h i);
}

pub reader_of : {A : Type 0} {fields : A → List Field} {front : Text → Front A} → ReadsRest (λ _. Unit {0}) fields front → IsReader fields front
reader_of r = record {
  spelled = λ text a rest bytes e. (r.spelled text a rest bytes e).1;
  read = λ a text rest h. r.read a text rest tt h;
}

-- ---- a value behind a tag

abbrev pub put_in : {A B : Type 0} → (A → B) → A × Text → Front B
put_in inject found = Some (inject found.0, found.1)

pub tagged_read : {A B : Type 0} {part : A → List Field} {read : Text → Front A} → IsReader part read → (k : ℕ) → nat_lt k 256 ≡ true → (inject : A → B) (fields : B → List Field) → ((a : A) → fields (inject a) ≡ one_byte k ∷ part a)
    → (text behind : Text) (b : B) (rest : Text) → AreBytes behind → text ≡ k ∷ behind → (read behind >>= put_in inject) ≡ Some (b, rest) → Begins (fields b) text rest
tagged_read {part = part} {read = read} reader k small inject fields same text behind b rest bytes is e =
    let found = bind_some (read behind) _ e in
    let back = reader.spelled behind found.0.0 found.0.1 bytes found.1 in
    let both = begins_both (one_byte k ∷ []) (part found.0.0) text behind found.0.1 (u8_read k text behind small is) back in
    subst (λ w. Begins (fields w.0) text w.1) (some_same found.2) (subst (λ f. Begins f text found.0.1) (sym (same found.0.0)) both)

pub tagged_front : {A B : Type 0} {part : A → List Field} {read : Text → Front A} → IsReader part read → (k : ℕ) (inject : A → B) (a : A) (text rest : Text) → Begins (one_byte k ∷ part a) text rest
    → (mid : Text) × (byte_at_front text ≡ Some (k, mid)) × ((read mid >>= put_in inject) ≡ Some (inject a, rest))
tagged_front {part = part} {read = read} reader k inject a text rest h =
    let w = begins_split (one_byte k ∷ []) (part a) text rest h in
    (w.0, u8_front k text w.0 w.1, ap (λ o. o >>= put_in inject) (reader.read a w.0 rest w.2))
