-- What stands at the front of a text: fields in their form, and the text behind them.
use Rattle.std.proofs.Common.{◌≡◌, ℕ, suc, zero, ◌<◌, Bool, true, false, ◌&&◌, nat_le, nat_lt, List, [], ◌∷◌, ◌++◌, length, take, drop, get_or, refl, sym, ap, ◌∙◌, subst, Option, Some, None, arith, append_assoc, append-nil, length-append, leb-true, le-leb, lt-ltb, ltb-true, take-append-drop, take_at, drop_at}
use Rattle.std.specs.List.{list_all}
use Rattle.std.specs.Int.{w16, to_be_bytes, from_be_bytes}
use Rattle.std.proofs.lemmas.List.{length-take-le}
use Rattle.std.proofs.lemmas.List.Folds.{list_all-append}
use Rattle.std.proofs.lemmas.Grind.{flat_map-append}
use Rattle.std.proofs.lemmas.Nat.{be_bytes_2, from_be_bytes-to_be_bytes_2}
use Rattle.std.proofs.lemmas.Bool.{and_parts, and_from}
use Rattle.ibc_ids.specs.Texts.{Text}
use Rattle.ibc_wire.specs.Fields.{Field, bytes_of, have_form, str_up_to, with_length, one_byte, count_between}
use Rattle.ibc_wire.specs.Lawful.{AreBytes, Begins}
use Rattle.ibc_wire.specs.Reading.{byte_at_front, bytes_at_front, str_at_front, ◌>>=◌}

-- ---- readers

pub some_same : {A : Type 0} {x y : A} → ◌≡◌ {A = Option A} (Some x) (Some y) → x ≡ y
some_same e = cc

pub none_some : {A B : Type 0} {x : A} → ◌≡◌ {A = Option A} None (Some x) → B
none_some e = absurd (cc)

pub bind_some : {A B : Type 0} (o : Option A) (f : A → Option B) {y : B} → (o >>= f) ≡ Some y → (x : A) × (o ≡ Some x) × (f x ≡ Some y)
bind_some (Some x) f e = (x, refl, e)
bind_some None f e = none_some e

pub if_some : {A : Type 0} (b : Bool) (o : Option A) {y : A} → (elim b as (λ _. Option A) [ true ↦ o | false ↦ None ]) ≡ Some y → (b ≡ true) × (o ≡ Some y)
if_some true o e = (refl, e)
if_some false o e = none_some e

-- ---- texts of bytes

pub bytes_parts : (xs ys : Text) → AreBytes (xs ++ ys) → AreBytes xs × AreBytes ys
bytes_parts xs ys h = and_parts (list_all (λ c. nat_lt c 256) xs) (list_all (λ c. nat_lt c 256) ys) (sym (list_all-append (λ c. nat_lt c 256) xs ys) ∙ h)

pub bytes_at : (xs : Text) (i : ℕ) → AreBytes xs → get_or xs i 0 < 256
bytes_at [] i h = omega arith
bytes_at (x ∷ xs) zero h = ltb-true x 256 (and_parts (nat_lt x 256) (list_all (λ c. nat_lt c 256) xs) h).0
bytes_at (x ∷ xs) (suc i) h = bytes_at xs i (and_parts (nat_lt x 256) (list_all (λ c. nat_lt c 256) xs) h).1

pub bytes_from : (xs : Text) → ((i : ℕ) → i < length xs → get_or xs i 0 < 256) → AreBytes xs
bytes_from [] h = refl
bytes_from (x ∷ xs) h = and_from (nat_lt x 256) (list_all (λ c. nat_lt c 256) xs) (lt-ltb x 256 (h 0 (omega arith))) (bytes_from xs (λ i l. h (suc i) (omega arith)))

-- ---- fields at the front

pub begins_both : (fs gs : List Field) (text mid rest : Text) → Begins fs text mid → Begins gs mid rest → Begins (fs ++ gs) text rest
begins_both fs gs text mid rest f g = record {
  form = list_all-append (λ (field : Field). field.in_type && field.in_form) fs gs ∙ and_from (have_form fs) (have_form gs) f.form g.form;
  is = f.is ∙ ap (λ m. bytes_of fs ++ m) g.is ∙ sym (append_assoc (bytes_of fs) (bytes_of gs) rest) ∙ ap (λ t. t ++ rest) (sym (flat_map-append (λ (field : Field). field.bytes) fs gs));
}

pub begins_split : (fs gs : List Field) (text rest : Text) → Begins (fs ++ gs) text rest → (mid : Text) × Begins fs text mid × Begins gs mid rest
begins_split fs gs text rest h =
    let forms = and_parts (have_form fs) (have_form gs) (sym (list_all-append (λ (field : Field). field.in_type && field.in_form) fs gs) ∙ h.form) in (
      bytes_of gs ++ rest,
      record { form = forms.0; is = h.is ∙ ap (λ t. t ++ rest) (flat_map-append (λ (field : Field). field.bytes) fs gs) ∙ append_assoc (bytes_of fs) (bytes_of gs) rest },
      record { form = forms.1; is = refl },
    )

pub begins_none : (text : Text) → Begins [] text text
begins_none text = record { form = refl; is = refl }

pub rest_of_none : (text rest : Text) → Begins [] text rest → text ≡ rest
rest_of_none text rest h = h.is

pub bytes_behind : (fs : List Field) (text rest : Text) → AreBytes text → Begins fs text rest → AreBytes rest
bytes_behind fs text rest h b = (bytes_parts (bytes_of fs) rest (subst AreBytes b.is h)).1

-- ---- one byte

pub byte_read : (text : Text) (b : ℕ) (rest : Text) → byte_at_front text ≡ Some (b, rest) → text ≡ b ∷ rest
byte_read [] b rest e = none_some e
byte_read (x ∷ text) b rest e = let same = some_same e in λ i. (same i).0 ∷ (same i).1

pub u8_read : (n : ℕ) (text rest : Text) → nat_lt n 256 ≡ true → text ≡ n ∷ rest → Begins (one_byte n ∷ []) text rest
u8_read n text rest small e = record { form = and_from (nat_lt n 256 && true) true (and_from (nat_lt n 256) true small refl) refl; is = e }

pub u8_front : (n : ℕ) (text rest : Text) → Begins (one_byte n ∷ []) text rest → byte_at_front text ≡ Some (n, rest)
u8_front n text rest h = ap byte_at_front h.is

pub count_read : (least most n : ℕ) (text rest : Text) → (nat_le least n && nat_le n most) ≡ true → text ≡ n ∷ rest → Begins (count_between least most n ∷ []) text rest
count_read least most n text rest few e = record { form = and_from (nat_le least n && nat_le n most) true few refl; is = e }

pub count_front : (least most n : ℕ) (text rest : Text) → Begins (count_between least most n ∷ []) text rest → ((nat_le least n && nat_le n most) ≡ true) × (byte_at_front text ≡ Some (n, rest))
count_front least most n text rest h = ((and_parts (nat_le least n && nat_le n most) true h.form).0, ap byte_at_front h.is)

-- ---- so many bytes

pub bytes_read : (n : ℕ) (text t rest : Text) → bytes_at_front n text ≡ Some (t, rest) → (length t ≡ n) × (text ≡ t ++ rest)
bytes_read n text t rest e =
    let parts = if_some (nat_le n (length text)) (Some (take n text, drop n text)) e in
    let same = some_same parts.1 in
    let enough = leb-true n (length text) parts.0 in
    (ap length (λ i. sym (λ j. (same j).0) i) ∙ length-take-le n text enough, sym (take-append-drop n text) ∙ (λ i. (same i).0 ++ (same i).1))

pub bytes_front : (n : ℕ) (t rest : Text) → length t ≡ n → bytes_at_front n (t ++ rest) ≡ Some (t, rest)
bytes_front n t rest l =
    ap (λ b. elim b as (λ _. Option (Text × Text)) [ true ↦ Some (take n (t ++ rest), drop n (t ++ rest)) | false ↦ None ]) (le-leb n (length (t ++ rest)) (omega (arith, length-append t rest)))
    ∙ (λ i. Some (take_at t rest n l i, drop_at t rest n l i))

-- ---- a text behind its length

pub str_read : (limit : ℕ) (text t rest : Text) → AreBytes text → str_at_front limit text ≡ Some (t, rest) → Begins (str_up_to limit t ∷ []) text rest
str_read limit text t rest bytes e =
    let size = bind_some (bytes_at_front 2 text) _ e in
    let first = bytes_read 2 text size.0.0 size.0.1 size.1 in
    let n = from_be_bytes w16 size.0.0 in
    let within = if_some (nat_le n limit) (bytes_at_front n size.0.1) size.2 in
    let second = bytes_read n size.0.1 t rest within.1 in
    let all = bytes_parts size.0.0 size.0.1 (subst AreBytes first.1 bytes) in
    let mine = bytes_parts t rest (subst AreBytes second.1 all.1) in
    let spelled : to_be_bytes w16 (length t) ≡ size.0.0 = be_bytes_2 size.0.0 (length t) first.0 (λ i. bytes_at size.0.0 i all.0) second.0 in
    record {
      form = and_from (list_all (λ c. nat_lt c 256) t && nat_le (length t) limit) true
          (and_from (list_all (λ c. nat_lt c 256) t) (nat_le (length t) limit) mine.0 (ap (λ m. nat_le m limit) second.0 ∙ within.0)) refl;
      is = first.1 ∙ (λ i. sym spelled i ++ second.1 i) ∙ sym (append_assoc (to_be_bytes w16 (length t)) t rest) ∙ ap (λ x. x ++ rest) (sym (append-nil (with_length t)));
    }

pub str_front : (limit : ℕ) (text t rest : Text) → limit < 65536 → Begins (str_up_to limit t ∷ []) text rest → str_at_front limit text ≡ Some (t, rest)
str_front limit text t rest small h =
    let forms = and_parts (list_all (λ c. nat_lt c 256) t) (nat_le (length t) limit) (and_parts (list_all (λ c. nat_lt c 256) t && nat_le (length t) limit) true h.form).0 in
    let short = leb-true (length t) limit forms.1 in
    let is : text ≡ to_be_bytes w16 (length t) ++ (t ++ rest) = h.is ∙ ap (λ x. x ++ rest) (append-nil (with_length t)) ∙ append_assoc (to_be_bytes w16 (length t)) t rest in
    let number : from_be_bytes w16 (to_be_bytes w16 (length t)) ≡ length t = from_be_bytes-to_be_bytes_2 (length t) (omega arith) in
    let next : Text × Text → Option (Text × Text) = λ size. elim (nat_le (from_be_bytes w16 size.0) limit) as (λ _. Option (Text × Text)) [ true ↦ bytes_at_front (from_be_bytes w16 size.0) size.1 | false ↦ None ] in
    ap (str_at_front limit) is
    ∙ ap (λ o. o >>= next) (bytes_front 2 (to_be_bytes w16 (length t)) (t ++ rest) refl)
    ∙ ap (λ n. elim (nat_le n limit) as (λ _. Option (Text × Text)) [ true ↦ bytes_at_front n (t ++ rest) | false ↦ None ]) number
    ∙ ap (λ b. elim b as (λ _. Option (Text × Text)) [ true ↦ bytes_at_front (length t) (t ++ rest) | false ↦ None ]) forms.1
    ∙ bytes_front (length t) t rest refl
