-- The readers of fields.
use Rattle.std.proofs.Common.{◌≡◌, bytes_eq, ℕ, ◌+◌, ◌*◌, ◌/◌, ◌%◌, ◌^◌, ◌<◌, ◌≤◌, Bool, true, false, ◌&&◌, nat_lt, nat_le, eqb, [], ◌∷◌, ◌++◌, length, Option, Some, None, refl, sym, ap, ◌∙◌, subst, arith, append-nil, append_assoc, lt-ltb, ltb-true, leb-true, le-leb, eq-eqb, eqb-true}
use native.Mathlib.Nat as nat
use Rattle.std.specs.Int.{w64, w128, to_be_bytes, from_be_bytes}
use Rattle.std.specs.List.{list_all}
use Rattle.std.specs.Str.{IsAscii}
use Rattle.std.proofs.lemmas.List.{nil_from_length}
use Rattle.std.proofs.lemmas.Nat.{be_bytes_8, from_be_bytes-to_be_bytes_8}
use Rattle.std.proofs.lemmas.Bool.{and_parts, and_from, false≢true}
use Rattle.std.proofs.lemmas.Slice.Eq.{bytes_eq-Decides}
use Rattle.ibc_ids.specs.Texts.{Text}
use Rattle.ibc_wire.specs.Fields.{Field, one_byte, be64, be128, str, str_up_to, with_length, name, root32, form_condition}
use Rattle.ibc_wire.specs.Spelling.{peer}
use Rattle.ibc_wire.specs.Reading.{Front, byte_at_front, bytes_at_front, str_at_front, ◌>>=◌}
use Rattle.ibc_wire.specs.Fronts.{number_at_front, amount_at_front, name_at_front, same_at_front, coded_at_front, peer_at_front}
use Rattle.ibc_wire.specs.Lawful.{AreBytes, Begins, IsReader}
use Rattle.ibc_wire.proofs.Fronts.{bind_some, some_same, if_some, bytes_behind, bytes_parts, bytes_at, bytes_from, byte_read, u8_read, u8_front, bytes_read, bytes_front, str_read, str_front}

pub u8_reader : IsReader (λ n. one_byte n ∷ []) byte_at_front
u8_reader = record {
  spelled = λ text n rest bytes e.
      let is = byte_read text n rest e in
      u8_read n text rest (and_parts (nat_lt n 256) _ (subst AreBytes is bytes)).0 is;
  read = λ n text rest h. u8_front n text rest h;
}

pub n8_reader : IsReader (λ n. be64 n ∷ []) (number_at_front w64)
n8_reader = record {
  spelled = λ text n rest bytes e.
      let found = bind_some (bytes_at_front 8 text) _ e in
      let eight = bytes_read 8 text found.0.0 found.0.1 found.1 in
      let mine = (bytes_parts found.0.0 found.0.1 (subst AreBytes eight.1 bytes)).0 in
      let at = λ (i : ℕ). bytes_at found.0.0 i mine in
      let same = some_same found.2 in
      let number : from_be_bytes w64 found.0.0 ≡ n = ap (λ w. w.0) same in
      let behind : found.0.1 ≡ rest = ap (λ w. w.1) same in
      let small : n < 2 ^ 64 = omega (arith, at 0, at 1, at 2, at 3, at 4, at 5, at 6, at 7, number) in
      let spelled : to_be_bytes w64 n ≡ found.0.0 = be_bytes_8 found.0.0 n eight.0 at (sym number) in
      record {
        form = and_from (nat_lt n (2 ^ 64) && true) true (and_from (nat_lt n (2 ^ 64)) true (lt-ltb n (2 ^ 64) small) refl) refl;
        is = eight.1 ∙ (λ i. sym spelled i ++ behind i) ∙ ap (λ x. x ++ rest) (sym (append-nil (to_be_bytes w64 n)));
      };
  read = λ n text rest h.
      let small = ltb-true n (2 ^ 64) (and_parts (nat_lt n (2 ^ 64)) true (and_parts (nat_lt n (2 ^ 64) && true) true h.form).0).0 in
      let is : text ≡ to_be_bytes w64 n ++ rest = h.is ∙ ap (λ x. x ++ rest) (append-nil (to_be_bytes w64 n)) in
      ap (number_at_front w64) is
      ∙ ap (λ o. o >>= λ (b : Text × Text). Some (from_be_bytes w64 b.0, b.1)) (bytes_front 8 (to_be_bytes w64 n) rest refl)
      ∙ ap (λ m. Some (m, rest)) (from_be_bytes-to_be_bytes_8 n small);
}

-- ---- texts

pub str_reader : (limit : ℕ) → limit < 65536 → IsReader (λ t. str_up_to limit t ∷ []) (str_at_front limit)
str_reader limit small = record {
  spelled = λ text t rest bytes e. str_read limit text t rest bytes e;
  read = λ t text rest h. str_front limit text t rest small h;
}

-- one field, whose own bytes and form are known
one_field : (field : Field) (text rest : Text) → (field.in_type && field.in_form) ≡ true → text ≡ field.bytes ++ rest → Begins (field ∷ []) text rest
one_field field text rest form is = record {
  form = and_from (field.in_type && field.in_form) true form refl;
  is = is ∙ ap (λ x. x ++ rest) (sym (append-nil field.bytes));
}

its_form : (field : Field) (text rest : Text) → Begins (field ∷ []) text rest → (field.in_type && field.in_form) ≡ true
its_form field text rest h = (and_parts (field.in_type && field.in_form) true h.form).0

its_bytes : (field : Field) (text rest : Text) → Begins (field ∷ []) text rest → text ≡ field.bytes ++ rest
its_bytes field text rest h = h.is ∙ ap (λ x. x ++ rest) (append-nil field.bytes)

-- a text that is short and of bytes, behind its length
counted_front : (t text rest : Text) → AreBytes t → length t ≤ 65535 → text ≡ with_length t ++ rest → str_at_front 65535 text ≡ Some (t, rest)
counted_front t text rest bytes short is =
    let form = and_from (list_all (λ c. nat_lt c 256) t) (nat_le (length t) 65535) bytes (le-leb (length t) 65535 short) in
    str_front 65535 text t rest (omega arith) (one_field (str t) text rest form is)

counted_read : (text t rest : Text) → AreBytes text → str_at_front 65535 text ≡ Some (t, rest) → text ≡ with_length t ++ rest
counted_read text t rest bytes e = its_bytes (str t) text rest (str_read 65535 text t rest bytes e)

pub name_reader : (test : Text → Bool) → ((t : Text) → test t ≡ true → IsAscii t × (length t ≤ 256)) → IsReader (λ t. name test t ∷ []) (name_at_front test)
name_reader test short = record {
  spelled = λ text t rest bytes e.
      let found = bind_some (str_at_front 65535 text) _ e in
      let passed = if_some (test found.0.0) (Some found.0) found.2 in
      let same = some_same passed.1 in
      let mine = one_field (name test found.0.0) text found.0.1 (and_from (test found.0.0) true passed.0 refl) (counted_read text found.0.0 found.0.1 bytes found.1) in
      subst (λ w. Begins (name test w.0 ∷ []) text w.1) same mine;
  read = λ t text rest h.
      let passed : test t ≡ true = (and_parts (test t) true (its_form (name test t) text rest h)).0 in
      let shape = short t passed in
      let bytes = bytes_from t (λ i lt. omega (arith, shape.0 i)) in
      ap (λ o. o >>= λ found. elim (test found.0) as (λ _. Option (Text × Text)) [ true ↦ Some found | false ↦ None ])
      (counted_front t text rest bytes (omega (arith, shape.1)) (its_bytes (name test t) text rest h))
      ∙ ap (λ b. elim b as (λ _. Option (Text × Text)) [ true ↦ Some (t, rest) | false ↦ None ]) passed;
}

pub root_reader : IsReader (λ t. root32 t ∷ []) (bytes_at_front 32)
root_reader = record {
  spelled = λ text t rest bytes e.
      let found = bytes_read 32 text t rest e in
      let mine = (bytes_parts t rest (subst AreBytes found.1 bytes)).0 in
      one_field (root32 t) text rest
      (and_from (eqb (length t) 32 && list_all (λ c. nat_lt c 256) t) true (and_from (eqb (length t) 32) (list_all (λ c. nat_lt c 256) t) (eq-eqb (length t) 32 found.0) mine) refl) found.1;
  read = λ t text rest h.
      let form = (and_parts (eqb (length t) 32 && list_all (λ c. nat_lt c 256) t) true (its_form (root32 t) text rest h)).0 in
      let long = eqb-true (length t) 32 (and_parts (eqb (length t) 32) (list_all (λ c. nat_lt c 256) t) form).0 in
      ap (bytes_at_front 32) (its_bytes (root32 t) text rest h) ∙ bytes_front 32 t rest long;
}

pub same_reader : (expected : Text) → AreBytes expected → length expected ≤ 65535 → IsReader (λ _. str expected ∷ []) (same_at_front expected)
same_reader expected all short = record {
  spelled = λ text t rest bytes e.
      let found = bind_some (str_at_front 65535 text) _ e in
      let passed = if_some (bytes_eq found.0.0 expected) (Some (tt, found.0.1)) found.2 in
      let same = some_same passed.1 in
      let mine = str_read 65535 text found.0.0 found.0.1 bytes found.1 in
      let this = subst (λ t. Begins (str t ∷ []) text found.0.1) ((bytes_eq-Decides found.0.0 expected).0 passed.0) mine in
      subst (λ w. Begins (str expected ∷ []) text w.1) same this;
  read = λ t text rest h.
      ap (λ o. o >>= λ (found : Text × Text). elim (bytes_eq found.0 expected) as (λ _. Front (Unit {0})) [ true ↦ Some (tt, found.1) | false ↦ None ])
      (counted_front expected text rest all short (its_bytes (str expected) text rest h))
      ∙ ap (λ b. elim b as (λ _. Front (Unit {0})) [ true ↦ Some (tt, rest) | false ↦ None ]) ((bytes_eq-Decides expected expected).1 refl);
}

-- ---- values with numbers

pub coded_reader : {A : Type 0} (number : A → ℕ) (of : ℕ → Option A) → ((n : ℕ) (a : A) → of n ≡ Some a → n ≡ number a) → ((a : A) → of (number a) ≡ Some a) → ((a : A) → nat_lt (number a) 256 ≡ true)
    → IsReader (λ a. one_byte (number a) ∷ []) (coded_at_front of)
coded_reader number of its_number of_its small = record {
  spelled = λ text a rest bytes e.
      let found = bind_some (byte_at_front text) _ e in
      let value = bind_some (of found.0.0) _ found.2 in
      let same = some_same value.2 in
      let is = byte_read text found.0.0 found.0.1 found.1 in
      let n = its_number found.0.0 value.0 value.1 in
      let mine = u8_read (number value.0) text found.0.1 (small value.0) (subst (λ m. text ≡ m ∷ found.0.1) n is) in
      subst (λ w. Begins (one_byte (number w.0) ∷ []) text w.1) same mine;
  read = λ a text rest h.
      ap (λ o. o >>= λ (n : ℕ × Text). of n.0 >>= λ found. Some (found, n.1)) (u8_front (number a) text rest h)
      ∙ ap (λ o. o >>= λ found. Some (found, rest)) (of_its a);
}

-- ---- peers

never : {A : Type 0} (field : Field) (text rest : Text) → field.in_form ≡ false → Begins (field ∷ []) text rest → A
never field text rest bad h = absurd (false≢true (sym bad ∙ (and_parts field.in_type field.in_form (its_form field text rest h)).1))

nothing_read : (text : Text) (t rest : Text) → AreBytes text → str_at_front 0 text ≡ Some (t, rest) → Begins (str [] ∷ []) text rest
nothing_read text t rest bytes e =
    let b = str_read 0 text t rest bytes e in
    let form = and_parts (list_all (λ c. nat_lt c 256) t) (nat_le (length t) 0) (its_form (str_up_to 0 t) text rest b) in
    let none : t ≡ [] = nil_from_length t (omega (arith, leb-true (length t) 0 form.1)) in
    one_field (str []) text rest refl (subst (λ x. text ≡ with_length x ++ rest) none (its_bytes (str_up_to 0 t) text rest b))

pub peer_reader : (test : Text → Bool) → ((t : Text) → test t ≡ true → IsAscii t × (length t ≤ 256)) → (init : Bool) → IsReader (λ o. peer test init o ∷ []) (peer_at_front test init)
peer_reader test short true = record {
  spelled = λ text o rest bytes e.
      let found = bind_some (str_at_front 0 text) _ e in
      subst (λ w. Begins (peer test true w.0 ∷ []) text w.1) (some_same found.2) (nothing_read text found.0.0 found.0.1 bytes found.1);
  read = λ o text rest h. no_peer test o text rest h;
}
  where
    no_peer : (test : Text → Bool) (o : Option Text) (text rest : Text) → Begins (peer test true o ∷ []) text rest → peer_at_front test true text ≡ Some (o, rest)
    no_peer test None text rest h =
        ap (λ f. f >>= λ (found : Text × Text). Some (None, found.1)) (str_front 0 text [] rest (omega arith) (one_field (str_up_to 0 []) text rest refl (its_bytes (str []) text rest h)))
    no_peer test (Some id) text rest h = never (form_condition false) text rest refl h
peer_reader test short false = record {
  spelled = λ text o rest bytes e.
      let found = bind_some (name_at_front test text) _ e in
      subst (λ w. Begins (peer test false w.0 ∷ []) text w.1) (some_same found.2) ((name_reader test short).spelled text found.0.0 found.0.1 bytes found.1);
  read = λ o text rest h. a_peer o text rest h;
}
  where
    a_peer : (o : Option Text) (text rest : Text) → Begins (peer test false o ∷ []) text rest → peer_at_front test false text ≡ Some (o, rest)
    a_peer None text rest h = never (form_condition false) text rest refl h
    a_peer (Some id) text rest h =
        ap (λ f. f >>= λ (found : Text × Text). Some (Some found.0, found.1)) ((name_reader test short).read id text rest h)

-- ---- amounts

high_byte : (n high p : ℕ) → n / 18446744073709551616 ≡ high → n / (18446744073709551616 * p) % 256 ≡ high / p % 256
high_byte n high p is = ap (λ m. m % 256) (sym (nat.div-div-eq-div-mul n 18446744073709551616 p)) ∙ ap (λ m. m / p % 256) is

-- an amount's bytes are those of its halves
halves : (n high low : ℕ) → low < 2 ^ 64 → n ≡ high * 2 ^ 64 + low → to_be_bytes w128 n ≡ to_be_bytes w64 high ++ to_be_bytes w64 low
halves n high low small is =
    let upper : n / 18446744073709551616 ≡ high = omega arith in
    let h7 = high_byte n high 72057594037927936 upper in
    let h6 = high_byte n high 281474976710656 upper in
    let h5 = high_byte n high 1099511627776 upper in
    let h4 = high_byte n high 4294967296 upper in
    let h3 = high_byte n high 16777216 upper in
    let h2 = high_byte n high 65536 upper in
    let h1 = high_byte n high 256 upper in
    let h0 = ap (λ m. m % 256) upper in
    let l7 : n / 72057594037927936 % 256 ≡ low / 72057594037927936 % 256 = omega arith in
    let l6 : n / 281474976710656 % 256 ≡ low / 281474976710656 % 256 = omega arith in
    let l5 : n / 1099511627776 % 256 ≡ low / 1099511627776 % 256 = omega arith in
    let l4 : n / 4294967296 % 256 ≡ low / 4294967296 % 256 = omega arith in
    let l3 : n / 16777216 % 256 ≡ low / 16777216 % 256 = omega arith in
    let l2 : n / 65536 % 256 ≡ low / 65536 % 256 = omega arith in
    let l1 : n / 256 % 256 ≡ low / 256 % 256 = omega arith in
    let l0 : n % 256 ≡ low % 256 = omega arith in
    λ i. h7 i ∷ h6 i ∷ h5 i ∷ h4 i ∷ h3 i ∷ h2 i ∷ h1 i ∷ h0 i ∷ l7 i ∷ l6 i ∷ l5 i ∷ l4 i ∷ l3 i ∷ l2 i ∷ l1 i ∷ l0 i ∷ []

pub n16_reader : IsReader (λ n. be128 n ∷ []) amount_at_front
n16_reader = record {
  spelled = λ text n rest bytes e.
      let high = bind_some (number_at_front w64 text) _ e in
      let h = n8_reader.spelled text high.0.0 high.0.1 bytes high.1 in
      let low = bind_some (number_at_front w64 high.0.1) _ high.2 in
      let l = n8_reader.spelled high.0.1 low.0.0 low.0.1 (bytes_behind (be64 high.0.0 ∷ []) text high.0.1 bytes h) low.1 in
      let small = number_form high.0.0 text high.0.1 h in
      let low_small = number_form low.0.0 high.0.1 low.0.1 l in
      let amount = high.0.0 * 2 ^ 64 + low.0.0 in
      let fits : amount < 2 ^ 128 = omega arith in
      let is : text ≡ to_be_bytes w128 amount ++ low.0.1 =
      its_bytes (be64 high.0.0) text high.0.1 h ∙ ap (λ x. to_be_bytes w64 high.0.0 ++ x) (its_bytes (be64 low.0.0) high.0.1 low.0.1 l)
      ∙ sym (append_assoc (to_be_bytes w64 high.0.0) (to_be_bytes w64 low.0.0) low.0.1) ∙ ap (λ x. x ++ low.0.1) (sym (halves amount high.0.0 low.0.0 low_small refl))
      in
      let mine = one_field (be128 amount) text low.0.1 (and_from (nat_lt amount (2 ^ 128)) true (lt-ltb amount (2 ^ 128) fits) refl) is in
      subst (λ w. Begins (be128 w.0 ∷ []) text w.1) (some_same low.2) mine;
  read = λ n text rest h.
      let high = n / 2 ^ 64 in
      let low = n % 2 ^ 64 in
      let fits = ltb-true n (2 ^ 128) (and_parts (nat_lt n (2 ^ 128)) true (its_form (be128 n) text rest h)).0 in
      let low_small : low < 2 ^ 64 = omega arith in
      let high_small : high < 2 ^ 64 = omega arith in
      let is_n : n ≡ high * 2 ^ 64 + low = omega arith in
      let is : text ≡ to_be_bytes w64 high ++ (to_be_bytes w64 low ++ rest) =
      its_bytes (be128 n) text rest h ∙ ap (λ x. x ++ rest) (halves n high low low_small is_n) ∙ append_assoc (to_be_bytes w64 high) (to_be_bytes w64 low) rest
      in
      ap (λ o. o >>= λ (h : ℕ × Text). number_at_front w64 h.1 >>= λ (l : ℕ × Text). Some (h.0 * 2 ^ 64 + l.0, l.1))
      (n8_reader.read high text (to_be_bytes w64 low ++ rest) (one_field (be64 high) text (to_be_bytes w64 low ++ rest) (and_from (nat_lt high (2 ^ 64)) true (lt-ltb high (2 ^ 64) high_small) refl) is))
      ∙ ap (λ o. o >>= λ (l : ℕ × Text). Some (high * 2 ^ 64 + l.0, l.1))
      (n8_reader.read low (to_be_bytes w64 low ++ rest) rest (one_field (be64 low) (to_be_bytes w64 low ++ rest) rest (and_from (nat_lt low (2 ^ 64)) true (lt-ltb low (2 ^ 64) low_small) refl) refl))
      ∙ ap (λ m. Some (m, rest)) (sym is_n);
}
  where
    number_form : (n : ℕ) (text rest : Text) → Begins (be64 n ∷ []) text rest → n < 2 ^ 64
    number_form n text rest h = ltb-true n (2 ^ 64) (and_parts (nat_lt n (2 ^ 64)) true (its_form (be64 n) text rest h)).0
