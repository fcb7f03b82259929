-- The readers of lists: so many values in a row, tokens in rising order.
use Rattle.std.proofs.Common.{◌≡◌, ℕ, zero, suc, Bool, true, false, ◌&&◌, nat_le, List, [], ◌∷◌, ◌++◌, length, Some, None, refl, sym, ap, ◌∙◌, subst}
use Rattle.std.specs.List.{flat_map}
use Rattle.std.proofs.lemmas.Bool.{and_parts, and_from}
use Rattle.ibc_ids.specs.Texts.{Text}
use Rattle.ibc_ids.specs.Names.{is_denom}
use Rattle.ibc_ids.proofs.Ascii.{denominations}
use Rattle.ibc_wire.specs.Tokens.{is_rising}
use Rattle.ibc_wire.specs.Fields.{Field, form_condition, count_between}
use Rattle.ibc_wire.specs.Spelling.{token_fields, tokens_fields}
use Rattle.ibc_wire.specs.Reading.{◌>>=◌, Front, byte_at_front}
use Rattle.ibc_wire.specs.Fronts.{many_at_front}
use Rattle.ibc_wire.specs.RecordFronts.{token_at_front, tokens_at_front}
use Rattle.ibc_wire.specs.Lawful.{AreBytes, Begins, IsReader}
use Rattle.ibc_wire.specs.declared.token.Token.{Token}
use Rattle.ibc_wire.proofs.Fronts.{bind_some, some_same, if_some, begins_both, begins_split, begins_none, bytes_behind, byte_read, count_read, count_front}
use Rattle.ibc_wire.proofs.FieldReaders.{first, done, reader_of}
use Rattle.ibc_wire.proofs.Readers.{name_reader, n16_reader}

-- ---- so many values in a row

module _ {A : Type 0} {fields : A → List Field} {front : Text → Front A} (reader : IsReader fields front) where
  pub many_read : (n : ℕ) (text : Text) (xs : List A) (rest : Text) → AreBytes text → many_at_front front n text ≡ Some (xs, rest) → (length xs ≡ n) × Begins (flat_map fields xs) text rest
  many_read zero text xs rest bytes e =
      subst (λ (w : List A × Text). (length w.0 ≡ zero) × Begins (flat_map fields w.0) text w.1) (some_same e) (refl, begins_none text)
  many_read (suc n) text xs rest bytes e =
      let head = bind_some (front text) _ e in
      let f = reader.spelled text head.0.0 head.0.1 bytes head.1 in
      let others = bind_some (many_at_front front n head.0.1) _ head.2 in
      let o = many_read n head.0.1 others.0.0 others.0.1 (bytes_behind (fields head.0.0) text head.0.1 bytes f) others.1 in
      let both = begins_both (fields head.0.0) (flat_map fields others.0.0) text head.0.1 others.0.1 f o.1 in
      subst (λ (w : List A × Text). (length w.0 ≡ suc n) × Begins (flat_map fields w.0) text w.1) (some_same others.2) (ap suc o.0, both)

  pub many_front : (xs : List A) (text rest : Text) → Begins (flat_map fields xs) text rest → many_at_front front (length xs) text ≡ Some (xs, rest)
  many_front [] text rest h = ap (λ t. Some ([], t)) h.is
  many_front (x ∷ xs) text rest h =
      let w = begins_split (fields x) (flat_map fields xs) text rest h in
      let next : A × Text → Front (List A) = λ head. many_at_front front (length xs) head.1 >>= λ others. Some (head.0 ∷ others.0, others.1) in
      ap (λ o. o >>= next) (reader.read x text w.0 w.1)
      ∙ ap (λ o. o >>= λ (others : List A × Text). Some (x ∷ others.0, others.1)) (many_front xs w.0 rest w.2)

-- ---- tokens

pub token_reader : IsReader token_fields token_at_front
unfolding token_at_front
token_reader =
    reader_of (
    first _ (λ t. t.denom) (name_reader is_denom denominations) λ denom.
    first _ (λ t. t.amount) n16_reader λ amount.
    done _ ((tt, refl), refl) (λ t p. λ i. record { denom = p.0.1 i; amount = p.1 i })
    )

abbrev few : ℕ → Bool
few n = nat_le 1 n && nat_le n 8

rising_field : (ts : List Token) (text : Text) → is_rising ts ≡ true → Begins (form_condition (is_rising ts) ∷ []) text text
rising_field ts text e = record { form = and_from (is_rising ts) true e refl; is = refl }

pub tokens_reader : IsReader tokens_fields tokens_at_front
unfolding tokens_at_front
tokens_reader = record {
  spelled = λ text ts rest bytes e.
      let count = bind_some (byte_at_front text) _ e in
      let n = count.0.0 in
      let behind = count.0.1 in
      let found = bind_some (elim (few n) as (λ _. Front (List Token)) [ true ↦ many_at_front token_at_front n behind | false ↦ None ]) _ count.2 in
      let short = if_some (few n) (many_at_front token_at_front n behind) found.1 in
      let passed = if_some (is_rising found.0.0) (Some found.0) found.2 in
      let c = count_read 1 8 n text behind short.0 (byte_read text n behind count.1) in
      let all = many_read token_reader n behind found.0.0 found.0.1 (bytes_behind (count_between 1 8 n ∷ []) text behind bytes c) short.1 in
      let counted : Begins (count_between 1 8 (length found.0.0) ∷ []) text behind = subst (λ m. Begins (count_between 1 8 m ∷ []) text behind) (sym all.0) c in
      let ends = begins_both (flat_map token_fields found.0.0) (form_condition (is_rising found.0.0) ∷ []) behind found.0.1 found.0.1 all.1 (rising_field found.0.0 found.0.1 passed.0) in
      let mine = begins_both (count_between 1 8 (length found.0.0) ∷ []) (flat_map token_fields found.0.0 ++ form_condition (is_rising found.0.0) ∷ []) text behind found.0.1 counted ends in
      subst (λ (w : List Token × Text). Begins (tokens_fields w.0) text w.1) (some_same passed.1) mine;
  read = λ ts text rest h.
      let a = begins_split (count_between 1 8 (length ts) ∷ []) (flat_map token_fields ts ++ form_condition (is_rising ts) ∷ []) text rest h in
      let b = begins_split (flat_map token_fields ts) (form_condition (is_rising ts) ∷ []) a.0 rest a.2 in
      let number = count_front 1 8 (length ts) text a.0 a.1 in
      let rises : is_rising ts ≡ true = (and_parts (is_rising ts) true b.2.form).0 in
      let end : b.0 ≡ rest = b.2.is in
      let all : many_at_front token_at_front (length ts) a.0 ≡ Some (ts, rest) = many_front token_reader ts a.0 b.0 b.1 ∙ (λ i. Some (ts, end i)) in
      let last : List Token × Text → Front (List Token) = λ found. elim (is_rising found.0) as (λ _. Front (List Token)) [ true ↦ Some found | false ↦ None ] in
      let read_all : ℕ × Text → Front (List Token) = λ count. (elim (few count.0) as (λ _. Front (List Token)) [ true ↦ many_at_front token_at_front count.0 count.1 | false ↦ None ]) >>= last in
      ap (λ o. o >>= read_all) number.1
      ∙ ap (λ t. (elim t as (λ _. Front (List Token)) [ true ↦ many_at_front token_at_front (length ts) a.0 | false ↦ None ]) >>= last) number.0
      ∙ ap (λ o. o >>= last) all
      ∙ ap (λ t. elim t as (λ _. Front (List Token)) [ true ↦ Some (ts, rest) | false ↦ None ]) rises;
}
