-- Texts between quotes: a text without a quote stands whole between two of them.
use Rattle.std.proofs.Common.{◌≡◌, ℕ, ◌+◌, ◌*◌, ◌-◌, ◌<◌, ◌^◌, Bool, true, false, refl, ap, sym, ◌∙◌, subst, codes, List, [], ◌∷◌, ◌++◌, length, arith, not, ◌==◌, ◌&&◌, cond, append_assoc, append-nil, decimal, eqb-true, nat_lt, nat_le, ltb-true, ltb-false}
use Rattle.std.specs.List.{join_with_byte, list_all, fold, onto_first, slice_split}
use Rattle.std.specs.Char.{digit_value}
use Rattle.std.specs.Str.Parse.{digits_value_after, AllDigits}
use Rattle.std.proofs.lemmas.List.Splits.{join_with_byte-slice_split}
use Rattle.std.proofs.lemmas.Fmt.{decimal_is_IsNumeral_wide}
use Rattle.ibc_ids.specs.Texts.{Text}
use Rattle.ibc_ids.specs.Names.{is_port, is_channel, is_denom, are_hops_and_base, is_made_of}
use Rattle.ibc_machine.specs.ics20.TokenData.{quoted_text, member, object, is_amount, between_quotes, number_of}

pub both : (a b : Bool) → (a && b) ≡ true → (a ≡ true) × (b ≡ true)
both true b e = (refl, e)
both false b e = absurd (cc e)

pub and_true : {a b : Bool} → a ≡ true → b ≡ true → (a && b) ≡ true
and_true {a} {b} e f = rw e f

-- ---- texts without a quote

abbrev pub Clear : Text → Type 0
Clear text = list_all (λ c. not (c == 34)) text ≡ true

pub clear-append : (a b : Text) → Clear a → Clear b → Clear (a ++ b)
clear-append [] b ha hb = hb
clear-append (x ∷ xs) b ha hb = let parts = both (not (x == 34)) _ ha in and_true parts.0 (clear-append xs b parts.1 hb)

-- a byte that passes a test which a quote doesn't pass
pub not_quote : (test : ℕ → Bool) → test 34 ≡ false → (c : ℕ) → test c ≡ true → not (c == 34) ≡ true
not_quote test never c e = go (c == 34) refl
  where
    go : (b : Bool) → (c == 34) ≡ b → not b ≡ true
    go false is = refl
    go true is = absurd (cc (never, subst (λ k. test k ≡ true) (eqb-true c 34 is) e))

pub clear_of : (test : ℕ → Bool) → test 34 ≡ false → (text : Text) → list_all test text ≡ true → Clear text
clear_of test never [] e = refl
clear_of test never (c ∷ cs) e =
    let parts = both (test c) _ e in
    let head = not_quote test never c parts.0 in
    and_true head (clear_of test never cs parts.1)

pub clear_made : (test : ℕ → Bool) → test 34 ≡ false → (low high : ℕ) (text : Text) → is_made_of test low high text ≡ true → Clear text
clear_made test never low high text e = clear_of test never text (both _ (list_all test text) e).1

pub clear_join : (c : ℕ) → not (c == 34) ≡ true → (parts : List Text) → list_all (λ part. list_all (λ c. not (c == 34)) part) parts ≡ true → Clear (join_with_byte c parts)
clear_join c ok [] e = refl
clear_join c ok (x ∷ []) e = (both (list_all (λ c. not (c == 34)) x) _ e).0
clear_join c ok (x ∷ y ∷ xs) e =
    let parts = both (list_all (λ c. not (c == 34)) x) _ e in
    clear-append x (c ∷ join_with_byte c (y ∷ xs)) parts.0 (and_true ok (clear_join c ok (y ∷ xs) parts.1))

pub clear_hops : (parts : List Text) → are_hops_and_base parts ≡ true → list_all (λ part. list_all (λ c. not (c == 34)) part) parts ≡ true
clear_hops [] e = absurd (cc e)
clear_hops (base ∷ []) e = let h = clear_made _ refl 1 64 base e in and_true h refl
clear_hops (port ∷ channel ∷ rest) e =
    let one = both (is_port port && is_channel channel) _ e in
    let two = both (is_port port) _ one.0 in
    let a = clear_made _ refl 2 128 port two.0 in
    let b = clear_made _ refl 8 64 channel two.1 in
    and_true a (and_true b (clear_hops rest one.1))

pub clear_denom : (denom : Text) → is_denom denom ≡ true → Clear denom
clear_denom denom e =
    subst Clear (join_with_byte-slice_split 47 denom)
    (clear_join 47 refl (slice_split (λ c. c == 47) denom) (clear_hops (slice_split (λ c. c == 47) denom) (both (nat_le (length denom) 256) _ e).1))

-- ---- numbers

pub clear_digits : (ds : Text) → AllDigits 10 ds → Clear ds
clear_digits [] h = refl
clear_digits (c ∷ cs) h = let head = go (c == 34) refl h.0 in and_true head (clear_digits cs h.1)
  where
    go : (b : Bool) → (c == 34) ≡ b → digit_value c < 10 → not b ≡ true
    go false is low = refl
    go true is low = let z : 36 < 10 = subst (λ k. digit_value k < 10) (eqb-true c 34 is) low in absurd (omega arith)

pub digit_is : (c : ℕ) → digit_value c < 10 → digit_value c ≡ c - 48
digit_is c low = go (nat_lt c 48) (nat_lt c 58) (nat_lt c 65) refl (nat_lt c 91) (nat_lt c 97) refl (nat_lt c 123) low
  where
    go : (a b d : Bool) → nat_lt c 65 ≡ d → (e f : Bool) → nat_lt c 97 ≡ f → (g : Bool)
        → cond a 36 (cond b (c - 48) (cond d 36 (cond e (c - 55) (cond f 36 (cond g (c - 87) 36))))) < 10
        → cond a 36 (cond b (c - 48) (cond d 36 (cond e (c - 55) (cond f 36 (cond g (c - 87) 36))))) ≡ c - 48
    go true b d ds e f fs g low = absurd (omega arith)
    go false true d ds e f fs g low = refl
    go false false true ds e f fs g low = absurd (omega arith)
    go false false false ds true f fs g low = let high = ltb-false c 65 ds in absurd (omega arith)
    go false false false ds false true fs g low = absurd (omega arith)
    go false false false ds false false fs true low = let high = ltb-false c 97 fs in absurd (omega arith)
    go false false false ds false false fs false low = absurd (omega arith)

pub number_after : (n : ℕ) (ds : Text) → AllDigits 10 ds → fold (λ n c. 10 * n + (c - 48)) n ds ≡ digits_value_after 10 n ds
number_after n [] h = refl
number_after n (c ∷ cs) h =
    let step : 10 * n + (c - 48) ≡ n * 10 + digit_value c = (let d = digit_is c h.0 in omega arith) in
    ap (λ k. fold (λ n c. 10 * n + (c - 48)) k cs) step ∙ number_after (n * 10 + digit_value c) cs h.1

-- an amount is written in digits, which read back
pub amount_small : (n : ℕ) → is_amount n ≡ true → n < 10 ^ 64
amount_small n e =
    let low : n < 2 ^ 128 = ltb-true n (2 ^ 128) (both (nat_le 1 n) (nat_lt n (2 ^ 128)) e).1 in omega arith

pub clear_decimal : (n : ℕ) → is_amount n ≡ true → Clear (decimal n)
clear_decimal n e = clear_digits (decimal n) (decimal_is_IsNumeral_wide n (amount_small n e)).0.1

pub number_read : (n : ℕ) → is_amount n ≡ true → number_of (decimal n) ≡ n
number_read n e =
    let numeral = decimal_is_IsNumeral_wide n (amount_small n e) in
    number_after 0 (decimal n) numeral.0.1 ∙ numeral.1

-- ---- what stands between quotes

abbrev pub is_quote : ℕ → Bool
is_quote c = c == 34

abbrev pub between : Text → List Text
between text = between_quotes (slice_split is_quote text)

pub not_is : (b : Bool) → not b ≡ true → b ≡ false
not_is true e = absurd (cc e)
not_is false e = refl

pub cut : (xs ys : Text) → Clear xs → slice_split is_quote (xs ++ 34 ∷ ys) ≡ xs ∷ slice_split is_quote ys
cut [] ys h = refl
cut (x ∷ xs) ys h =
    let parts = both (not (x == 34)) _ h in
    ap (λ b. cond b ([] ∷ slice_split is_quote (xs ++ 34 ∷ ys)) (onto_first x (slice_split is_quote (xs ++ 34 ∷ ys)))) (not_is (x == 34) parts.0)
    ∙ ap (λ l. onto_first x l) (cut xs ys parts.1)

pub uncut : (xs : Text) → Clear xs → slice_split is_quote xs ≡ xs ∷ []
uncut [] h = refl
uncut (x ∷ xs) h =
    let parts = both (not (x == 34)) _ h in
    ap (λ b. cond b ([] ∷ slice_split is_quote xs) (onto_first x (slice_split is_quote xs))) (not_is (x == 34) parts.0)
    ∙ ap (λ l. onto_first x l) (uncut xs parts.1)

-- wherever the text stands outside of quotes, it has these parts between quotes, and ends outside of them
pub record Spells (text : Text) (parts : List Text) : Type 0 where
  spells : (front rest : Text) → Clear front
      → (behind : Text) × Clear behind × (between (front ++ (text ++ rest)) ≡ parts ++ between (behind ++ rest))

pub spells-clear : (text : Text) → Clear text → Spells text []
spells-clear text h = record {
  spells = λ front rest clear. (front ++ text, clear-append front text clear h, ap (λ t. between t) (sym (append_assoc front text rest)));
}

pub spells-quoted : (text : Text) → Clear text → Spells (quoted_text text) (text ∷ [])
spells-quoted text h = record {
  spells = λ front rest clear. (
    [],
    refl,
    ap (λ t. between (front ++ 34 ∷ t)) (append_assoc text (34 ∷ []) rest)
        ∙ ap (λ l. between_quotes l) (cut front (text ++ 34 ∷ rest) clear)
        ∙ ap (λ l. between_quotes (front ∷ l)) (cut text rest h),
  );
}

pub spells-both : (a b : Text) (ps qs : List Text) → Spells a ps → Spells b qs → Spells (a ++ b) (ps ++ qs)
spells-both a b ps qs ha hb = record {
  spells = λ front rest clear.
      let one = ha.spells front (b ++ rest) clear in
      let two = hb.spells one.0 rest one.1 in
      (two.0, two.1, ap (λ t. between (front ++ t)) (append_assoc a b rest) ∙ one.2 ∙ ap (λ l. ps ++ l) two.2 ∙ sym (append_assoc ps qs (between (two.0 ++ rest))));
}

-- a whole text
pub spelled : (text : Text) (parts : List Text) → Spells text parts → between text ≡ parts
spelled text parts h =
    let all = h.spells [] [] refl in
    let last : between (all.0 ++ []) ≡ [] = ap (λ t. between t) (append-nil all.0) ∙ ap (λ l. between_quotes l) (uncut all.0 all.1) in
    ap (λ t. between t) (sym (append-nil text)) ∙ all.2 ∙ ap (λ l. parts ++ l) last ∙ append-nil parts

pub spells-member : (name value : Text) → Clear name → Clear value → Spells (member name value) (name ∷ value ∷ [])
spells-member name value hn hv =
    spells-both (quoted_text name ++ codes ":") (quoted_text value) (name ∷ []) (value ∷ [])
    (spells-both (quoted_text name) (codes ":") (name ∷ []) [] (spells-quoted name hn) (spells-clear (codes ":") refl)) (spells-quoted value hv)

pub spells-next : (a b : Text) (rest ps qs : List Text) → Spells a ps → Spells (join_with_byte 44 (b ∷ rest)) qs
    → Spells (join_with_byte 44 (a ∷ b ∷ rest)) (ps ++ qs)
spells-next a b rest ps qs ha hb =
    spells-both a (44 ∷ join_with_byte 44 (b ∷ rest)) ps qs ha
    (spells-both (44 ∷ []) (join_with_byte 44 (b ∷ rest)) [] qs (spells-clear (44 ∷ []) refl) hb)

pub spells-object : (members : List Text) (parts : List Text) → Spells (join_with_byte 44 members) parts → Spells (object members) parts
spells-object members parts h =
    subst (Spells (object members)) (append-nil parts)
    (spells-both (codes "{" ++ join_with_byte 44 members) (codes "}") parts []
    (spells-both (codes "{") (join_with_byte 44 members) [] parts (spells-clear (codes "{") refl) h) (spells-clear (codes "}") refl))
