-- A varint, one byte at a time.
use Rattle.std.proofs.Common.{◌≡◌, ℕ, zero, suc, ◌+◌, ◌*◌, ◌/◌, ◌%◌, ◌^◌, ◌<◌, ◌≤◌, Bool, true, false, nat_lt, [], ◌∷◌, sym, ap, ◌∙◌, arith, lt-ltb, le-ltb, pow-suc}
use Rattle.ibc_ids.specs.Texts.{Text}
use Rattle.ibc_merkle.specs.Hash.{leb128, varint}

abbrev choice : ℕ → Text → Bool → Text
choice n rest small = elim small [ true ↦ n ∷ [] | false ↦ (128 + n % 128) ∷ rest ]

-- one more byte changes nothing where the number fits before
leb128-more : (more n : ℕ) → n < 128 ^ suc more → leb128 (suc more) n ≡ leb128 more n
leb128-more zero n fits = ap (choice n (leb128 zero (n / 128))) (lt-ltb n 128 fits)
leb128-more (suc more) n fits =
    let rest : n / 128 < 128 ^ suc more = let h : n < 128 ^ suc more * 128 = rw pow-suc at fits in omega arith in
    ap (λ rest. choice n rest (nat_lt n 128)) (leb128-more more (n / 128) rest)

pub varint-last : (n : ℕ) → n < 128 → varint n ≡ n ∷ []
varint-last n small = ap (choice n (leb128 8 (n / 128))) (lt-ltb n 128 small)

pub varint-more : (n : ℕ) → 128 ≤ n → n < 2 ^ 64 → varint n ≡ (128 + n % 128) ∷ varint (n / 128)
varint-more n large fits =
    ap (choice n (leb128 8 (n / 128))) (le-ltb n 128 large)
    ∙ ap (λ rest. (128 + n % 128) ∷ rest) (sym (leb128-more 8 (n / 128) (omega arith)))
