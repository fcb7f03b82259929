-- Where a row's words stand: apart from one another and from the published words, and inside the table.
use Rattle.std.proofs.Common.{◌≡◌, ◌≢◌, ℕ, suc, ◌+◌, ◌*◌, ◌%◌, ◌<◌, ◌≤◌, arith, suc-mul, mul-le-mul_right, lt_of_not-le}
use mathlib.Core.Logic.{dite}
use native.Mathlib.Decide.{dec_le, ℕ_discrete}
use Rattle.ibc_root_table.specs.declared.shape.Shape.{Shape}
use Rattle.ibc_root_table.specs.Layout.{place, table_size}

-- a later chain's rows stand after an earlier one's
pub later_chain : (c d cap : ℕ) → c < d → c * cap + cap ≤ d * cap
later_chain c d cap l = let a : suc c * cap ≤ d * cap = mul-le-mul_right cap l in omega (arith, suc-mul c cap)

pub place_above : (key : Shape) (c k part : ℕ) → 2 * key.chains ≤ place key c k part
unfolding place
place_above key c k part = omega arith

pub place_inside : (key : Shape) (c k part : ℕ) → c < key.chains → 0 < key.window → part < 5 → place key c k part < table_size key
unfolding place
place_inside key c k part lc lw lp =
    let a : c * key.window + key.window ≤ key.chains * key.window = later_chain c key.chains key.window lc in
    let x : ℕ = c * key.window in let y : ℕ = key.chains * key.window in let a' : x + key.window ≤ y = a in
    let slot : ℕ = k % key.window in let l : slot < key.window = omega arith in
    let w : 2 * key.chains + (x + slot) * 5 + part < 2 * key.chains + y * 5 = omega arith in w

-- words of different slots, or different parts of one, are different words
pub place_apart : (key : Shape) (c k part d m other : ℕ) → 0 < key.window → part < 5 → other < 5
    → place key c k part ≡ place key d m other → (c ≡ d) × (k % key.window ≡ m % key.window) × (part ≡ other)
unfolding place
place_apart key c k part d m other lw lp lo e =
    let n : ℕ = key.window in let x : ℕ = c * n in let y : ℕ = d * n in
    let i : ℕ = k % n in let j : ℕ = m % n in let li : i < n = omega arith in let lj : j < n = omega arith in
    let e' : 2 * key.chains + (x + i) * 5 + part ≡ 2 * key.chains + (y + j) * 5 + other = e in
    let same : x + i ≡ y + j = omega arith in
    let parts : part ≡ other = omega arith in
    dite (ℕ_discrete c d)
    (λ (h : c ≡ d). let xy : x ≡ y = (λ t. h t * n) in let ij : i ≡ j = omega arith in (h, ij, parts))
    (λ (h : c ≢ d). dite (dec_le d c)
    (λ (le : d ≤ c). let a : y + n ≤ x = later_chain d c n (omega arith) in absurd (omega arith))
    (λ not. let l : c < d = lt_of_not-le not in let a : x + n ≤ y = later_chain c d n l in absurd (omega arith)))
