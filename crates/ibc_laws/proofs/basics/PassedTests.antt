-- What tests say where they are passed.
use Rattle.std.proofs.Common.{◌≡◌, ℕ, Bool, true, false, refl, ◌⊎◌, inl, inr, ◌&&◌, ◌||◌, not, ◌==◌, arith}

pub both : (a b : Bool) → (a && b) ≡ true → (a ≡ true) × (b ≡ true)
both true b e = (refl, e)
both false b e = absurd (cc e)

pub either : (a b : Bool) → (a || b) ≡ true → (a ≡ true) ⊎ (b ≡ true)
either true b e = inl refl
either false b e = inr e

pub or_left : (a b : Bool) → a ≡ true → (a || b) ≡ true
or_left true b e = refl
or_left false b e = absurd (cc e)

pub or_right : (a b : Bool) → b ≡ true → (a || b) ≡ true
or_right true b e = refl
or_right false b e = e

pub or_false : (a b : Bool) → (a || b) ≡ false → (a ≡ false) × (b ≡ false)
or_false true b e = absurd (cc e)
or_false false b e = (refl, e)

pub and_true : {a b : Bool} → a ≡ true → b ≡ true → (a && b) ≡ true
and_true {a} {b} e f = rw e f

-- what follows a condition that holds
pub implied : (a b : Bool) → a ≡ true → (not a || b) ≡ true → b ≡ true
implied true b is passed = passed
implied false b is passed = absurd (cc is)

pub no_longer : (a : Bool) → not a ≡ true → a ≡ false
no_longer true e = absurd (cc e)
no_longer false e = refl

pub number-self : (n : ℕ) → (n == n) ≡ true
number-self n = grind arith
