-- What a row of checks has passed where it ends well.
use Rattle.std.proofs.Common.{◌≡◌, Bool, true, false, refl, ap, subst, Option, Some, None, Ok, Err}
use Rattle.std.specs.Prelude.{⊤}
use Rattle.ibc_ids.specs.declared.refusal.Refusal.{Refusal}
use Rattle.ibc_machine.specs.chain.Checks.{Checked, require, expect, go_on, and_then, ◌>>=◌, ◌>>◌}

pub require_passed : {B : Type 0} (b : Bool) (r : Refusal) (rest : Checked B) {y : B} → (require b r >> rest) ≡ Ok y → (b ≡ true) × (rest ≡ Ok y)
unfolding and_then
require_passed true r rest e = (refl, e)
require_passed false r rest e = absurd (cc e)

-- the last check of a row
pub require_holds : (b : Bool) (r : Refusal) {y : ⊤} → require b r ≡ Ok y → b ≡ true
require_holds true r e = refl
require_holds false r e = absurd (cc e)

pub bind_passed : {A B : Type 0} (x : Checked A) (f : A → Checked B) {y : B} → (x >>= f) ≡ Ok y → (a : A) × (x ≡ Ok a) × (f a ≡ Ok y)
unfolding go_on
bind_passed (Ok a) f e = (a, refl, e)
bind_passed (Err r) f e = absurd (cc e)

pub then_passed : {B : Type 0} (x : Checked ⊤) (rest : Checked B) {y : B} → (x >> rest) ≡ Ok y → (x ≡ Ok tt) × (rest ≡ Ok y)
unfolding and_then
then_passed (Ok tt) rest e = (refl, e)
then_passed (Err r) rest e = absurd (cc e)

pub ok_same : {A : Type 0} {x y : A} → ◌≡◌ {A = Checked A} (Ok x) (Ok y) → x ≡ y
ok_same e = cc

pub expect_passed : {A : Type 0} (o : Option A) (r : Refusal) {a : A} → expect o r ≡ Ok a → o ≡ Some a
expect_passed (Some x) r e = ap Some (ok_same e)
expect_passed None r e = absurd (cc e)

-- ---- if it isn't refused, this holds of what it gives

pub record Gives {A : Type 0} (P : A → Type 0) (x : Checked A) : Type 0 where
  pub gives : (a : A) → x ≡ Ok a → P a

pub gives_ok : {A : Type 0} (P : A → Type 0) (a : A) → P a → Gives P (Ok a)
gives_ok P a h = record { gives = λ b e. subst P (ok_same e) h }

pub gives_err : {A : Type 0} (P : A → Type 0) (r : Refusal) → Gives P (Err r)
gives_err P r = record { gives = λ b e. absurd (cc) }

-- a check that was passed is known behind it
pub gives_then : {B : Type 0} {P : B → Type 0} (x : Checked ⊤) (rest : Checked B) → (x ≡ Ok tt → Gives P rest) → Gives P (x >> rest)
unfolding and_then
gives_then (Ok tt) rest h = h refl
gives_then {P = P} (Err r) rest h = gives_err P r

pub gives_require : {B : Type 0} {P : B → Type 0} (b : Bool) (r : Refusal) (rest : Checked B) → (b ≡ true → Gives P rest) → Gives P (require b r >> rest)
gives_require b r rest h = gives_then (require b r) rest λ e. h (require_holds b r e)

pub gives_bind : {A B : Type 0} {P : B → Type 0} (x : Checked A) (f : A → Checked B) → ((a : A) → x ≡ Ok a → Gives P (f a)) → Gives P (x >>= f)
unfolding go_on
gives_bind (Ok a) f g = g a refl
gives_bind {P = P} (Err r) f g = gives_err P r

pub gives_expect : {A B : Type 0} {P : B → Type 0} (o : Option A) (r : Refusal) (f : A → Checked B) → ((a : A) → o ≡ Some a → Gives P (f a)) → Gives P (expect o r >>= f)
gives_expect o r f g = gives_bind (expect o r) f λ a e. g a (expect_passed o r e)
