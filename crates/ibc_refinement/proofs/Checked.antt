-- When two rows of checks give the same.
use Rattle.std.proofs.Common.{◌≡◌, refl, ap, ◌∙◌, Ok, Err}
use Rattle.std.specs.Prelude.{⊤}
use Rattle.ibc_machine.specs.chain.Checks.{Checked, go_on, and_then, ◌>>=◌, ◌>>◌}

-- they agree where they are reached
pub then_same : {B : Type 0} (x x' : Checked ⊤) (rest rest' : Checked B) → x ≡ x' → (x' ≡ Ok tt → rest ≡ rest') → (x >> rest) ≡ (x' >> rest')
unfolding and_then
then_same x (Ok tt) rest rest' e same = ap (λ y. y >> rest) e ∙ same refl
then_same x (Err r) rest rest' e same = ap (λ y. y >> rest) e

pub bind_same : {A B : Type 0} (x : Checked A) (f g : A → Checked B) → ((a : A) → x ≡ Ok a → f a ≡ g a) → (x >>= f) ≡ (x >>= g)
unfolding go_on
bind_same (Ok a) f g same = same a refl
bind_same (Err r) f g same = refl

pub bind_front_same : {A B : Type 0} (x y : Checked A) (f : A → Checked B) → x ≡ y → (x >>= f) ≡ (y >>= f)
bind_front_same x y f e = ap (λ z. z >>= f) e
