-- Checks in a row: where the first passes the rest decides, and where it fails its refusal is the answer.
use Rattle.std.proofs.Common.{◌≡◌, refl, ap, ◌∙◌, Option, Some, None, Ok, Err}
use Rattle.std.specs.Prelude.{⊤}
use Rattle.ibc_ids.specs.declared.refusal.Refusal.{Refusal}
use Rattle.ibc_machine.specs.chain.Checks.{Checked, expect, go_on, and_then, ◌>>=◌, ◌>>◌}

-- ---- checks that give nothing

after_passed : {B : Type 0} (x : Checked ⊤) (rest : Checked B) {t : ⊤} → x ≡ Ok t → (x >> rest) ≡ rest
unfolding and_then
after_passed (Ok t) rest e = refl
after_passed (Err r) rest e = absurd cc

after_failed : {B : Type 0} (x : Checked ⊤) (rest : Checked B) {r : Refusal} → x ≡ Err r → (x >> rest) ≡ Err r
unfolding and_then
after_failed (Ok t) rest e = absurd cc
after_failed (Err s) rest {r} e = let same : s ≡ r = cc in ap (λ s. Err s) same

-- an answer that begins with a check goes on where it passed, and ends where it failed
pub pass : {B : Type 0} {y : Checked B} {x : Checked ⊤} {rest : Checked B} {t : ⊤} → x ≡ Ok t → y ≡ (x >> rest) → y ≡ rest
pass {B} {y} {x} {rest} e is = is ∙ after_passed x rest e

pub fail : {B : Type 0} {y : Checked B} {x : Checked ⊤} {r : Refusal} (rest : Checked B) → x ≡ Err r → y ≡ (x >> rest) → y ≡ Err r
fail {B} {y} {x} rest e is = is ∙ after_failed x rest e

-- ---- checks that are one check

pub grouped : {B : Type 0} (x y : Checked ⊤) (rest : Checked B) → (x >> (y >> rest)) ≡ ((x >> y) >> rest)
unfolding and_then
grouped (Ok t) y rest = refl
grouped (Err r) y rest = refl

pub three_grouped : {B : Type 0} (x y z : Checked ⊤) (rest : Checked B) → (x >> (y >> (z >> rest))) ≡ ((x >> (y >> z)) >> rest)
three_grouped x y z rest = ap (λ row. x >> row) (grouped y z rest) ∙ grouped x (y >> z) rest

pub four_grouped : {B : Type 0} (w x y z : Checked ⊤) (rest : Checked B) → (w >> (x >> (y >> (z >> rest)))) ≡ ((w >> (x >> (y >> z))) >> rest)
four_grouped w x y z rest = ap (λ row. w >> row) (three_grouped x y z rest) ∙ grouped w (x >> (y >> z)) rest

pub five_grouped : {B : Type 0} (v w x y z : Checked ⊤) (rest : Checked B) → (v >> (w >> (x >> (y >> (z >> rest))))) ≡ ((v >> (w >> (x >> (y >> z)))) >> rest)
five_grouped v w x y z rest = ap (λ row. v >> row) (four_grouped w x y z rest) ∙ grouped v (w >> (x >> (y >> z))) rest

-- ---- checks that find something

after_found : {A B : Type 0} (x : Checked A) (rest : A → Checked B) {a : A} → x ≡ Ok a → (x >>= rest) ≡ rest a
unfolding go_on
after_found (Ok b) rest {a} e = let same : b ≡ a = cc in ap rest same
after_found (Err r) rest e = absurd cc

after_missing : {A B : Type 0} (x : Checked A) (rest : A → Checked B) {r : Refusal} → x ≡ Err r → (x >>= rest) ≡ Err r
unfolding go_on
after_missing (Ok b) rest e = absurd cc
after_missing (Err s) rest {r} e = let same : s ≡ r = cc in ap (λ s. Err s) same

pub find : {A B : Type 0} {y : Checked B} {x : Checked A} {a : A} (rest : A → Checked B) → x ≡ Ok a → y ≡ (x >>= rest) → y ≡ rest a
find {A} {B} {y} {x} rest e is = is ∙ after_found x rest e

pub miss : {A B : Type 0} {y : Checked B} {x : Checked A} {r : Refusal} (rest : A → Checked B) → x ≡ Err r → y ≡ (x >>= rest) → y ≡ Err r
miss {A} {B} {y} {x} rest e is = is ∙ after_missing x rest e

-- what was found is not used
pub unused : {A B : Type 0} (o : Option A) (refusal : Refusal) (rest : Checked B)
    → (expect o refusal >>= λ (a : A). rest) ≡ ((expect o refusal >>= λ (a : A). Ok tt) >> rest)
unfolding go_on and_then
unused (Some a) refusal rest = refl
unused None refusal rest = refl

-- ---- what goes on after a row goes on behind each of its checks

pub then_bind : {A B : Type 0} (x : Checked ⊤) (y : Checked A) (rest : A → Checked B) → ((x >> y) >>= rest) ≡ (x >> (y >>= rest))
unfolding go_on and_then
then_bind (Ok t) y rest = refl
then_bind (Err r) y rest = refl

pub bind_bind : {A B C : Type 0} (x : Checked A) (y : A → Checked B) (rest : B → Checked C) → ((x >>= y) >>= rest) ≡ (x >>= λ a. y a >>= rest)
unfolding go_on
bind_bind (Ok a) y rest = refl
bind_bind (Err r) y rest = refl
