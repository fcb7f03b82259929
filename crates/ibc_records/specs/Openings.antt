-- An application that checks the order of a new channel and then its version refuses for these alone.
use Rattle.std.specs.Prelude.{◌≡◌, ◌⊎◌, Bool, true, false, Ok, ⊤, IfErr, refl}
use Rattle.std.proofs.Common.{inl, inr}
use Rattle.ibc_ids.specs.declared.refusal.Refusal.TheVariants.{WrongOrder, WrongVersion}
use Rattle.ibc_machine.specs.chain.Checks.{Checked, require, and_then}

abbrev pub order_then_version : Bool → Bool → Checked ⊤
order_then_version order version = and_then (require order WrongOrder) (and_then (require version WrongVersion) (Ok tt))

pub order_or_version : (order version : Bool) → IfErr (order_then_version order version) (λ refusal. (refusal ≡ WrongOrder) ⊎ (refusal ≡ WrongVersion))
unfolding and_then
order_or_version true true = tt
order_or_version true false = inr refl
order_or_version false version = inl refl
