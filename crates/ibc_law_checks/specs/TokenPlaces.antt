-- Whether escrows hold just what is out (ICS 20, "Correctness").
use Rattle.std.specs.Prelude.{◌≡◌, ℕ, ◌==◌, ◌+◌, ◌||◌, Bool, true, false, not, List, All, MatchOption, Option, Ok, Err, slice_get, take, IsTrue, IsSomeAnd}
use Rattle.ibc_ids.specs.Texts.{Text}
use Rattle.ibc_ids.specs.declared.refusal.Refusal.{Refusal}
use Rattle.ibc_ids.specs.declared.refusal.Refusal.TheVariants.{TooLarge}
use Rattle.ibc_machine.specs.chain.Checks.{Checked}
use Rattle.ibc_machine.specs.ledger.Ledgers.{machine_of}
use Rattle.ibc_machine.specs.promises.Totals.{Totals, totals}
use Rattle.ibc_refinement.specs.World.{WorldState}
use Rattle.ibc_law_checks.specs.declared.token_places.TokenPlace.{TokenPlace}

-- a sum that is too large is more than any escrow holds
abbrev pub is_too_large : Refusal → Bool
is_too_large TooLarge = true
is_too_large _ = false

-- the escrow is the sum of what is out, or the channel has no totals of the denomination
abbrev pub is_even : Checked Totals → Bool
is_even (Ok t) = t.escrow == t.vouchers + t.out + t.back
is_even (Err refusal) = not (is_too_large refusal)

abbrev pub is_balanced : WorldState → ℕ → Text → Text → Bool
is_balanced world chain channel denom = is_even (totals (machine_of world.ledgers) chain channel denom)

-- of the places where something moved, or of all
abbrev pub is_balanced_at : WorldState → Bool → TokenPlace → Bool
is_balanced_at world all place =
    not (all || place.touched) || is_balanced world place.chain place.channel place.denom

-- it is the first such place that isn't balanced; where there is none, each is
abbrev pub IsFirstUneven : WorldState → Bool → List TokenPlace → Option ℕ → Type 0
IsFirstUneven world all places found =
    MatchOption found (All (λ place. IsTrue (is_balanced_at world all place)) places)
    (λ index. All (λ place. IsTrue (is_balanced_at world all place)) (take index places)
    × IsSomeAnd (slice_get places index) (λ place. is_balanced_at world all place ≡ false))
