-- What is told of entries that move no packet.
use Rattle.std.specs.Prelude.{◌≡◌, ◌&&◌, Bool, true, false, List, All, IsSomeAnd, IsTrue, MatchOption, Option, None, ⊤}
use Rattle.std.specs.List.{list_all}
use Rattle.ibc_ids.specs.declared.refusal.Refusal.{Refusal}
use Rattle.ibc_ids.specs.declared.refusal.Refusal.TheVariants.{Poor}
use Rattle.ibc_machine.specs.declared.event.Event.{Event}
use Rattle.ibc_machine.specs.declared.event.Event.TheVariants as event
use Rattle.ibc_machine.specs.declared.reply.Effect.{Effect}
use Rattle.ibc_machine.specs.declared.reply.Effect.TheVariants as effect
use Rattle.ibc_machine.specs.declared.reply.Reply.{Reply}
use Rattle.ibc_machine.specs.declared.reply.Reply.TheVariants as reply
use Rattle.ibc_machine.specs.promises.Laws.{settles}
use Rattle.ibc_refinement.specs.World.{WorldState}
use Rattle.ibc_law_checks.specs.declared.finding.BrokenLaw.{BrokenLaw}
use Rattle.ibc_law_checks.specs.declared.finding.BrokenLaw.TheVariants as broken
use Rattle.ibc_law_checks.specs.declared.finding.Finding.{Finding}
use Rattle.ibc_law_checks.specs.declared.supplies.HomeSupply.{HomeSupply}
use Rattle.ibc_law_checks.specs.declared.token_places.TokenPlace.{TokenPlace}
use Rattle.ibc_law_checks.specs.Supplies.{is_kept}
use Rattle.ibc_law_checks.specs.TokenPlaces.{is_balanced_at}

-- a place isn't balanced, or a supply has changed
abbrev pub IsTokenFinding : (TokenPlace → Bool) → (HomeSupply → Bool) → List TokenPlace → List HomeSupply → BrokenLaw → Type 0
IsTokenFinding is_even is_same places supplies broken.Conserved = list_all is_even places ≡ false
IsTokenFinding is_even is_same places supplies broken.SupplyStays = list_all is_same supplies ≡ false
IsTokenFinding is_even is_same places supplies _ = ⊥

-- where nothing is told, the places that were touched are balanced, or all places, and the supplies stay
abbrev pub AreTokensTold : WorldState → Bool → List TokenPlace → List HomeSupply → Option Finding → Type 0
AreTokensTold world all places supplies found =
    MatchOption found
    (All (λ (place : TokenPlace). IsTrue (is_balanced_at world all place)) places
    × All (λ (home : HomeSupply). IsTrue (is_kept world home)) supplies)
    (λ (f : Finding). IsTokenFinding (is_balanced_at world all) (is_kept world) places supplies f.law)

-- the places that were touched are looked at when a block has ended
abbrev pub IsToldOfBlock : WorldState → List TokenPlace → List HomeSupply → Effect → Option Finding → Type 0
IsToldOfBlock world places supplies (effect.Block height root) found = AreTokensTold world false places supplies found
IsToldOfBlock world places supplies _ found = found ≡ None

-- what is told of a message that was accepted, its movement says
abbrev pub IsToldOfAccepted : WorldState → List TokenPlace → List HomeSupply → Event → Effect → Option Finding → Type 0
IsToldOfAccepted world places supplies (event.Block k time) given found = IsToldOfBlock world places supplies given found
IsToldOfAccepted world places supplies (event.Message k m) given found = ⊤

abbrev pub is_poor : Refusal → Bool
is_poor Poor = true
is_poor _ = false

-- a refund is refused since the escrow holds too little: that is told, and nothing of another refusal
abbrev pub IsToldOfRefusal : Event → Refusal → Option Finding → Type 0
IsToldOfRefusal happening refusal found =
    ((is_poor refusal && settles happening) ≡ true → IsSomeAnd found (λ (f : Finding). f.law ≡ broken.NeverPoor))
    × ((is_poor refusal && settles happening) ≡ false → found ≡ None)

abbrev pub IsToldOf : WorldState → List TokenPlace → List HomeSupply → Event → Reply → Option Finding → Type 0
IsToldOf world places supplies happening (reply.Ok given) found = IsToldOfAccepted world places supplies happening given found
IsToldOf world places supplies happening (reply.No refusal) found = IsToldOfRefusal happening refusal found
