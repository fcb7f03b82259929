-- Where tokens may have moved since all was looked at.
use Rattle.std.specs.Prelude.{ℕ, Bool, true, false, ◌==◌, ◌&&◌, List, [], ◌∷◌, ◌++◌, map, fold, Option, slice_get, bytes_eq, if◌then◌else◌}
use Rattle.std.specs.List.{list_any}
use Rattle.std.specs.Option.{option_map_or}
use Rattle.ibc_ids.specs.Texts.{Text}
use Rattle.ibc_wire.specs.declared.token.Token.{Token}
use Rattle.ibc_wire.specs.declared.messages.Message.{Message}
use Rattle.ibc_wire.specs.declared.messages.Message.TheVariants as message
use Rattle.ibc_machine.specs.declared.entry.Entry.{Entry}
use Rattle.ibc_machine.specs.declared.event.Event.{Event}
use Rattle.ibc_machine.specs.declared.event.Event.TheVariants as event
use Rattle.ibc_machine.specs.declared.reply.Effect.{Effect}
use Rattle.ibc_machine.specs.declared.reply.Effect.TheVariants as effect
use Rattle.ibc_machine.specs.declared.reply.Reply.{Reply}
use Rattle.ibc_machine.specs.declared.reply.Reply.TheVariants as reply
use Rattle.ibc_refinement.specs.World.{WorldState}
use Rattle.ibc_law_checks.specs.declared.ends.ChainClock.{ChainClock}
use Rattle.ibc_law_checks.specs.declared.ends.EndNotes.{EndNotes}
use Rattle.ibc_law_checks.specs.declared.finding.Finding.{Finding}
use Rattle.ibc_law_checks.specs.declared.movement.Movement.{Movement}
use Rattle.ibc_law_checks.specs.declared.movement.Movement.TheVariants as movement
use Rattle.ibc_law_checks.specs.declared.token_places.TokenPlace.{TokenPlace}
use Rattle.ibc_law_checks.specs.Movements.{moved_by}
use Rattle.ibc_law_checks.specs.Peers.{peer_of}

-- ---- something moved at an end

abbrev pub is_place_of : EndNotes → TokenPlace → Bool
is_place_of end place = (place.chain == end.chain) && bytes_eq place.channel end.channel

abbrev pub touched_by : EndNotes → TokenPlace → TokenPlace
touched_by end place = if is_place_of end place then record place { touched = true } else place

abbrev pub touched_at : List EndNotes → ℕ → List TokenPlace → List TokenPlace
touched_at ends at places = option_map_or (λ (end : EndNotes). map (touched_by end) places) (slice_get ends at) places

-- at an end, and at its peer where it has one
abbrev pub touched_between : WorldState → List EndNotes → ℕ → List TokenPlace → List TokenPlace
touched_between world ends own places =
    option_map_or (λ peer. touched_at ends peer (touched_at ends own places)) (peer_of world ends own)
    (touched_at ends own places)

-- where a movement moves something
abbrev pub touched_with : WorldState → List EndNotes → Movement → List TokenPlace → List TokenPlace
touched_with world ends movement.Nothing places = places
touched_with world ends (movement.Breaks law end) places =
    option_map_or (λ own. touched_between world ends own places) end places
touched_with world ends (movement.Passes lane how p) places = touched_between world ends lane places

-- ---- tokens go out

abbrev pub is_place : ℕ → Text → Text → TokenPlace → Bool
is_place chain channel denom place =
    (place.chain == chain) && (bytes_eq place.channel channel && bytes_eq place.denom denom)

abbrev pub new_place : ℕ → Text → Text → TokenPlace
new_place chain channel denom = record { chain = chain; channel = channel; denom = denom; touched = true }

abbrev pub with_place : ℕ → Text → List TokenPlace → Text → List TokenPlace
with_place chain channel places denom =
    if list_any (is_place chain channel denom) places then places
    else places ++ new_place chain channel denom ∷ []

abbrev pub with_places : ℕ → Text → List Token → List TokenPlace → List TokenPlace
with_places chain channel tokens places =
    fold (λ (so_far : List TokenPlace) (token : Token). with_place chain channel so_far token.denom) places tokens

-- the places with those of the tokens that an accepted message sends
abbrev pub with_sent_tokens : ℕ → Message → List TokenPlace → List TokenPlace
with_sent_tokens chain (message.Transfer m) places = with_place chain m.channel places m.denom
with_sent_tokens chain (message.TransferMany m) places = with_places chain m.channel m.tokens places
with_sent_tokens chain _ places = places

-- ---- an entry of a chain

-- nothing has moved since all was looked at
abbrev pub left_alone : TokenPlace → TokenPlace
left_alone place = record place { touched = false }

abbrev pub settled_places : Option Finding → List TokenPlace → List TokenPlace
settled_places found places = option_map_or (λ (f : Finding). places) found (map left_alone places)

-- behind an accepted block
abbrev pub places_of_block : Option Finding → Effect → List TokenPlace → List TokenPlace
places_of_block found (effect.Block height root) places = settled_places found places
places_of_block found _ places = places

-- behind an accepted event
abbrev pub places_accepted : WorldState → List EndNotes → List ChainClock → ℕ → Option Finding → Event → Effect → List TokenPlace → List TokenPlace
places_accepted world ends clocks chain found (event.Block k time) given places = places_of_block found given places
places_accepted world ends clocks chain found (event.Message k m) given places =
    touched_with world ends (moved_by world ends clocks chain m given) (with_sent_tokens chain m places)

abbrev pub places_with : WorldState → List EndNotes → List ChainClock → ℕ → Option Finding → Event → Reply → List TokenPlace → List TokenPlace
places_with world ends clocks chain found happening (reply.Ok given) places =
    places_accepted world ends clocks chain found happening given places
places_with world ends clocks chain found happening (reply.No refusal) places = places

-- the places behind an entry of which this was found
abbrev pub places_after : WorldState → List EndNotes → List ChainClock → ℕ → Option Finding → Entry → List TokenPlace → List TokenPlace
places_after world ends clocks chain found entry places =
    places_with world ends clocks chain found entry.event entry.reply places
