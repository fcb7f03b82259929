-- What a look at an entry leaves of all that is noted, and what it tells.
use Rattle.std.specs.Prelude.{◌≡◌, ◌++◌, ◌∷◌, [], ℕ, Bool, Option, Result, IfOk}
use Rattle.std.specs.Option.{option_map_or}
use Rattle.ibc_ids.specs.Texts.{Text}
use Rattle.ibc_ids.specs.declared.refusal.Refusal.{Refusal}
use Rattle.ibc_wire.specs.declared.packet.Packet.{Packet}
use Rattle.ibc_wire.specs.declared.records.Order.{Order}
use Rattle.ibc_wire.specs.declared.records.Order.TheVariants.{Ordered}
use Rattle.ibc_wire.specs.declared.messages.Message.{Message}
use Rattle.ibc_machine.specs.declared.entry.Entry.{Entry}
use Rattle.ibc_machine.specs.declared.event.Event.{Event}
use Rattle.ibc_machine.specs.declared.reply.Effect.{Effect}
use Rattle.ibc_machine.specs.ics24.Values.{same_order}
use Rattle.ibc_refinement.specs.World.{WorldState}
use Rattle.ibc_law_checks.specs.declared.checks.LawChecks.{LawChecks}
use Rattle.ibc_law_checks.specs.declared.finding.Finding.{Finding}
use Rattle.ibc_law_checks.specs.declared.made.MadeEnd.{MadeEnd}
use Rattle.ibc_law_checks.specs.declared.movement.Movement.{Movement}
use Rattle.ibc_law_checks.specs.declared.movement.Passing.{Passing}
use Rattle.ibc_law_checks.specs.EndPlaces.{place_of_end}
use Rattle.ibc_law_checks.specs.Lanes.{new_lane}
use Rattle.ibc_law_checks.specs.MadeEnds.{end_names, made_lanes, made_names}
use Rattle.ibc_law_checks.specs.MovedLanes.{AreLanesAccepted, AreLanesAfter, AreMoved, ArePassedOrTold}
use Rattle.ibc_law_checks.specs.Movements.{acknowledged_at, acknowledged_on, moved_by, received_on, sent_over, sent_with}
use Rattle.ibc_law_checks.specs.ToldEntries.{AreTokensTold, IsToldOf, IsToldOfAccepted, IsToldOfBlock}
use Rattle.ibc_law_checks.specs.TouchedPlaces.{places_accepted, places_after, places_of_block, touched_between, touched_with, with_sent_tokens}

-- what a look finds, unless memory runs out
abbrev pub LookResult : Type 0
LookResult = Result (Option Finding) Refusal

-- ---- ends that entries made

-- the end that an entry of a chain made is noted
abbrev pub NotesMadeEnd : LawChecks → ℕ → Entry → LawChecks → Type 0
NotesMadeEnd old chain entry new = end_names new.ends.items ≡ end_names old.ends.items ++ made_names chain entry

-- the end that was made is noted
abbrev pub NotesEnd : LawChecks → ℕ → MadeEnd → LawChecks → Type 0
NotesEnd old chain made new = end_names new.ends.items ≡ end_names old.ends.items ++ (chain, made.port.now, made.channel.now) ∷ []

-- a lane of this order is noted, over which nothing has gone
abbrev pub NotesLane : LawChecks → Order → LawChecks → Type 0
NotesLane old order new = new.lanes.items ≡ old.lanes.items ++ new_lane (same_order order Ordered) ∷ []

-- ---- an entry, or an event that was accepted

-- the lanes behind an entry, with that of the end which it made
abbrev pub LookMovesLanes : WorldState → ℕ → Entry → LawChecks → LookResult → LawChecks → Type 0
LookMovesLanes world chain entry old result new = IfOk result (λ found.
    AreLanesAfter world new.ends.items old.clocks.items chain entry (old.lanes.items ++ made_lanes entry) found new.lanes.items)

-- the lanes behind an entry
abbrev pub EntryMovesLanes : WorldState → ℕ → Entry → LawChecks → LookResult → LawChecks → Type 0
EntryMovesLanes world chain entry old result new = IfOk result (λ found.
    AreLanesAfter world new.ends.items old.clocks.items chain entry old.lanes.items found new.lanes.items)

-- the places of tokens behind an entry
abbrev pub EntrySetsPlaces : WorldState → ℕ → Entry → LawChecks → LookResult → LawChecks → Type 0
EntrySetsPlaces world chain entry old result new = IfOk result (λ found.
    new.places.items ≡ places_after world new.ends.items old.clocks.items chain found entry old.places.items)

-- what is told of an entry that moves no packet
abbrev pub EntryIsTold : WorldState → Entry → LawChecks → LookResult → Type 0
EntryIsTold world entry old result =
    IfOk result (IsToldOf world old.places.items old.supplies.items entry.event entry.reply)

-- the lanes behind an accepted event
abbrev pub EventMovesLanes : WorldState → ℕ → Event → Effect → LawChecks → LookResult → LawChecks → Type 0
EventMovesLanes world chain happening given old result new = IfOk result (λ found.
    AreLanesAccepted world new.ends.items old.clocks.items chain happening given old.lanes.items found new.lanes.items)

-- the places of tokens behind an accepted event
abbrev pub EventSetsPlaces : WorldState → ℕ → Event → Effect → LawChecks → LookResult → LawChecks → Type 0
EventSetsPlaces world chain happening given old result new = IfOk result (λ found.
    new.places.items ≡ places_accepted world new.ends.items old.clocks.items chain found happening given old.places.items)

-- what is told of an accepted event that moves no packet
abbrev pub EventIsTold : WorldState → Event → Effect → LawChecks → LookResult → Type 0
EventIsTold world happening given old result =
    IfOk result (IsToldOfAccepted world old.places.items old.supplies.items happening given)

-- ---- a block that was ended

-- the places of tokens behind a block
abbrev pub BlockSetsPlaces : Effect → LawChecks → LookResult → LawChecks → Type 0
BlockSetsPlaces given old result new =
    IfOk result (λ found. new.places.items ≡ places_of_block found given old.places.items)

-- what is told of a block
abbrev pub BlockIsTold : WorldState → Effect → LawChecks → LookResult → Type 0
BlockIsTold world given old result = IfOk result (IsToldOfBlock world old.places.items old.supplies.items given)

-- what is told of the places that were touched, or of all
abbrev pub TokensAreTold : WorldState → Bool → LawChecks → LookResult → Type 0
TokensAreTold world all old result = IfOk result (AreTokensTold world all old.places.items old.supplies.items)

-- ---- a message that was accepted

-- the lanes behind an accepted message
abbrev pub MessageMovesLanes : WorldState → ℕ → Message → Effect → LawChecks → LookResult → LawChecks → Type 0
MessageMovesLanes world chain m given old result new = IfOk result (λ found.
    AreMoved (moved_by world new.ends.items old.clocks.items chain m given) old.lanes.items found new.lanes.items)

-- the places of tokens behind an accepted message
abbrev pub MessageSetsPlaces : WorldState → ℕ → Message → Effect → LawChecks → LookResult → LawChecks → Type 0
MessageSetsPlaces world chain m given old result new = IfOk result (λ found.
    new.places.items ≡ touched_with world new.ends.items (moved_by world new.ends.items old.clocks.items chain m given)
    (with_sent_tokens chain m old.places.items))

-- the lane at a place has the packet more, or a law is told that would break
abbrev pub PassesOrTells : Passing → Packet → ℕ → LawChecks → LookResult → LawChecks → Type 0
PassesOrTells how p place old result new =
    IfOk result (λ found. ArePassedOrTold how p place old.lanes.items found new.lanes.items)

-- ---- places that are touched

-- the places where a movement moves something are touched
abbrev pub TouchesBy : WorldState → Movement → LawChecks → LawChecks → Type 0
TouchesBy world movement old new = new.places.items ≡ touched_with world old.ends.items movement old.places.items

-- the places of an end and of its peer are touched
abbrev pub TouchesEnd : WorldState → ℕ → LawChecks → LawChecks → Type 0
TouchesEnd world own old new = new.places.items ≡ touched_between world old.ends.items own old.places.items

-- the same where there is an end
abbrev pub TouchesIfAny : WorldState → Option ℕ → LawChecks → LawChecks → Type 0
TouchesIfAny world end old new =
    new.places.items ≡ option_map_or (λ own. touched_between world old.ends.items own old.places.items) end old.places.items

-- ---- movements of packets, unless memory runs out

-- what an accepted message moves
abbrev pub GivesMovement : WorldState → LawChecks → ℕ → Message → Effect → Result Movement Refusal → Type 0
GivesMovement world checks chain m given result =
    IfOk result (λ moved. moved ≡ moved_by world checks.ends.items checks.clocks.items chain m given)

-- the packet that is sent with this effect
abbrev pub GivesSent : WorldState → LawChecks → ℕ → Text → Text → Effect → Result Movement Refusal → Type 0
GivesSent world checks chain port channel given result =
    IfOk result (λ moved. moved ≡ sent_with world checks.ends.items chain port channel given)

-- the packet that is sent under a sequence
abbrev pub GivesSentOver : WorldState → LawChecks → ℕ → Text → Text → ℕ → Result Movement Refusal → Type 0
GivesSentOver world checks chain port channel n result =
    IfOk result (λ moved. moved ≡ sent_over world checks.ends.items chain port channel n)

-- the packet that is received
abbrev pub GivesReceived : WorldState → LawChecks → ℕ → Packet → Result Movement Refusal → Type 0
GivesReceived world checks chain p result =
    IfOk result (λ moved. moved ≡ received_on world checks.ends.items checks.clocks.items chain p)

-- the packet that is acknowledged on a chain
abbrev pub GivesAcknowledged : WorldState → LawChecks → ℕ → Packet → Text → Result Movement Refusal → Type 0
GivesAcknowledged world checks chain p ack result =
    IfOk result (λ moved. moved ≡ acknowledged_on world checks.ends.items chain p ack)

-- the packet that is acknowledged at an end
abbrev pub GivesAcknowledgedAt : WorldState → LawChecks → Packet → Text → ℕ → Result Movement Refusal → Type 0
GivesAcknowledgedAt world checks p ack lane result =
    IfOk result (λ moved. moved ≡ acknowledged_at world checks.ends.items p ack lane)

-- the place of the end that sent a packet, where it is noted
abbrev pub place_of_source : LawChecks → ℕ → Packet → Option ℕ
place_of_source checks chain p = place_of_end checks.ends.items chain p.source_port p.source_channel
