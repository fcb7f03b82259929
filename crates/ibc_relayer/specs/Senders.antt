-- The channels from which packets are on the way, and the ends at which nothing can be due.
use Rattle.std.specs.Prelude.{◌≡◌, ◌&&◌, ◌||◌, Bool, true, false, cond, not, List, [], ◌∷◌, map}
use Rattle.std.specs.Borrow.{Bor}
use Rattle.std.specs.List.{list_any}
use Rattle.ibc_ids.specs.Texts.{Text}
use Rattle.ibc_wire.specs.declared.records.ChannelState.TheVariants.{Open, Closed}
use Rattle.ibc_machine.specs.chain.Records.{Channel}
use Rattle.ibc_machine.specs.ics04.Channels.{is_in_state}
use Rattle.ibc_machine.specs.ics04.Packets.{has_peer}
use Rattle.ibc_relayer.specs.EndPackets.{EndName}

abbrev pub has_entries : {X : Type 0} → List X → Bool
has_entries [] = false
has_entries (x ∷ xs) = true

-- the channels at which packets stand
abbrev pub senders_of : List ((Text × Text) × Channel) → List Channel
senders_of [] = []
senders_of (e ∷ es) = cond (has_entries e.1.commitments) (e.1 ∷ senders_of es) (senders_of es)

abbrev pub shown : Bor Channel → Channel
shown reference = reference.now

-- these are the channels at which packets stand
abbrev pub AreSenders : List ((Text × Text) × Channel) → List (Bor Channel) → Type 0
AreSenders channels senders = map shown senders ≡ senders_of channels

-- one of the channels names the end as its peer
abbrev pub is_named : EndName → List (Bor Channel) → Bool
is_named end senders = list_any (λ theirs. has_peer (shown theirs) end.0 end.1) senders

-- no packet stands at the end, and none of the channels names it
abbrev pub is_silent : List (Bor Channel) → EndName → Channel → Bool
is_silent senders end mine = not (has_entries mine.commitments) && not (is_named end senders)

-- the end is OPEN or CLOSED
abbrev pub is_open_or_closed : Channel → Bool
is_open_or_closed mine = is_in_state Open mine || is_in_state Closed mine
