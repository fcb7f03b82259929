-- Several paths of a store.
use Rattle.std.specs.Prelude.{◌≡◌, ℕ, [], ◌∷◌, Option, Some, None, String, string_bytes, option_map}
use Rattle.ibc_ids.specs.Texts.{Text, text_cmp}
use Rattle.ibc_ids.specs.Maps.{with, without}
use Rattle.ibc_ids.specs.Paths.{path}
use Rattle.ibc_ids.specs.declared.key.Key.TheVariants as key
use Rattle.ibc_merkle.specs.Tree.{Pairs}
use Rattle.ibc_wire.specs.declared.records.ChannelEnd.{ChannelEnd}
use Rattle.ibc_machine.specs.chain.Records.{Channel}
use Rattle.ibc_machine.specs.ics24.Values.{ChannelIs, NumberIs, value_bytes}
use Rattle.ibc_machine.specs.ics04.Parts.{entry_of, part_after_receive, part_after_ack, part_after_timeout}
use Rattle.ibc_path_store.specs.StoreModel.{StoreModel}

-- with these values at these paths, one after another
abbrev pub with_all : Pairs → Pairs → Pairs
with_all [] pairs = pairs
with_all (entry ∷ entries) pairs = with_all entries (with text_cmp entry.0 entry.1 pairs)

-- with this value at this path, if there is one
abbrev pub with_entry : Option (Text × Text) → Pairs → Pairs
with_entry None pairs = pairs
with_entry (Some entry) pairs = with text_cmp entry.0 entry.1 pairs

-- the paths of a new channel with what stands there, its end and three counters at 1, and the number of the next one
abbrev pub new_entries : Text → Text → ChannelEnd → ℕ → Pairs
new_entries port id end next =
    (path (key.ChannelEnd port id), value_bytes (ChannelIs end)) ∷ (path (key.NextSequenceSend port id), value_bytes (NumberIs 1))
    ∷ (path (key.NextSequenceRecv port id), value_bytes (NumberIs 1)) ∷ (path (key.NextSequenceAck port id), value_bytes (NumberIs 1))
    ∷ (path key.NextChannelSequence, value_bytes (NumberIs next)) ∷ []

-- ---- what a change leaves of a store, whose other fields stay but for room

-- it has these values at these paths
abbrev pub SetsPaths : StoreModel → Pairs → StoreModel → Type 0
SetsPaths old entries new = new ≡ record old { pairs = with_all entries old.pairs; room = new.room }

-- it has nothing at the path of a commitment, and the other value at its path, if there is one
abbrev pub SettlesPath : {Z : Type 0} → StoreModel → Text → Option (String Z × Text) → StoreModel → Type 0
SettlesPath old place other new =
    new ≡ record old { pairs = with_entry (option_map (λ entry. (string_bytes entry.0, entry.1)) other) (without text_cmp place old.pairs); room = new.room }

-- ---- what stands at the paths of the end of a port and a name (ICS 24, "Path-space")

-- the end itself
abbrev pub end_path_of : Text × Text → Text
end_path_of name = path (key.ChannelEnd name.0 name.1)

-- what was committed of the packet of a sequence
abbrev pub commitment_path : Text × Text → ℕ → Text
commitment_path name n = path (key.Commitment name.0 name.1 n)

-- the acknowledgement of the packet of a sequence
abbrev pub ack_path : Text × Text → ℕ → Text
ack_path name n = path (key.Acknowledgement name.0 name.1 n)

-- the sequence of the packet that is sent next
abbrev pub next_send_path : Text × Text → Text
next_send_path name = path (key.NextSequenceSend name.0 name.1)

-- the counter of an ordered end that receives the packet of a sequence, or its receipt, with the path
abbrev pub IsReceivedEntry : {Z : Type 0} → Text → Text → ℕ → Channel → String Z × Text → Type 0
IsReceivedEntry port id n mine entry = (string_bytes entry.0, entry.1) ≡ entry_of port id (part_after_receive n mine)

-- the counter of an ordered end whose packet is acknowledged, with the path
abbrev pub IsAckedEntry : {Z : Type 0} → Text → Text → Channel → Option (String Z × Text) → Type 0
IsAckedEntry port id mine found = option_map (λ entry. (string_bytes entry.0, entry.1)) found ≡ option_map (entry_of port id) (part_after_ack mine)

-- an ordered end whose packet is timed out, and which is closed, with the path
abbrev pub IsClosedEntry : {Z : Type 0} → Text → Text → Channel → Option (String Z × Text) → Type 0
IsClosedEntry port id mine found = option_map (λ entry. (string_bytes entry.0, entry.1)) found ≡ option_map (entry_of port id) (part_after_timeout mine)
