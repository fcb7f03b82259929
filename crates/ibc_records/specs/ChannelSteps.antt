-- What the steps of packets leave of the channel ends (ICS 4, "Packet flow & handling").
use Rattle.std.specs.Prelude.{◌≡◌, ℕ, Result, IfOk, IfSome}
use Rattle.ibc_ids.specs.Texts.{Text, pair_cmp}
use Rattle.ibc_ids.specs.Maps.{at, with}
use Rattle.ibc_ids.specs.declared.refusal.Refusal.{Refusal}
use Rattle.ibc_maps.specs.SortedMapModel.{SortedMapModel}
use Rattle.ibc_wire.specs.declared.records.ChannelEnd.{ChannelEnd}
use Rattle.ibc_machine.specs.chain.Records.{Channel, Commitment}
use Rattle.ibc_machine.specs.ics04.Packets.{after_send, after_receive, after_ack, after_timeout}
use Rattle.ibc_records.specs.declared.acknowledgement.AckCopies.{AckCopies}

-- channel ends by their port and name
abbrev pub EndsByName : Type 0
EndsByName = SortedMapModel (Text × Text) Channel

-- ---- one that is there changes, and no other

-- it has this end of a channel
abbrev pub HasNewEnd : Text × Text → ChannelEnd → EndsByName → EndsByName → Type 0
HasNewEnd name end old new =
    IfSome (at pair_cmp name old.pairs) (λ channel. new.pairs ≡ with pair_cmp name (record channel { end = end }) old.pairs)

-- it committed to a packet
abbrev pub SendsOn : Text × Text → Commitment → EndsByName → EndsByName → Type 0
SendsOn name c old new = IfSome (at pair_cmp name old.pairs) (λ mine. new.pairs ≡ with pair_cmp name (after_send c mine) old.pairs)

-- it received the packet of this sequence
abbrev pub ReceivesOn : Text × Text → ℕ → Result AckCopies Refusal → EndsByName → EndsByName → Type 0
ReceivesOn name n result old new =
    IfOk result (λ acks. IfSome (at pair_cmp name old.pairs) (λ mine. new.pairs ≡ with pair_cmp name (after_receive n acks.reply mine) old.pairs))

-- the packet of this sequence is acknowledged
abbrev pub AcknowledgesOn : Text × Text → ℕ → EndsByName → EndsByName → Type 0
AcknowledgesOn name n old new = IfSome (at pair_cmp name old.pairs) (λ mine. new.pairs ≡ with pair_cmp name (after_ack n mine) old.pairs)

-- the packet of this sequence is timed out
abbrev pub TimesOutOn : Text × Text → ℕ → EndsByName → EndsByName → Type 0
TimesOutOn name n old new = IfSome (at pair_cmp name old.pairs) (λ mine. new.pairs ≡ with pair_cmp name (after_timeout n mine) old.pairs)
