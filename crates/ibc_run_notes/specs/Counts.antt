-- How often answers came.
use Rattle.std.specs.Prelude.{◌≡◌, ℕ, ◌+◌, ◌-◌, ◌^◌, min, List, length, slice_index, slice_set, EachIndex}
use Rattle.ibc_ids.specs.Refusals.{number_of}
use Rattle.ibc_machine.specs.declared.event.Event.{Event}
use Rattle.ibc_machine.specs.declared.event.Event.TheVariants as event
use Rattle.ibc_machine.specs.declared.reply.Reply.{Reply}
use Rattle.ibc_machine.specs.declared.reply.Reply.TheVariants as reply
use Rattle.ibc_wire.specs.Kinds.{kind_of, tag_of}

-- the tag of an event's message, 0 for a block
abbrev pub event_tag : Event → ℕ
event_tag (event.Message chain m) = tag_of (kind_of m)
event_tag (event.Block chain next_time) = 0

-- the count at a place is one more, up to 2^64 - 1; where there is no such place, nothing is
abbrev pub counted_at : ℕ → List ℕ → List ℕ
counted_at place counts = slice_set counts place (min (slice_index counts place + 1) (2 ^ 64 - 1))

-- the counts of what was accepted, with a reply to an event of this tag
abbrev pub accepted_with : ℕ → Reply → List ℕ → List ℕ
accepted_with tag (reply.Ok given) counts = counted_at tag counts
accepted_with tag (reply.No refusal) counts = counts

-- the counts of what was refused, with a reply
abbrev pub refused_with : Reply → List ℕ → List ℕ
refused_with (reply.Ok given) counts = counts
refused_with (reply.No refusal) counts = counted_at (number_of refusal) counts

-- each count is the sum of two, up to 2^64 - 1
abbrev pub AreSums : List ℕ → List ℕ → List ℕ → Type 0
AreSums counts others sums =
    (length sums ≡ length counts)
    × EachIndex counts (λ k. slice_index sums k ≡ min (slice_index counts k + slice_index others k) (2 ^ 64 - 1))
