-- What a call does to a ledger: its history has one entry more, or nothing has changed but what its pass has seen.
use Rattle.std.specs.Prelude.{◌≡◌, ◌⊎◌, ℕ}
use Rattle.ibc_ids.specs.declared.refusal.Refusal.TheVariants.{NoMemory}
use Rattle.ibc_wire.specs.declared.messages.Message.{Message}
use Rattle.ibc_machine.specs.declared.event.Event.{Event}
use Rattle.ibc_machine.specs.declared.event.Event.TheVariants as event
use Rattle.ibc_machine.specs.declared.reply.Reply.{Reply}
use Rattle.ibc_machine.specs.declared.reply.Reply.TheVariants as reply
use Rattle.ibc_machine.specs.ledger.Ledgers.{Ledger, SeesMore, AddsNext}

-- memory ran out and nothing was added, or there is one entry more
abbrev pub AddsOrNot : Ledger → Event → Reply → Ledger → Type 0
AddsOrNot old event given new =
    ((given ≡ reply.No NoMemory) × SeesMore old new)
    ⊎ ((given ≡ reply.No NoMemory → ⊥) × AddsNext old event given new)

-- the same of a message for the ledger's chain
abbrev pub AddsMessage : Ledger → Message → Reply → Ledger → Type 0
AddsMessage old message given new = AddsOrNot old (event.Message old.chain message) given new

-- the same of the end of its block, where the next block has this time
abbrev pub AddsBlockEnd : Ledger → ℕ → Reply → Ledger → Type 0
AddsBlockEnd old next_time given new = AddsOrNot old (event.Block old.chain next_time) given new
