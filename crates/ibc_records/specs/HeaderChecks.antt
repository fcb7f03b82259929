-- What an update of a client finds out of its client, and of the height that its header names.
use Rattle.std.specs.Prelude.{◌≡◌, ℕ, Bool, true, false, ◌&&◌, ◌==◌, nat_le, ⊤, List, Option, Some, None, IfSome}
use mathlib.Core.List.{IsPrefix}
use Rattle.std.specs.Option.{option_map_or}
use Rattle.ibc_ids.specs.Texts.{Text, same_text}
use Rattle.ibc_ids.specs.Publications.{height_of}
use Rattle.ibc_ids.specs.declared.publication.Publication.{Publication}
use Rattle.ibc_ids.specs.declared.refusal.Refusal.TheVariants.{UnknownClient, WrongHeader, NotPublished}
use Rattle.ibc_wire.specs.declared.header.Header.{Header}
use Rattle.ibc_wire.specs.declared.messages.UpdateClient.{UpdateClient}
use Rattle.ibc_machine.specs.declared.entry.Reading.{Reading}
use Rattle.ibc_machine.specs.chain.Records.{Core, Client, client_at}
use Rattle.ibc_machine.specs.chain.Checks.{Checked, require, expect, ◌>>=◌, ◌>>◌}
use Rattle.ibc_machine.specs.ics24.Evidence.{PublishedRow, Gone, require_row}
use Rattle.ibc_machine.specs.ics02.Clients.{is_of_client}
use Rattle.ibc_machine.specs.chain.Machine.{row_if}
use Rattle.ibc_machine.specs.ledger.Ledgers.{IsReadBetween, reading_fits}
use Rattle.ibc_machine.specs.ledger.Replay.{row_read}
use Rattle.ibc_root_table.specs.Passes.{Sight, SamePass, KeepsOwn}

-- the client is there and tracks the header's chain, and the height isn't 0
abbrev pub require_tracked : Core → UpdateClient → Checked ⊤
require_tracked core m =
    expect (client_at core m.client) UnknownClient >>= λ (client : Client). require (is_of_client client m.header) WrongHeader

-- the header is that of a height which is published, where this was read
abbrev pub require_published : List Publication → Reading → Header → Checked ⊤
require_published seen reading header =
    require (nat_le header.height reading.published) NotPublished >> require_row (row_read seen reading.row_was_there header)

-- an update looks at what is published where the client is there and tracks the header's chain
abbrev pub is_reading_update : Core → UpdateClient → Bool
is_reading_update core m = option_map_or (λ (client : Client). is_of_client client m.header) (client_at core m.client) false

-- what the root and the time that stand at a height say of a header
abbrev pub row_found : Option (Text × ℕ) → Header → PublishedRow
row_found None header = Gone
row_found (Some row) header = row_if ((header.time == row.1) && same_text header.root row.0)

-- the pass is the same one, which has seen what it had, and perhaps more
abbrev pub SeesOn : Sight → Sight → Type 0
SeesOn old new = SamePass old new × IsPrefix old.seen new.seen × KeepsOwn old new

-- what was read of the header's height fits what was published
abbrev pub FitsHeader : ℕ → List Publication → Header → Reading → Type 0
FitsHeader window seen header reading = reading_fits window (height_of header.chain seen) header.height reading ≡ true

-- the same where there was a look
abbrev pub FitsIfRead : ℕ → List Publication → Header → Option Reading → Type 0
FitsIfRead window seen header found = IfSome found (λ reading. reading_fits window (height_of header.chain seen) header.height reading ≡ true)

-- where there was a look, the height read is how many the chain had published at some time between the two
abbrev pub IsReadDuring : List Publication → List Publication → ℕ → Option Reading → Type 0
IsReadDuring before after chain found = IfSome found (λ reading. IsReadBetween before after chain reading.published)
