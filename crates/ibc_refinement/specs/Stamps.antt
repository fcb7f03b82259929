-- The histories of ledgers as one list, by the stamps of their entries: how many publications a ledger's pass
-- had seen where an entry read a published height or published its own.
use Rattle.std.specs.Prelude.{ℕ, suc, Bool, true, ◌==◌, nat_le, List, [], ◌∷◌, ◌++◌, map, IsTrue, if◌then◌else◌}
use Rattle.std.specs.List.{flat_map}
use Rattle.std.specs.Option.{option_map_or}
use Rattle.ibc_ids.specs.declared.publication.Publication.{Publication}
use Rattle.ibc_machine.specs.declared.entry.Entry.{Entry}
use Rattle.ibc_machine.specs.chain.Records.{MachineChain}
use Rattle.ibc_machine.specs.chain.Genesis.{GenesisState, start, is_allowed}
use Rattle.ibc_machine.specs.ledger.Replay.{StampedEntry}
use Rattle.ibc_machine.specs.ledger.Ledgers.{Ledger}
use Rattle.ibc_machine.specs.ics23.HashedTexts.{HasNoClash}
use Rattle.ibc_machine.specs.ledger.Merge.{Merges}
use Rattle.ibc_machine.specs.promises.Worlds.{AreLedgersOf, AreOfOneTable, entries, IsWorldHistory}

-- the entry may stand where so many are published
abbrev pub is_by : ℕ → StampedEntry → Bool
is_by n e = option_map_or (λ stamp. nat_le stamp n) e.stamp true

-- the entries up to the first whose stamp is above n, and those from it on
abbrev pub entries_until : ℕ → List StampedEntry → List StampedEntry
entries_until n [] = []
entries_until n (e ∷ history) = if is_by n e then e ∷ entries_until n history else []

abbrev pub entries_since : ℕ → List StampedEntry → List StampedEntry
entries_since n [] = []
entries_since n (e ∷ history) = if is_by n e then entries_since n history else e ∷ history

abbrev pub first_entries : List StampedEntry → List StampedEntry
first_entries [] = []
first_entries (e ∷ history) = e ∷ []

abbrev pub later_entries : List StampedEntry → List StampedEntry
later_entries [] = []
later_entries (e ∷ history) = history

-- of the histories of chains i, i + 1 and so on: the block that chain k publishes next, where n are published
abbrev pub next_block : ℕ → ℕ → ℕ → List (List StampedEntry) → List StampedEntry
next_block n k i [] = []
next_block n k i (history ∷ histories) = if i == k then first_entries (entries_since n history) else next_block n k (suc i) histories

-- what is left of them then
abbrev pub left_after : ℕ → ℕ → ℕ → List (List StampedEntry) → List (List StampedEntry)
left_after n k i [] = []
left_after n k i (history ∷ histories) =
    (if i == k then later_entries (entries_since n history) else entries_since n history) ∷ left_after n k (suc i) histories

-- Where n are published: what stands by then, chain by chain; the next publication's block; and so on.
abbrev pub by_stamps : List Publication → ℕ → List (List StampedEntry) → List StampedEntry
by_stamps [] n histories = flat_map (entries_until n) histories
by_stamps (p ∷ publications) n histories =
    flat_map (entries_until n) histories ++ next_block n p.chain 0 histories
    ++ by_stamps publications (suc n) (left_after n p.chain 0 histories)

abbrev pub merged_by_stamps : List Publication → List Ledger → List Entry
merged_by_stamps publications ledgers =
    map (λ (e : StampedEntry). e.entry) (by_stamps publications 0 (map (λ (l : Ledger). l.history) ledgers))

-- The stamps merge the histories of ledgers of one genesis and one table.
abbrev pub StampsMerge : Type 0
StampsMerge = (genesis : GenesisState) (ledgers : List Ledger) (publications : List Publication)
    → AreLedgersOf genesis ledgers → AreOfOneTable publications ledgers
    → Merges genesis.window (map (λ (c : MachineChain). c.time) (start genesis)) (map entries ledgers) publications
    (merged_by_stamps publications ledgers)

-- So the list by the stamps is a run of the machine since genesis to the ledgers' states, where no two texts
-- that are hashed clash.
abbrev pub StampedIsRun : Type 0
StampedIsRun = (genesis : GenesisState) (ledgers : List Ledger) (publications : List Publication)
    → AreLedgersOf genesis ledgers → AreOfOneTable publications ledgers → IsTrue (is_allowed genesis) → HasNoClash ledgers
    → IsWorldHistory genesis ledgers publications (merged_by_stamps publications ledgers)
