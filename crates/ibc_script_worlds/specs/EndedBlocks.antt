-- The blocks that a history tells the ends of: each entry of an accepted block has its height, its root and the next time.
use Rattle.std.specs.Prelude.{◌≡◌, ◌⊎◌, ◌<◌, ◌≤◌, ◌+◌, ◌-◌, ℕ, zero, suc, nat_lt, true, false, List, [], ◌∷◌, length, map, slice_get, Option, None, Some, MatchOption, ⊤}
use Rattle.ibc_machine.specs.declared.entry.Entry.{Entry}
use Rattle.ibc_machine.specs.declared.event.Event.{Event}
use Rattle.ibc_machine.specs.declared.event.Event.TheVariants as event
use Rattle.ibc_machine.specs.declared.reply.Effect.{Effect}
use Rattle.ibc_machine.specs.declared.reply.Effect.TheVariants as effect
use Rattle.ibc_machine.specs.declared.reply.Reply.{Reply}
use Rattle.ibc_machine.specs.declared.reply.Reply.TheVariants as reply
use Rattle.ibc_machine.specs.ledger.Replay.{StampedEntry}
use Rattle.ibc_ledger.specs.LedgerModel.{abstract_entry}
use Rattle.ibc_ledger.specs.declared.entry.StampedEntry.{StampedEntry as KeptEntry}
use Rattle.ibc_script_cli.specs.declared.chains.CommittedBlock.{CommittedBlock}
use Rattle.ibc_script_worlds.specs.declared.blocks.ChainStarts.{ChainStarts}
use Rattle.ibc_script_worlds.specs.declared.blocks.EndedBlock.{EndedBlock}
use Rattle.ibc_script_worlds.specs.declared.blocks.Search.{Search}
use Rattle.ibc_script_worlds.specs.declared.blocks.Search.TheVariants as step

-- ---- what an entry tells

abbrev pub block_given : Effect → ℕ → Option EndedBlock
block_given (effect.Block height root) next_time = Some (record { height = height; root = root; next_time = next_time })
block_given _ next_time = None

abbrev pub ended_in : Event → Reply → Option EndedBlock
ended_in (event.Message k m) given = None
ended_in (event.Block k next_time) (reply.No refusal) = None
ended_in (event.Block k next_time) (reply.Ok given) = block_given given next_time

-- the block that an entry tells the end of
abbrev pub ended_by : Entry → Option EndedBlock
ended_by entry = ended_in entry.event entry.reply

-- what each entry of a history tells
abbrev pub ends_in : List StampedEntry → List (Option EndedBlock)
ends_in history = map (λ (e : StampedEntry). ended_by e.entry) history

abbrev pub ends_of : List KeptEntry → List (Option EndedBlock)
ends_of history = ends_in (map abstract_entry history)

-- ---- the blocks, from height 1 on

-- the first of these blocks began at this time, and each other one at the time that the end of the one before it names
abbrev pub blocks_told : ℕ → List (Option EndedBlock) → List CommittedBlock
blocks_told time [] = []
blocks_told time (None ∷ ends) = blocks_told time ends
blocks_told time (Some block ∷ ends) = record { root = block.root; time = time } ∷ blocks_told block.next_time ends

-- the heights rise by one from this one on
abbrev pub AreCountedFrom : ℕ → List (Option EndedBlock) → Type 0
AreCountedFrom n [] = ⊤
AreCountedFrom n (None ∷ ends) = AreCountedFrom n ends
AreCountedFrom n (Some block ∷ ends) = (block.height ≡ n) × AreCountedFrom (n + 1) ends

-- the block of a height
abbrev pub told_at : ℕ → List CommittedBlock → Option CommittedBlock
told_at zero blocks = None
told_at (suc k) blocks = slice_get blocks k

-- the same, where the height is one of the last so many
abbrev pub kept_told : ℕ → ℕ → List CommittedBlock → Option CommittedBlock
kept_told window height blocks = elim (nat_lt (length blocks - window) height) [ true ↦ told_at height blocks | false ↦ None ]

-- the heights that a history tells the ends of are counted from 1
abbrev pub IsCounted : List KeptEntry → Type 0
IsCounted history = AreCountedFrom 1 (ends_of history)

-- the blocks of a chain that began at a time, by its history
abbrev pub told_blocks : ℕ → List KeptEntry → List CommittedBlock
told_blocks time history = blocks_told time (ends_of history)

-- the block of a height that a chain keeps, by how it began and by its history; none where there is no such chain
abbrev pub IsBlockSince : ChainStarts → ℕ → ℕ → List KeptEntry → Option CommittedBlock → Type 0
IsBlockSince starts chain height history found =
    MatchOption (slice_get starts.times.items chain) (found ≡ None) (λ time. found ≡ kept_told starts.window height (told_blocks time history))

-- ---- places in a history

-- the time of the block that works behind such entries
abbrev pub time_after : ℕ → List (Option EndedBlock) → ℕ
time_after time [] = time
time_after time (None ∷ ends) = time_after time ends
time_after time (Some block ∷ ends) = time_after block.next_time ends

-- the entry at a place tells the end of a block
abbrev pub EndsAt : List (Option EndedBlock) → ℕ → EndedBlock → Type 0
EndsAt ends place block = slice_get ends place ≡ Some (Some block)

-- no entry of a part tells of one
abbrev pub EndNoneIn : List (Option EndedBlock) → ℕ → ℕ → Type 0
EndNoneIn ends low high = (i : ℕ) (block : EndedBlock) → low ≤ i → i < high → EndsAt ends i block → ⊥

-- the last block of which a part tells, with its place
abbrev pub IsLastIn : List (Option EndedBlock) → ℕ → ℕ → Option (ℕ × EndedBlock) → Type 0
IsLastIn ends low high None = EndNoneIn ends low high
IsLastIn ends low high (Some (place, block)) =
    (low ≤ place) × (place < high) × EndsAt ends place block × EndNoneIn ends (place + 1) high

-- outside of a part of the first so many entries the block of a height isn't told
abbrev pub IsInside : List (Option EndedBlock) → ℕ → ℕ → ℕ → ℕ → Type 0
IsInside ends limit height low high = (i : ℕ) (block : EndedBlock) → i < limit → EndsAt ends i block → (i < low) ⊎ (high ≤ i)
    → block.height ≡ height → ⊥

-- the block of a height among the first so many entries, with its place
abbrev pub IsPlaceOf : List (Option EndedBlock) → ℕ → ℕ → Option (ℕ × EndedBlock) → Type 0
IsPlaceOf ends limit height None = (i : ℕ) (block : EndedBlock) → i < limit → EndsAt ends i block → block.height ≡ height → ⊥
IsPlaceOf ends limit height (Some (place, block)) = EndsAt ends place block × (block.height ≡ height)

-- one step of a search: the block is found, or it stands in a smaller part if it stands in this one
abbrev pub IsNarrowed : List (Option EndedBlock) → ℕ → ℕ → ℕ → Search → Type 0
IsNarrowed ends height low high (step.Found place block) = (place < high) × EndsAt ends place block × (block.height ≡ height)
IsNarrowed ends height low high (step.Within low' high') =
    (low ≤ low') × (low' ≤ high') × (high' ≤ high) × (high' + low < high + low')
    × (AreCountedFrom 1 ends → (i : ℕ) (block : EndedBlock) → low ≤ i → i < high → EndsAt ends i block → (i < low') ⊎ (high' ≤ i)
    → block.height ≡ height → ⊥)
