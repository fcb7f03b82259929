-- Histories of several chains as one list, along the publications that all of them saw.
use Rattle.std.specs.Prelude.{◌≡◌, ℕ, ◌==◌, ◌&&◌, Bool, true, List, [], ◌∷◌, ◌++◌, length, Some, slice_get, slice_index, slice_set, nat_lt, IfSome, ⊤}
use Rattle.std.specs.List.{filter, list_all, count_by}
use Rattle.ibc_ids.specs.declared.publication.Publication.{Publication}
use Rattle.ibc_machine.specs.declared.event.Event.{Event}
use Rattle.ibc_machine.specs.declared.event.Event.TheVariants as event
use Rattle.ibc_machine.specs.declared.reply.Effect.TheVariants as effect
use Rattle.ibc_machine.specs.declared.reply.Reply.{Reply}
use Rattle.ibc_machine.specs.declared.reply.Reply.TheVariants as reply
use Rattle.ibc_machine.specs.declared.entry.Entry.{Entry}
use Rattle.ibc_machine.specs.ledger.Ledgers.{chain_of, header_in, is_accepted_block, reading_fits}

abbrev pub is_of_chain : ℕ → Entry → Bool
is_of_chain chain entry = chain_of entry.event == chain

-- What the accepted blocks publish, in order: the chain, the root, and the time of the block, which was
-- fixed when it began; the times are those of the working blocks, by chain
abbrev pub published_next : (List ℕ → List Publication) → List ℕ → Event → Reply → List Publication
published_next next times (event.Block k next_time) (reply.Ok (effect.Block height root)) =
    record { chain = k; root = root; time = slice_index times k } ∷ next (slice_set times k next_time)
published_next next times _ _ = next times

abbrev pub published_along : List ℕ → List Entry → List Publication
published_along times [] = []
published_along times (entry ∷ entries) =
    published_next (λ after. published_along after entries) times entry.event entry.reply

-- how many blocks of a chain were accepted
abbrev pub blocks_of : ℕ → List Entry → ℕ
blocks_of chain entries = count_by (λ (entry : Entry). is_of_chain chain entry && is_accepted_block entry) entries

-- a reading fits the heights that were published before the entry
abbrev pub ReadingFitsBefore : ℕ → List Entry → Entry → Type 0
ReadingFitsBefore window before entry =
    IfSome entry.reading (λ r. IfSome (header_in entry.event)
    (λ header. reading_fits window (blocks_of header.chain before) header.height r ≡ true))

-- every entry of a list, with what stands before it
abbrev pub EachWithEarlier : (List Entry → Entry → Type 0) → List Entry → List Entry → Type 0
EachWithEarlier P before [] = ⊤
EachWithEarlier P before (entry ∷ entries) = P before entry × EachWithEarlier P (before ++ entry ∷ []) entries

-- The list has each history's entries in that history's order, and no others. Its accepted blocks are, in
-- order, the publications. Each entry that read a published height stands where what it read is so. The times
-- are those of the first blocks, by chain.
pub record Merges (window : ℕ) (times : List ℕ) (histories : List (List Entry)) (publications : List Publication)
    (list : List Entry) : Type 0 where
  pub each : (chain : ℕ) (history : List Entry) → slice_get histories chain ≡ Some history
      → filter (is_of_chain chain) list ≡ history
  pub no_others : list_all (λ (entry : Entry). nat_lt (chain_of entry.event) (length histories)) list ≡ true
  pub blocks : published_along times list ≡ publications
  pub readings : EachWithEarlier (ReadingFitsBefore window) [] list
