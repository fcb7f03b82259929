-- What ledgers hash is in the list of all texts that are hashed.
use Rattle.std.proofs.Common.{ℕ, List, [], ◌∷◌, ◌++◌, ap, inl, inr}
use Rattle.std.specs.List.{flat_map}
use Rattle.ibc_ids.specs.Texts.{Text}
use Rattle.ibc_ids.specs.declared.publication.Publication.{Publication}
use Rattle.ibc_machine.specs.chain.Records.{Block}
use Rattle.ibc_machine.specs.chain.Genesis.{GenesisState}
use Rattle.ibc_machine.specs.ledger.Replay.{LedgerState, StampedEntry, entry_answer, met_states}
use Rattle.ibc_machine.specs.ledger.Ledgers.{Ledger, met_by, state_of}
use Rattle.ibc_machine.specs.ics23.HashedTexts.{state_texts, block_texts, event_texts, ledger_texts, HasNoClash}
use Rattle.ibc_merkle.proofs.Accepted.{IsClear}
use Rattle.ibc_machine.proofs.Members.{Is_in, in_left, in_right, in_flat_map, contains_in}

module _ (ledger : Ledger) (x : Text) where
  abbrev met_texts : List Text
  met_texts = flat_map (λ (at : LedgerState × StampedEntry). state_texts at.0) (met_by ledger)

  abbrev last_texts : List Text
  last_texts = state_texts (state_of ledger)

  abbrev tree_texts_of_blocks : List Text
  tree_texts_of_blocks = flat_map block_texts (state_of ledger).chain.committed

  abbrev delivered_texts : List Text
  delivered_texts = flat_map (λ (e : StampedEntry). event_texts e.entry.event) ledger.history

  pub met_hashed : (at : LedgerState × StampedEntry) → Is_in at (met_by ledger) → Is_in x (state_texts at.0) → Is_in x (ledger_texts ledger)
  unfolding ledger_texts
  met_hashed at met i =
      in_left x (met_texts ++ last_texts ++ tree_texts_of_blocks) delivered_texts (in_left x (met_texts ++ last_texts) tree_texts_of_blocks (in_left x met_texts last_texts
      (in_flat_map (λ (at : LedgerState × StampedEntry). state_texts at.0) at x (met_by ledger) met i)))

  pub block_hashed : (block : Block) → Is_in block (state_of ledger).chain.committed → Is_in x (block_texts block) → Is_in x (ledger_texts ledger)
  unfolding ledger_texts
  block_hashed block there i =
      in_left x (met_texts ++ last_texts ++ tree_texts_of_blocks) delivered_texts (in_right x (met_texts ++ last_texts) tree_texts_of_blocks
      (in_flat_map block_texts block x (state_of ledger).chain.committed there i))

  pub event_hashed : (e : StampedEntry) → Is_in e ledger.history → Is_in x (event_texts e.entry.event) → Is_in x (ledger_texts ledger)
  unfolding ledger_texts
  event_hashed e there i =
      in_right x (met_texts ++ last_texts ++ tree_texts_of_blocks) delivered_texts
      (in_flat_map (λ (e : StampedEntry). event_texts e.entry.event) e x ledger.history there i)

-- an entry with the state that it met is an entry of the history
pub met_in_history : (genesis : GenesisState) (k : ℕ) (seen : List Publication) (state : LedgerState) (history : List StampedEntry) (at : LedgerState × StampedEntry)
    → Is_in at (met_states genesis k seen state history) → Is_in at.1 history
met_in_history genesis k seen state [] at h = absurd h
met_in_history genesis k seen state (e ∷ history) at (inl same) = inl (ap (λ (w : LedgerState × StampedEntry). w.1) same)
met_in_history genesis k seen state (e ∷ history) at (inr h) = inr (met_in_history genesis k seen (entry_answer genesis k seen state e).1 history at h)

-- the texts that are hashed in a world
abbrev pub Among : List Ledger → Text → Type 0
Among ledgers x = Is_in x (flat_map ledger_texts ledgers)

pub among_clear : (ledgers : List Ledger) → HasNoClash ledgers → IsClear (Among ledgers)
among_clear ledgers clash x y i j e = clash x y (contains_in x (flat_map ledger_texts ledgers) i) (contains_in y (flat_map ledger_texts ledgers) j) e
