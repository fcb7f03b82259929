-- The rule of the table.
use Rattle.std.specs.Prelude.{ℕ, ◌≡◌, ◌+◌, ◌<◌, ◌≤◌, List, [], length, slice_index, slice_get, Some}
use mathlib.Core.Option.{some}
use mathlib.Core.List.{IsPrefix}
use lib.ListN.{get_elem?}
use Rattle.atomic_table.specs.Table.{State}
use Rattle.ibc_ids.specs.declared.publication.Publication.{Publication}
use Rattle.ibc_ids.specs.Publications.{published_by, height_of}
use Rattle.ibc_root_table.specs.declared.knowledge.TableKnowledge.{TableKnowledge}
use Rattle.ibc_root_table.specs.declared.shape.Shape.{Shape}
use Rattle.ibc_root_table.specs.Publications.{IsRoot, IsWithin, row_words}
use Rattle.ibc_root_table.specs.Layout.{table_size, floor_at, RowStands}

-- the seat alone writes for the chain
abbrev pub Owns : ℕ → TableKnowledge → Type 0
Owns c v = (v.first_own ≤ c) × (c < v.end_own)

-- what the seat j knows is so: of the one list, of the words, and of who writes for which chain
pub record SeatKnows (key : Shape) (log : List Publication) (owner : ℕ → ℕ) (words : List ℕ) (j : ℕ) (v : TableKnowledge) : Type 0 where
  pub shape : 0 < v.shape.chains → v.shape ≡ key
  pub seen : IsPrefix v.seen log
  pub heard : IsPrefix v.heard log
  pub inside : (c : ℕ) → Owns c v → c < key.chains
  pub sole : (c : ℕ) → Owns c v → owner c ≡ j
  pub all : (c : ℕ) → Owns c v → height_of c v.seen ≡ height_of c log
  pub drafted : Owns v.first_own v → RowStands key words v.first_own (height_of v.first_own log) v.draft
  pub room : Owns v.first_own v → 0 < length v.draft → (height_of v.first_own log < key.capacity) × (length v.draft ≤ 5)
      × (height_of v.first_own log + 1 ≤ floor_at key words v.first_own + key.window)
  pub floors : (c : ℕ) → c < key.chains → slice_index v.floors c ≤ floor_at key words c

-- The words stand for the list: with n publications of a chain, its floor lies between n less the window and n + 1 less
-- the window, and each row above it stands.
pub record Written (key : Shape) (log : List Publication) (words : List ℕ) : Type 0 where
  pub size : length words ≡ table_size key
  pub counts : (c : ℕ) → c < key.chains → slice_index words c ≡ height_of c log
  pub rows : (c k : ℕ) (p : Publication) → slice_get (published_by c log) k ≡ Some p → floor_at key words c ≤ k → RowStands key words c k (row_words p)
  pub kept : (c : ℕ) → c < key.chains → height_of c log ≤ floor_at key words c + key.window
  pub gone : (c : ℕ) → c < key.chains → 0 < floor_at key words c → floor_at key words c + key.window ≤ height_of c log + 1
  pub ring : 0 < key.window
  pub within : IsWithin key log
  pub roots : (c k : ℕ) (p : Publication) → slice_get (published_by c log) k ≡ Some p → (p.chain ≡ c) × IsRoot p.root

-- there is one list, for which the words stand, and of which each seat has seen a beginning
pub record IsTableState (key : Shape) (s : State (Unit {0}) TableKnowledge) : Type 0 where
  pub log : List Publication
  pub owner : ℕ → ℕ
  pub written : Written key log s.words
  pub each_seat : (j : ℕ) (v : TableKnowledge) → get_elem? s.views j ≡ some v → SeatKnows key log owner s.words j v

-- a seat that has seen nothing, and writes for the chains from the first of these numbers up to below the second
abbrev pub new_seat : Shape → ℕ → ℕ → TableKnowledge
new_seat key first end = record { shape = key; first_own = first; end_own = end; seen = []; heard = []; draft = []; floors = [] }

-- the first seat writes for all chains
abbrev pub writer_of_all : Shape → TableKnowledge
writer_of_all key = new_seat key 0 key.chains

-- a seat that is spent
abbrev pub spent_seat : TableKnowledge
spent_seat = new_seat record { chains = 0; window = 0; capacity = 0 } 0 0

-- how a seat is cut: the new one writes for the first chain, or only reads
abbrev pub rest_of : TableKnowledge → TableKnowledge
rest_of v = record v { first_own = v.first_own + 1; draft = [] }

abbrev pub writer_of_first : TableKnowledge → TableKnowledge
writer_of_first v = record v { end_own = v.first_own + 1; draft = [] }

abbrev pub reader_seat : TableKnowledge → TableKnowledge
reader_seat v = record v { first_own = 0; end_own = 0; draft = [] }

abbrev pub seat_with_heard : TableKnowledge → TableKnowledge → TableKnowledge
seat_with_heard v w = record v { heard = w.seen }
