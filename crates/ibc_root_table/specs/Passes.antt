-- What callers see of a table and of a pass.
use Rattle.std.specs.Prelude.{ℕ, ◌≡◌, ◌+◌, ◌<◌, ◌≤◌, List, [], ◌∷◌, ◌++◌, Option, Some, None, length, slice_get, unwrap_or}
use Rattle.std.specs.Option.{ForSome}
use Rattle.atomic_table.specs.Seated.{TableId}
use Rattle.ibc_ids.specs.declared.publication.Publication.{Publication}
use Rattle.ibc_ids.specs.Publications.{published_by}
use Rattle.ibc_root_table.specs.declared.shape.Shape.{Shape}

-- which table it is, and its shape
pub record TableName : Type 0 where
  pub id : TableId
  pub shape : Shape

-- a pass: of which table, whose own if any chain's, and the publications that it has seen
pub record Sight : Type 0 where
  pub table : TableName
  pub own : Option ℕ
  pub seen : List Publication

-- a pass of a table that is just made
abbrev pub unused_pass : TableName → Option ℕ → Sight
unused_pass table own = record { table = table; own = own; seen = [] }

-- the chains' own passes in their order, and then the readers'
pub record AreDealt (chains readers : ℕ) (table : TableName) (passes : List Sight) : Type 0 where
  pub total : length passes ≡ chains + readers
  pub own : (k : ℕ) → k < chains → slice_get passes k ≡ Some (unused_pass table (Some k))
  pub others : (k : ℕ) → chains ≤ k → k < chains + readers → slice_get passes k ≡ Some (unused_pass table None)

-- it is a pass of the same table and of the same chain
abbrev pub SamePass : Sight → Sight → Type 0
SamePass p q = (q.table ≡ p.table) × (q.own ≡ p.own)

-- a chain's own pass had seen all that the chain has published
abbrev pub KeepsOwn : Sight → Sight → Type 0
KeepsOwn p q = ForSome p.own (λ c. published_by c q.seen ≡ published_by c p.seen)

-- the list begins with all that was seen before, and ends with the publication
abbrev pub Publishes : List Publication → Publication → List Publication → Type 0
Publishes before p after = (between : List Publication) × (after ≡ (before ++ between) ++ p ∷ [])

-- the chain whose own pass it is
abbrev pub own_chain : Sight → ℕ
own_chain p = unwrap_or p.own 0
