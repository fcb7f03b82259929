-- What calls of a table do to passes and to seats.
use Rattle.std.specs.Prelude.{ℕ, ◌≡◌, ◌<◌, ◌≤◌, List, [], ◌∷◌, ◌++◌, Some, slice_index, slice_get}
use Rattle.ibc_ids.specs.Publications.{published_by, height_of, row_at}
use Rattle.ibc_ids.specs.declared.publication.Publication.{Publication}
use Rattle.ibc_ids.specs.declared.refusal.Refusal.{Refusal}
use Rattle.ibc_ids.specs.declared.refusal.Refusal.TheVariants.{TableFull}
use Rattle.ibc_root_table.specs.Passes.{AreDealt, Publishes, Sight, TableName, own_chain}
use Rattle.ibc_root_table.specs.Publications.{IsRoot, publication, row_words}
use Rattle.ibc_root_table.specs.Rule.{Owns, new_seat}
use Rattle.ibc_root_table.specs.TableFields.{IsPlaceOf, Placed, SamePlace}
use Rattle.ibc_root_table.specs.declared.shape.Shape.{Shape}

-- a table of this shape, with the chains' own passes and the readers'
abbrev pub IsNewTable : ℕ → ℕ → ℕ → ℕ → TableName → List Sight → Type 0
IsNewTable chains readers window capacity table passes =
    (table.shape ≡ record { chains = chains; window = window; capacity = capacity }) × AreDealt chains readers table passes

-- a new seat, which writes for the chains from this one on
abbrev pub WritesFrom : Shape → ℕ → Placed → Type 0
WritesFrom shape first p = p.me ≡ (new_seat shape first shape.chains, [])

-- a table of this shape, with the seat that writes for all its chains
abbrev pub IsLaid : Shape → TableName → Placed → Type 0
IsLaid shape table p = (table.shape ≡ shape) × IsPlaceOf table p × WritesFrom shape 0 p

-- all publications so far are seen, and then the chain's own next one
abbrev pub PublishesNext : List ℕ → ℕ → Sight → Sight → Type 0
PublishesNext root time before after = Publishes before.seen (publication (own_chain before) root time) after.seen

-- of the chain's own publications it is the only new one
abbrev pub AddsOwn : List ℕ → ℕ → Sight → Sight → Type 0
AddsOwn root time before after =
    published_by (own_chain before) after.seen
    ≡ published_by (own_chain before) before.seen ++ publication (own_chain before) root time ∷ []

-- the chain may publish more
abbrev pub HasRoom : Shape → Sight → Type 0
HasRoom shape pass = height_of (own_chain pass) pass.seen < shape.capacity

-- the chain has published as many heights as it may, and nothing changes
abbrev pub IsTableFull : Shape → Sight → Sight → Refusal → Type 0
IsTableFull shape before after refusal =
    (refusal ≡ TableFull) × (height_of (own_chain before) before.seen ≡ shape.capacity) × (after ≡ before)

-- root and time of a height are those that the chain published
abbrev pub IsPublishedRow : List Publication → ℕ → ℕ → List ℕ → ℕ → Type 0
IsPublishedRow seen chain height root time = row_at seen chain height ≡ Some (publication chain root time)

-- the seat writes for the chain, its first one
abbrev pub OwnsFirst : Shape → ℕ → Placed → Type 0
OwnsFirst shape chain p = (p.me.0.first_own ≡ chain) × Owns chain p.me.0 × (chain < shape.chains)

-- it is the row of the chain's next publication, of which nothing is drafted yet
abbrev pub IsNextRow : Shape → ℕ → ℕ → Placed → Type 0
IsNextRow shape chain row p = (row ≡ height_of chain p.me.0.seen) × (row < shape.capacity) × (p.me.0.draft ≡ [])

-- of what the seat knows only floors are new
abbrev pub OnlyFloorsDiffer : Placed → Placed → Type 0
OnlyFloorsDiffer p q = SamePlace p q × (q.me ≡ (record p.me.0 { floors = q.me.0.floors }, p.me.1))

-- the words are those of a row that was seen, unless the floor that is known now has passed it
abbrev pub IsLoadedRow : ℕ → ℕ → Placed → List ℕ → Placed → Type 0
IsLoadedRow chain row before words after =
    (p : Publication) → slice_get (published_by chain before.me.0.seen) row ≡ Some p
    → (slice_index after.me.0.floors chain ≤ row → words ≡ row_words p) × IsRoot p.root × (p.chain ≡ chain)

-- the seat hears what another one has seen
abbrev pub HearsOf : Placed → Placed → Placed → Type 0
HearsOf from p q = SamePlace p q × (q.me ≡ (record p.me.0 { heard = from.me.0.seen }, p.me.1))
