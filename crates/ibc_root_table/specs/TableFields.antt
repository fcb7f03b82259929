-- The fields of a table and of a pass.
use Rattle.std.specs.Prelude.{◌≡◌, ◌+◌, ◌<◌, ◌^◌, []}
use Rattle.std.specs.Option.{ForSome}
use Rattle.atomic_table.specs.Seated.{TableId}
use Rattle.atomic_table.specs.declared.shared.Seat.{Seat}
use Rattle.ibc_root_table.specs.declared.table.RootTable.TheInside.{Inside as TableInside}
use Rattle.ibc_root_table.specs.declared.table.Pass.TheInside.{Inside as PassInside}
use Rattle.ibc_root_table.specs.declared.knowledge.TableKnowledge.{TableKnowledge}
use Rattle.ibc_root_table.specs.Publications.{IsWithin}
use Rattle.ibc_root_table.specs.Layout.{table_size}
use Rattle.ibc_root_table.specs.Passes.{TableName, Sight}

abbrev pub id_of : TableInside → TableId
id_of t = t.board.shared.table_id

abbrev pub name_of : TableInside → TableName
name_of t = record { id = id_of t; shape = t.shape }

pub record IsTable (t : TableInside) : Type 0 where
  pub key : t.board.shared.key ≡ t.shape
  pub words : (id_of t).words ≡ table_size t.shape
  pub fits : table_size t.shape < 2 ^ 63
  pub some_chain : 0 < t.shape.chains
  pub ring : 0 < t.shape.window

abbrev pub sight_of : PassInside → Sight
sight_of p = record { table = record { id = p.place.table_id; shape = p.place.me.0.shape }; own = p.own; seen = p.place.me.0.seen }

-- between calls nothing is drafted
pub record IsPass (p : PassInside) : Type 0 where
  pub carried : p.place.me.1 ≡ []
  pub draft : p.place.me.0.draft ≡ []
  pub own : ForSome p.own (λ c. (p.place.me.0.first_own ≡ c) × (p.place.me.0.end_own ≡ c + 1) × (c < p.place.me.0.shape.chains))
  pub within : IsWithin p.place.me.0.shape p.place.me.0.seen

abbrev pub Placed : Type 0
Placed = Seat (Unit {0}) TableKnowledge

-- the seat is at the table
abbrev pub IsPlaceOf : TableName → Placed → Type 0
IsPlaceOf name p = (p.table_id ≡ name.id) × (p.me.0.shape ≡ name.shape)

abbrev pub SamePlace : Placed → Placed → Type 0
SamePlace p q = (q.table_id ≡ p.table_id) × (q.id ≡ p.id)
