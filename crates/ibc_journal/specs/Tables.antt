-- The two tables of a journal: how it began, and what was answered since, one row for each entry.
use Rattle.std.specs.Prelude.{◌≡◌, ◌+◌, true, false, [], ◌∷◌, Some, codes, List, ℕ, pos}
use Rattle.sqlite.specs.Collation.TheVariants.{Binary}
use Rattle.sqlite.specs.declared.types.Value.TheVariants.{Null, Int, Blob as Bytes}
use Rattle.sqlite.specs.Order.{Row}
use Rattle.sqlite.specs.Table.{Table}
use Rattle.sqlite.specs.Schema.{Schema}
use Rattle.sqlite.specs.Kind.TheVariants.{Integer, Blob}
use Rattle.sqlite.specs.Tree.{Trees}
use Rattle.sqlite.specs.Effect.{Database}

-- the format's number, and the genesis as it was given
abbrev pub meta : Table
meta = record {
  name = codes "meta";
  tree = 0;
  columns = (record { name = codes "format"; kind = Integer; is_strict = true; not_null = false; default = Null; collation = Binary })
      ∷ (record { name = codes "genesis"; kind = Blob; is_strict = true; not_null = true; default = Null; collation = Binary }) ∷ [];
  key = Some 0;
  primary = 0 ∷ [];
  uniques = [];
  orders = [];
  checks = [];
  references = [];
  computed = [];
  stamps = record { places = []; terms = []; formats = [] };
  is_counted = false;
}

-- an event of a chain, what was answered to it, and the digest of all up to it
abbrev pub entries : Table
entries = record {
  name = codes "entries";
  tree = 1;
  columns = (record { name = codes "place"; kind = Integer; is_strict = true; not_null = false; default = Null; collation = Binary })
      ∷ (record { name = codes "chain"; kind = Integer; is_strict = true; not_null = true; default = Null; collation = Binary })
      ∷ (record { name = codes "kind"; kind = Integer; is_strict = true; not_null = true; default = Null; collation = Binary })
      ∷ (record { name = codes "log_place"; kind = Integer; is_strict = true; not_null = true; default = Null; collation = Binary })
      ∷ (record { name = codes "event"; kind = Blob; is_strict = true; not_null = true; default = Null; collation = Binary })
      ∷ (record { name = codes "answer"; kind = Blob; is_strict = true; not_null = true; default = Null; collation = Binary })
      ∷ (record { name = codes "digest"; kind = Blob; is_strict = true; not_null = true; default = Null; collation = Binary }) ∷ [];
  key = Some 0;
  primary = 0 ∷ [];
  uniques = [];
  orders = [];
  checks = [];
  references = [];
  computed = [];
  stamps = record { places = []; terms = []; formats = [] };
  is_counted = false;
}

abbrev pub no_schema : Schema
no_schema = record { tables = []; indexes = []; views = [] }

abbrev pub meta_schema : Schema
meta_schema = record { tables = meta ∷ []; indexes = []; views = [] }

abbrev pub journal_schema : Schema
journal_schema = record { tables = meta ∷ entries ∷ []; indexes = []; views = [] }

-- ---- rows

-- an entry without where it lies in memory
pub record JournalItem : Type 0 where
  pub chain : ℕ
  pub kind : ℕ
  -- the place in a log by which the event came, or 0 where it came by none
  pub log_place : ℕ
  pub event : List ℕ
  pub answer : List ℕ
  pub digest : List ℕ

-- the number of this format
abbrev pub format : ℕ
format = 1

-- the row of the beginning
abbrev pub beginning_row : List ℕ → Row
beginning_row genesis = Int (pos format) ∷ Null ∷ Bytes genesis ∷ []

-- the row of an entry at a place
abbrev pub row_at : ℕ → JournalItem → Row
row_at place it =
    Int (pos place) ∷ Null ∷ Int (pos it.chain) ∷ Int (pos it.kind) ∷ Int (pos it.log_place) ∷ Bytes it.event ∷ Bytes it.answer ∷ Bytes it.digest ∷ []

-- the rows of entries in their order, numbered from a place on
abbrev pub rows_from : ℕ → List JournalItem → List Row
rows_from place [] = []
rows_from place (it ∷ its) = row_at place it ∷ rows_from (place + 1) its

-- the tables hold the beginning, and these entries and no others
pub record HasRows (genesis : List ℕ) (items : List JournalItem) (trees : Trees) : Type 0 where
  pub beginning : trees 0 ≡ beginning_row genesis ∷ []
  pub entries : trees 1 ≡ rows_from 0 items

-- The database is a journal that began so and has these entries: the two tables and nothing else.
pub record IsJournal (db : Database) (genesis : List ℕ) (items : List JournalItem) : Type 0 where
  pub schema : db.schema ≡ journal_schema
  pub rows : HasRows genesis items db.trees
