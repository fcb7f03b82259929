-- Tables and columns with a name, kinds and NOT NULL, and with no other rule.
use Rattle.std.specs.Prelude.{◌≡◌, true, false, Bool, [], ◌∷◌, List, ℕ, Some, codes}
use Rattle.sqlite.specs.Collation.TheVariants.{Binary}
use Rattle.sqlite.specs.declared.types.Value.TheVariants.{Null}
use Rattle.sqlite.specs.Table.{Table}
use Rattle.sqlite.specs.Kind.TheVariants.{Integer, Blob}
use Rattle.sqlite_schema.specs.declared.schema.Column.{Column}
use Rattle.sqlite_schema.specs.declared.schema.Kind.{Kind}

-- a column with nothing but a name, a kind and perhaps NOT NULL
abbrev pub plain_column : List ℕ → Kind → Bool → Column
plain_column name kind not_null = record { name = name; kind = kind; is_strict = true; not_null = not_null; default = Null; collation = Binary }

-- the columns of numbers of a journal's entries
pub record AreNumbers (place chain kind log_place : Column) : Type 0 where
  pub place_is : place ≡ plain_column (codes "place") Integer false
  pub chain_is : chain ≡ plain_column (codes "chain") Integer true
  pub kind_is : kind ≡ plain_column (codes "kind") Integer true
  pub log_place_is : log_place ≡ plain_column (codes "log_place") Integer true

-- its columns of bytes
pub record AreBytes (event answer digest : Column) : Type 0 where
  pub event_is : event ≡ plain_column (codes "event") Blob true
  pub answer_is : answer ≡ plain_column (codes "answer") Blob true
  pub digest_is : digest ≡ plain_column (codes "digest") Blob true

-- it takes values of its kind alone, has no default, and is sorted by bytes
pub record IsPlainColumn (column : Column) : Type 0 where
  pub is_strict : column.is_strict ≡ true
  pub default : column.default ≡ Null
  pub collation : column.collation ≡ Binary

-- no default is reckoned, and no rows are counted
pub record HasPlainDefaults (table : Table) : Type 0 where
  pub computed : table.computed ≡ []
  pub places : table.stamps.places ≡ []
  pub formats : table.stamps.formats ≡ []
  pub is_counted : table.is_counted ≡ false

-- no key besides the first, and no reference to another table
pub record HasNoRules (table : Table) : Type 0 where
  pub uniques : table.uniques ≡ []
  pub orders : table.orders ≡ []
  pub references : table.references ≡ []
  pub defaults : HasPlainDefaults table

-- its first column is the number of the row, and it has no other rule
pub record IsPlainTable (table : Table) : Type 0 where
  pub key : table.key ≡ Some 0
  pub primary : table.primary ≡ 0 ∷ []
  pub rules : HasNoRules table
  pub checks : table.checks ≡ []
  pub terms : table.stamps.terms ≡ []
