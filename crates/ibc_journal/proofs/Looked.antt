-- What is told of a table's parts is told of the table.
use Rattle.std.proofs.Common.{◌≡◌, ℕ, false, List, [], ◌∷◌, Some}
use Rattle.sqlite.specs.Table.{Table}
use Rattle.sqlite_schema.specs.declared.schema.Column.{Column}
use Rattle.ibc_journal.specs.Plain.{IsPlainTable}

abbrev pub plain_table : List ℕ → ℕ → List Column → Table
plain_table name tree columns = record {
  name = name;
  tree = tree;
  columns = columns;
  key = Some 0;
  primary = 0 ∷ [];
  uniques = [];
  orders = [];
  checks = [];
  references = [];
  computed = [];
  stamps = record { places = []; terms = []; formats = [] };
  is_counted = false;
}

pub table_is : (table : Table) (name : List ℕ) (tree : ℕ) (columns : List Column) → table.name ≡ name → table.tree ≡ tree → table.columns ≡ columns → IsPlainTable table → table ≡ plain_table name tree columns
table_is table name tree columns named numbered has plain = λ i. record {
  name = named i;
  tree = numbered i;
  columns = has i;
  key = plain.key i;
  primary = plain.primary i;
  uniques = plain.rules.uniques i;
  orders = plain.rules.orders i;
  checks = plain.checks i;
  references = plain.rules.references i;
  computed = plain.rules.defaults.computed i;
  stamps = record { places = plain.rules.defaults.places i; terms = plain.terms i; formats = plain.rules.defaults.formats i };
  is_counted = plain.rules.defaults.is_counted i;
}
