-- The statements of a journal, and what they mean under its schema.
use Rattle.std.proofs.Common.{◌≡◌, ℕ, pos, negsuc, List, [], ◌∷◌, codes, Ok, None, false, refl}
use Rattle.sqlite.specs.declared.types.Value.TheVariants.{Null, Int}
use Rattle.sqlite.specs.Collation.TheVariants.{Binary}
use Rattle.sqlite.specs.Term.{Term, lit, col, op2}
use Rattle.sqlite.specs.Query.{Query, inner, end}
use Rattle.sqlite.specs.Schema.{Schema}
use Rattle.sqlite_sql.specs.declared.ops.BinaryOp.TheVariants as by
use Rattle.sqlite_sql.specs.declared.ops.CompareOp.TheVariants.{Eq, Ge, Lt}
use Rattle.sqlite.specs.Source.TheVariants.{Values}
use Rattle.sqlite.specs.Command.TheVariants.{Insert, CreateTable, Begin, Commit, Select}
use Rattle.sqlite.specs.Compile.{table_defined_by}
use Rattle.sqlite.specs.Listing.{understood, reads_listing}
use Rattle.sqlite.proofs.Callers.{IsPlain, command_of, statement_of}
use Rattle.sqlite_tied.specs.Compute.{everything}
use Rattle.ibc_journal.specs.Tables.{meta, entries, no_schema, meta_schema, journal_schema}

-- ---- the tables are made

abbrev pub meta_text : List ℕ
meta_text = codes "CREATE TABLE meta(format INTEGER PRIMARY KEY, genesis BLOB NOT NULL) STRICT"

abbrev pub entries_text : List ℕ
entries_text = codes "CREATE TABLE entries(place INTEGER PRIMARY KEY, chain INTEGER NOT NULL, kind INTEGER NOT NULL, log_place INTEGER NOT NULL, event BLOB NOT NULL, answer BLOB NOT NULL, digest BLOB NOT NULL) STRICT"

pub meta_is : (command_of (understood no_schema meta_text) ≡ CreateTable) × (statement_of meta_text (understood no_schema meta_text) ≡ meta_text) × (table_defined_by meta_text ≡ Ok meta)
unfolding understood everything
meta_is = (refl, refl, refl)

pub meta_plain : IsPlain (understood no_schema meta_text)
unfolding understood everything
meta_plain = (refl, refl)

pub entries_is : (command_of (understood meta_schema entries_text) ≡ CreateTable) × (statement_of entries_text (understood meta_schema entries_text) ≡ entries_text) × (table_defined_by entries_text ≡ Ok (record entries { tree = 0 }))
unfolding understood everything
entries_is = (refl, refl, refl)

pub entries_plain : IsPlain (understood meta_schema entries_text)
unfolding understood everything
entries_plain = (refl, refl)

-- ---- rows are put in

abbrev pub beginning_text : List ℕ
beginning_text = codes "INSERT INTO meta(format, genesis) VALUES (?1, ?2)"

abbrev pub beginning_terms : List Term
beginning_terms = col 0 0 ∷ lit Null ∷ col 0 1 ∷ []

pub beginning_is : command_of (understood journal_schema beginning_text) ≡ Insert 0 (Values beginning_terms 3)
unfolding understood everything
beginning_is = refl

pub beginning_plain : IsPlain (understood journal_schema beginning_text)
unfolding understood everything
beginning_plain = (refl, refl)

abbrev pub insert_text : List ℕ
insert_text = codes "INSERT INTO entries(place, chain, kind, log_place, event, answer, digest) VALUES (?1, ?2, ?3, ?4, ?5, ?6, ?7)"

abbrev pub insert_terms : List Term
insert_terms = col 0 0 ∷ lit Null ∷ col 0 1 ∷ col 0 2 ∷ col 0 3 ∷ col 0 4 ∷ col 0 5 ∷ col 0 6 ∷ []

pub insert_is : command_of (understood journal_schema insert_text) ≡ Insert 1 (Values insert_terms 8)
unfolding understood everything
insert_is = refl

pub insert_plain : IsPlain (understood journal_schema insert_text)
unfolding understood everything
insert_plain = (refl, refl)

-- ---- transactions

abbrev pub begin_text : List ℕ
begin_text = codes "BEGIN"

pub begin_is : (schema : Schema) → command_of (understood schema begin_text) ≡ Begin
unfolding understood everything
begin_is schema = refl

pub begin_plain : (schema : Schema) → IsPlain (understood schema begin_text)
unfolding understood everything
begin_plain schema = (refl, refl)

abbrev pub commit_text : List ℕ
commit_text = codes "COMMIT"

pub commit_is : (schema : Schema) → command_of (understood schema commit_text) ≡ Commit
unfolding understood everything
commit_is schema = refl

pub commit_plain : (schema : Schema) → IsPlain (understood schema commit_text)
unfolding understood everything
commit_plain schema = (refl, refl)

-- ---- a row is read

abbrev pub select_text : List ℕ
select_text = codes "SELECT chain, kind, log_place, event, answer, digest FROM entries WHERE place = ?1"

-- the row whose rowid is the parameter
abbrev pub select_query : Query
select_query = record {
  from = inner 1 end;
  filter = op2 (by.Compare Eq Binary) (col 1 0) (col 0 0) ∷ [];
  group = None;
  project = col 1 2 ∷ col 1 3 ∷ col 1 4 ∷ col 1 5 ∷ col 1 6 ∷ col 1 7 ∷ [];
  distinct = false;
  collations = [];
  order = [];
  limit = lit (Int (negsuc 0));
  offset = lit (Int (pos 0));
}

abbrev pub select_names : List (List ℕ)
select_names = codes "chain" ∷ codes "kind" ∷ codes "log_place" ∷ codes "event" ∷ codes "answer" ∷ codes "digest" ∷ []

pub select_is : (command_of (understood journal_schema select_text) ≡ Select (record { lets = []; body = select_query }) select_names) × (reads_listing journal_schema select_text ≡ false)
unfolding understood everything
select_is = (refl, refl)

pub select_plain : IsPlain (understood journal_schema select_text)
unfolding understood everything
select_plain = (refl, refl)

-- ---- the places behind a reader

abbrev pub behind_text : List ℕ
behind_text = codes "SELECT place FROM entries WHERE place >= ?1"

-- the places of the rows whose rowid is the parameter or a later one
abbrev pub behind_query : Query
behind_query = record {
  from = inner 1 end;
  filter = op2 (by.Compare Ge Binary) (col 1 0) (col 0 0) ∷ [];
  group = None;
  project = col 1 0 ∷ [];
  distinct = false;
  collations = [];
  order = [];
  limit = lit (Int (negsuc 0));
  offset = lit (Int (pos 0));
}

pub behind_is : (command_of (understood journal_schema behind_text) ≡ Select (record { lets = []; body = behind_query }) (codes "place" ∷ [])) × (reads_listing journal_schema behind_text ≡ false)
unfolding understood everything
behind_is = (refl, refl)

pub behind_plain : IsPlain (understood journal_schema behind_text)
unfolding understood everything
behind_plain = (refl, refl)

-- ---- the places before a place

abbrev pub before_text : List ℕ
before_text = codes "SELECT place FROM entries WHERE place < ?1"

-- the places of the rows whose rowid is an earlier one than the parameter
abbrev pub before_query : Query
before_query = record {
  from = inner 1 end;
  filter = op2 (by.Compare Lt Binary) (col 1 0) (col 0 0) ∷ [];
  group = None;
  project = col 1 0 ∷ [];
  distinct = false;
  collations = [];
  order = [];
  limit = lit (Int (negsuc 0));
  offset = lit (Int (pos 0));
}

pub before_is : (command_of (understood journal_schema before_text) ≡ Select (record { lets = []; body = before_query }) (codes "place" ∷ [])) × (reads_listing journal_schema before_text ≡ false)
unfolding understood everything
before_is = (refl, refl)

pub before_plain : IsPlain (understood journal_schema before_text)
unfolding understood everything
before_plain = (refl, refl)

-- ---- the beginning is read

abbrev pub began_text : List ℕ
began_text = codes "SELECT format, genesis FROM meta"

-- each row of the first table
abbrev pub began_query : Query
began_query = record {
  from = inner 0 end;
  filter = [];
  group = None;
  project = col 1 0 ∷ col 1 2 ∷ [];
  distinct = false;
  collations = [];
  order = [];
  limit = lit (Int (negsuc 0));
  offset = lit (Int (pos 0));
}

pub began_is : (command_of (understood journal_schema began_text) ≡ Select (record { lets = []; body = began_query }) (codes "format" ∷ codes "genesis" ∷ [])) × (reads_listing journal_schema began_text ≡ false)
unfolding understood everything
began_is = (refl, refl)

pub began_plain : IsPlain (understood journal_schema began_text)
unfolding understood everything
began_plain = (refl, refl)
