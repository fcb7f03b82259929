-- What an open gives, put together of what its calls give.
use Rattle.std.proofs.Common.{◌≡◌, ◌⊎◌, inl, inr, ℕ, ◌≤◌, List, [], ◌∷◌, length, Ok, Err, Result, IfOk, OnOk, sym, ap, ◌∙◌, subst, arith}
use Rattle.std.specs.Prelude.{IsTrue}
use Rattle.std.specs.List.{AllZip}
use Rattle.sqlite.specs.Recovery.{Image}
use Rattle.sqlite.specs.Effect.{Database, IsDatabase}
use Rattle.sqlite.specs.State.{State, Opens, IsLive}
use Rattle.sqlite.specs.Start.{FindsIn}
use Rattle.sqlite.specs.Schema.{Schema}
use Rattle.ibc_machine.specs.declared.entry.Entry.{Entry}
use Rattle.ibc_machine.specs.chain.Genesis.{GenesisState, genesis_state, is_allowed}
use Rattle.ibc_machine.specs.declared.genesis.Genesis.{Genesis}
use Rattle.ibc_script.specs.ScriptValues.{IsScriptText, content_of}
use Rattle.ibc_script.specs.declared.script.Script.{Script}
use Rattle.ibc_journal.specs.Tables.{no_schema, journal_schema, JournalItem}
use Rattle.ibc_journal.specs.Restarts.{IsAtRest}
use Rattle.ibc_journal.proofs.Restarted.{finds_journal}
use Rattle.ibc_refinement.specs.World.{WorldState}
use Rattle.ibc_replay.specs.Replays.{IsBeginning, GoesOnAsStored}
use Rattle.ibc_node.specs.Kept.{IsKeptAs, ReplaysOne}
use Rattle.ibc_node.specs.Nodes.{HoldsWholeJournal, IsGenesisText}

pub genesis_text : {E : Type 0} (text : List ℕ) (script : Script) (r : Result Genesis E) → IsScriptText text (content_of script) → IfOk r (λ g. genesis_state g ≡ genesis_state script.genesis)
    → OnOk r (script.steps.items ≡ []) → IfOk r (λ g. IsGenesisText text (genesis_state g))
genesis_text text script (Ok g) is begins no_steps = record { content = content_of script; is = is; no_steps = no_steps; begins = sym begins }
genesis_text text script (Err e) is begins no_steps = tt

-- a fact that holds whatever was answered
pub rests_on : {A E : Type 0} {P : Type 0} (r : Result A E) → P → OnOk r P
rests_on (Ok a) p = p
rests_on (Err e) p = tt

-- no table is no journal
pub no_journal_is_empty : no_schema ≡ journal_schema → ⊥
no_journal_is_empty same = let none : 0 ≡ 2 = ap (λ (s : Schema). length s.tables) same in absurd (omega (arith, none))

pub world_of_text : {E : Type 0} (text : List ℕ) (genesis : GenesisState) (r : Result WorldState E) → IsGenesisText text genesis → IfOk r (IsBeginning genesis) → OnOk r (IsTrue (is_allowed genesis))
    → IfOk r (λ world. (it : GenesisState) × IsGenesisText text it × IsBeginning it world × IsTrue (is_allowed it))
world_of_text text genesis (Ok world) is begins allowed = (genesis, is, begins, allowed)
world_of_text text genesis (Err e) is begins allowed = tt

-- the entry that is kept so was put to the world
pub replays_one : {A E : Type 0} (old new : WorldState) (entry : Entry) (it : JournalItem) (r : Result A E) → IsKeptAs entry it → OnOk r (GoesOnAsStored old (entry ∷ []) new) → OnOk r (ReplaysOne old it new)
replays_one old new entry it (Ok done) kept goes = record { entry = entry; kept = kept; goes_on = goes }
replays_one old new entry it (Err e) kept goes = tt

-- what is clean behind a call was clean before it
pub calm_ok : {A E : Type 0} (r : Result A E) (before : ℕ) (after : A → ℕ) → IfOk r (λ a. before ≤ after a) → IfOk r (λ a. after a ≡ 0 → before ≡ 0)
calm_ok (Ok a) before after le = λ none. omega (arith, le, none)
calm_ok (Err e) before after le = tt

pub calm_before : (before after : ℕ) → before ≤ after → after ≡ 0 → before ≡ 0
calm_before before after le none = omega (arith, le, none)

-- two facts of an answer
pub ok_both : {A E : Type 0} (r : Result A E) (P Q : A → Type 0) → IfOk r P → IfOk r Q → IfOk r (λ a. P a × Q a)
ok_both (Ok a) P Q p q = (p, q)
ok_both (Err e) P Q p q = tt

-- A fact of an answer where all is clean behind the call, known of what was clean before it.
pub one_known : {A E : Type 0} (r : Result A E) (Which Known WasClean : Type 0) (Clean P : A → Type 0) → OnOk r Which → IfOk r (λ a. Clean a → WasClean) → (WasClean → Which → Known)
    → (Known → IfOk r (λ a. Clean a → P a)) → IfOk r (λ a. Clean a → P a)
one_known (Ok a) Which Known WasClean Clean P which calm known one = λ clean. one (known (calm clean) which) clean
one_known (Err e) Which Known WasClean Clean P which calm known one = tt

-- Two facts of an answer where all is clean behind the call, each known of what was clean before it.
pub both_known : {A E : Type 0} (r : Result A E) (Which Known WasClean : Type 0) (Clean P Q : A → Type 0) → OnOk r Which → IfOk r (λ a. Clean a → WasClean) → (WasClean → Which → Known)
    → (Known → IfOk r (λ a. Clean a → P a)) → (Known → IfOk r (λ a. Clean a → Q a)) → IfOk r (λ a. Clean a → P a × Q a)
both_known (Ok a) Which Known WasClean Clean P Q which calm known one other = λ clean. let it = known (calm clean) which in (one it clean, other it clean)
both_known (Err e) Which Known WasClean Clean P Q which calm known one other = tt

-- An answer that came of one thing or another. Of the first it is known what it is once the first is known, and that is so where all was clean.
pub either_ok : {A E : Type 0} (r : Result A E) (One Other Known WasClean : Type 0) (Clean P Q : A → Type 0) → OnOk r (One ⊎ Other) → IfOk r (λ a. Clean a → WasClean) → (WasClean → One → Known)
    → (Known → IfOk r (λ a. Clean a → P a)) → (Other → IfOk r Q) → IfOk r (λ a. Clean a → P a ⊎ Q a)
either_ok (Ok a) One Other Known WasClean Clean P Q which calm known one other = λ clean. elim which [
  | inl it ↦ inl (one (known (calm clean) it) clean)
  | inr it ↦ inr (other it)
]
either_ok (Err e) One Other Known WasClean Clean P Q which calm known one other = tt

-- ---- what files hold

no_table_listed : {A B : Type 0} (P Q : A → B → Type 0) (rows : List A) (t : B) (ts : List B) → AllZip P rows [] → AllZip Q rows (t ∷ ts) → ⊥
no_table_listed P Q [] t ts none some = some
no_table_listed P Q (row ∷ rows) t ts none some = none

-- no sound database with the trees of a journal has no table
pub has_tables : (found db : Database) → found.trees ≡ db.trees → IsDatabase found → IsDatabase db → found.schema ≡ no_schema → db.schema ≡ journal_schema → ⊥
has_tables found db same found_sound sound none tables =
    let empty : IsDatabase (record { schema = no_schema; trees = db.trees }) =
    subst (λ trees. IsDatabase (record { schema = no_schema; trees = trees })) same (subst (λ schema. IsDatabase (record { schema = schema; trees = found.trees })) none found_sound) in
    let full : IsDatabase (record { schema = journal_schema; trees = db.trees }) = subst (λ schema. IsDatabase (record { schema = schema; trees = db.trees })) tables sound in
    no_table_listed _ _ _ _ _ empty.lists.listed.tables full.lists.listed.tables

-- what the files hold of a journal is what an open finds
pub found_at_rest : (image : Image) (s : State) (text : List ℕ) (items : List JournalItem) → Opens s → IsLive s → FindsIn image s → HoldsWholeJournal image text items
    → (s.now.schema ≡ journal_schema) ⊎ (s.now.schema ≡ no_schema) → IsAtRest s text items
found_at_rest image s text items opens live finds holds which =
    let same : s.now.trees ≡ holds.db.trees = ap (λ (d : Database). d.trees) opens.clean ∙ finds.holds holds.db.trees holds.holds in
    elim which [
      | inl tables ↦ finds_journal image s opens finds text items (record { db = holds.db.trees; holds = holds.holds; rows = holds.journal.rows }) tables
      | inr none ↦ absurd (has_tables s.now holds.db same (live opens.is_open).0 holds.sound none holds.journal.schema)
    ]
