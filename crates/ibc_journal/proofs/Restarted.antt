-- What an open finds is the journal that the files hold.
use Rattle.std.proofs.Common.{◌≡◌, ℕ, List, sym, ap, subst, ◌∙◌}
use Rattle.std.specs.Prelude.{IsTrue}
use Rattle.sqlite.specs.Recovery.{Image}
use Rattle.sqlite.specs.Effect.{Database}
use Rattle.sqlite.specs.State.{State, Opens}
use Rattle.sqlite.specs.Tree.{Trees}
use Rattle.sqlite.specs.Store.{Ghosts}
use Rattle.sqlite.specs.Held.{Held, state}
use Rattle.sqlite.specs.Start.{FindsIn}
use Rattle.ibc_journal.specs.Tables.{JournalItem, HasRows, IsJournal}
use Rattle.ibc_journal.specs.Crashes.{Lasts}
use Rattle.ibc_journal.specs.Restarts.{IsAtRest, FindsJournal}

pub finds_journal : (image : Image) (s : State) → Opens s → FindsIn image s → FindsJournal image s
finds_journal image s opens finds genesis items holds schema =
    let trees : holds.db ≡ s.now.trees = sym (ap (λ (d : Database). d.trees) opens.clean ∙ finds.holds holds.db holds.holds) in
    record {
      journal = record { schema = schema; rows = subst (HasRows genesis items) trees holds.rows };
      seen = opens.clean;
      outside = opens.autocommit;
      is_open = opens.is_open;
    }

-- ---- a crash

-- while a connection is open, a crash leaves what is committed, and nothing else
pub lasts_committed : {S : Type 0} (g : Ghosts S) → ((s : S) (db : Trees) → IsTrue (g.view s).is_open → g.recovers s db → db ≡ (g.view s).committed)
    → (conn : Held S) (genesis : List ℕ) (items : List JournalItem) → IsTrue (state g conn).is_open → IsJournal (state g conn).committed genesis items → Lasts (state g conn) genesis items
lasts_committed g settled conn genesis items live has trees may = subst (HasRows genesis items) (sym (settled conn.store trees live may)) has.rows

-- what is at rest lasts
pub lasts_at_rest : {S : Type 0} (g : Ghosts S) → ((s : S) (db : Trees) → IsTrue (g.view s).is_open → g.recovers s db → db ≡ (g.view s).committed)
    → (conn : Held S) (genesis : List ℕ) (items : List JournalItem) → IsAtRest (state g conn) genesis items → Lasts (state g conn) genesis items
lasts_at_rest g settled conn genesis items rest = lasts_committed g settled conn genesis items rest.is_open (subst (λ (d : Database). IsJournal d genesis items) rest.seen rest.journal)
