-- A run of a node is its open, and then what it serves; an audit that ends well found a lawful run.
use Rattle.std.proofs.Common.{◌≡◌, ◌++◌, ℕ, List, [], length, Option, Result, Ok, Err, IfOk, OnOk, sym, ap, ◌∙◌, subst, append-nil, arith}
use Rattle.std.specs.Io.KnownBytes.{Appends}
use Rattle.sqlite.specs.State.{State, HasCleanDisk}
use Rattle.sqlite.specs.Held.{Held}
use Rattle.ibc_ids.specs.Texts.{Text}
use Rattle.ibc_journal.specs.Entries.{items_of}
use Rattle.ibc_journal.specs.Tables.{JournalItem}
use Rattle.ibc_journal.specs.Restarts.{IsAtRest}
use Rattle.ibc_node.specs.declared.auditing.JournalAudit.{JournalAudit}
use Rattle.ibc_node.specs.declared.auditing.JournalAudit.TheVariants as found
use Rattle.ibc_node.specs.declared.node.Node.{Node}
use Rattle.ibc_node.specs.Audits.{IsAuditOfJournal, IsLawfulJournal, FindsLawful}
use Rattle.ibc_node.specs.Nodes.{node_genesis, node_journal, node_waiting, with_waiting, IsGiven, GoesOnWith, HasJournal, HasKept, HasAll}
use Rattle.ibc_node_lines.specs.Audited.{TellsLawful}
use Rattle.ibc_node_lines.specs.OtherLines.{lawful_text}
use Rattle.ibc_node_lines.specs.Sessions.{HasTold}
use Rattle.ibc_node_lines.specs.Told.{resumed_text}
use Rattle.ibc_node_lines.specs.Runs.{HasServed, HasAudited}

pub has_served : {S E : Type 0} (shows : Held S → State) (genesis : Option (List ℕ)) (text : List ℕ) (items : List JournalItem) (start : Node S) (r : Result (Node S) E) (before after : Option Text)
    → (HasCleanDisk (node_journal shows start) → GoesOnWith text items start × HasJournal shows text items start) → (HasCleanDisk (node_journal shows start) → IsGiven genesis text)
    → (HasCleanDisk (node_journal shows start) → node_genesis start ≡ text) → node_waiting start ≡ []
    → (HasJournal shows text items start → HasKept text (with_waiting items start) start → IfOk r (λ node. HasCleanDisk (node_journal shows node) → HasAll shows text items node))
    → IfOk r (λ node. HasTold shows start before node after) → IfOk r (λ node. HasCleanDisk (node_journal shows node) → HasServed shows genesis text items before node after)
has_served shows genesis text items start (Ok node) before after opened given own none all told = λ clean.
    let calmer = told.tells.stays.calm in
    let calm : HasCleanDisk (node_journal shows start) = omega (arith, calmer, clean) in
    let began = opened calm in
    let whole : items ≡ items ++ items_of (node_waiting start) = sym (ap (λ w. items ++ items_of w) none ∙ append-nil items) in
    let kept : HasKept text (with_waiting items start) start = subst (λ l. HasKept text l start) whole began.0.beside in
    record {
      given = given calm;
      start = start;
      goes_on = began.0;
      log_place = told.log_place;
      lines = told.lines;
      told = told.text;
      texts = told.texts;
      written = subst (λ n. Appends before after (resumed_text n told.log_place ++ told.text)) began.0.beside.read.1 told.written;
      answers = told.tells.told text items began.1 kept clean tt;
      fair = told.fair;
      grown = told.tells.stays.grown;
      genesis_is = told.tells.stays.genesis ∙ own calm;
      all = all began.1 kept clean;
    }
has_served shows genesis text items start (Err e) before after opened given own none all told = tt

lawful_run : (text : List ℕ) (items : List JournalItem) (audit : JournalAudit) → IsAuditOfJournal text items audit → FindsLawful audit → IsLawfulJournal text items (length items)
lawful_run text items (found.Lawful entries) is lawful = subst (IsLawfulJournal text items) is.count is
lawful_run text items (found.Differs why) is lawful = absurd lawful

-- what is told is how many entries there are
lawful_told : (text : List ℕ) (items : List JournalItem) (before after : Option Text) (audit : JournalAudit) → IsAuditOfJournal text items audit → TellsLawful audit before after
    → Appends before after (lawful_text (length items))
lawful_told text items before after (found.Lawful entries) is told = subst (λ n. Appends before after (lawful_text n)) is.count told
lawful_told text items before after (found.Differs why) is told = absurd told

pub has_audited : {T E : Type 0} (genesis : Option (List ℕ)) (text : List ℕ) (items : List JournalItem) (s : State) (before after : Option Text) (audit : JournalAudit) (r : Result T E) → IsGiven genesis text
    → IsAuditOfJournal text items audit → IsAtRest s text items → OnOk r (FindsLawful audit) → OnOk r (TellsLawful audit before after) → OnOk r (HasAudited genesis text items s before after)
has_audited genesis text items s before after audit (Ok x) given is rest lawful told = record {
  given = given;
  lawful = lawful_run text items audit is lawful;
  rest = rest;
  written = lawful_told text items before after audit is told;
}
has_audited genesis text items s before after audit (Err e) given is rest lawful told = tt
