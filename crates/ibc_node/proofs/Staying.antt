-- What a node keeps, call by call.
use Rattle.std.proofs.Common.{◌≡◌, ℕ, ◌≤◌, List, [], ◌++◌, refl, sym, ap, ◌∙◌, subst, append-nil, append_assoc, arith}
use Rattle.sqlite.specs.State.{State, HasCleanDisk}
use Rattle.sqlite.specs.View.{doubt}
use Rattle.sqlite.specs.Held.{Held}
use Rattle.ibc_machine.specs.declared.event.Event.{Event}
use Rattle.ibc_machine.specs.declared.entry.Entry.{Entry}
use Rattle.ibc_refinement.specs.World.{WorldState, kept_entries}
use Rattle.ibc_journal.specs.Entries.{items_of}
use Rattle.ibc_journal.specs.Crashes.{Lasts}
use Rattle.ibc_journal.specs.Restarts.{IsAtRest}
use Rattle.ibc_journal.specs.Tables.{JournalItem}
use Rattle.ibc_node.specs.declared.node.KeptAnswer.{KeptAnswer}
use Rattle.ibc_node.specs.declared.node.Node.{Node}
use Rattle.ibc_node.specs.Marks.{marks_at, node_marks, IsMarked}
use Rattle.ibc_node.specs.Nodes.{IsBeside, node_connection, node_journal, node_world, node_end, node_genesis, node_waiting, with_waiting, HasJournal, HasKept, HasGrown, TakesEvent, StaysBeside, HasAll}
use Rattle.ibc_node.proofs.Marked.{marked_more}

pub grown_same : (old new : WorldState) → new ≡ old → HasGrown old new
grown_same old new same = record { genesis = ap (λ (w : WorldState). w.genesis) same; more = []; kept = ap kept_entries same ∙ sym (append-nil (kept_entries old)) }

grown_on : (a b c : WorldState) → HasGrown a b → HasGrown b c → HasGrown a c
grown_on a b c one two = record {
  genesis = two.genesis ∙ one.genesis;
  more = one.more ++ two.more;
  kept = two.kept ∙ ap (λ (l : List Entry). l ++ two.more) one.kept ∙ append_assoc (kept_entries a) one.more two.more;
}

module _ {S : Type 0} (shows : Held S → State) where
  pub keeps_same : (node : Node S) → StaysBeside shows node node
  keeps_same node = record {
    calm = omega arith;
    grown = grown_same (node_world node) (node_world node) refl;
    genesis = refl;
    keeps = λ text items rest kept clean. (
      [],
      subst (λ l. HasJournal shows text l node) (sym (append-nil items)) rest,
      subst (λ l. HasKept text (with_waiting l node) node) (sym (append-nil items)) kept,
      λ marked. subst (λ l. IsMarked (with_waiting l node) node) (sym (append-nil items)) marked,
    );
  }

  pub keeps_on : (a b c : Node S) → StaysBeside shows a b → StaysBeside shows b c → StaysBeside shows a c
  keeps_on a b c one two =
      let calmer = one.calm in
      let calmest = two.calm in
      record {
        calm = omega (arith, calmer, calmest);
        grown = grown_on (node_world a) (node_world b) (node_world c) one.grown two.grown;
        genesis = two.genesis ∙ one.genesis;
        keeps = λ text items rest kept clean.
            let calm : HasCleanDisk (node_journal shows b) = omega (arith, calmest, clean) in
            let mid = one.keeps text items rest kept calm in
            let end = two.keeps text (items ++ mid.0) mid.1 mid.2 clean in
            let behind = append_assoc items mid.0 end.0 in (
              mid.0 ++ end.0,
              subst (λ l. HasJournal shows text l c) behind end.1,
              subst (λ l. HasKept text (with_waiting l c) c) behind end.2,
              λ marked. subst (λ l. IsMarked (with_waiting l c) c) behind (end.3 (mid.3 marked)),
            );
      }

  -- an event was asked for: what it adds waits
  pub keeps_taken : (old new : Node S) (log_place : ℕ) (event : Event) (answer : KeptAnswer) → node_connection new ≡ node_connection old
      → ((text : List ℕ) (items : List JournalItem) → HasKept text items old → TakesEvent log_place text items old event answer new)
      → node_marks new ≡ node_marks old ++ marks_at log_place answer.place → HasGrown (node_world old) (node_world new) → node_genesis new ≡ node_genesis old → StaysBeside shows old new
  keeps_taken old new log_place event answer same takes marks grown genesis = record {
    calm = subst (λ conn. doubt (shows (node_connection old)).is_clean ≤ doubt (shows conn).is_clean) (sym same) (omega arith);
    grown = grown;
    genesis = genesis;
    keeps = λ text items rest kept clean.
        let taken = takes text (with_waiting items old) kept in
        let all : (items ++ items_of (node_waiting old)) ++ taken.more ≡ (items ++ []) ++ items_of (node_waiting new) =
        append_assoc items (items_of (node_waiting old)) taken.more ∙ ap (λ l. items ++ l) (sym taken.waits) ∙ ap (λ l. l ++ items_of (node_waiting new)) (sym (append-nil items)) in (
          [],
          subst (λ l. HasJournal shows text l new) (sym (append-nil items)) (subst (λ conn. IsAtRest (shows conn) text items) (sym same) rest),
          subst (λ l. IsBeside text (node_world new) l (node_end new)) all taken.beside,
          λ marked. subst (λ l. IsMarked l new) all
              (marked_more log_place (with_waiting items old) taken.more (node_marks old) (node_marks new) (node_world old) event (node_end old).place answer kept.read.1 taken.told taken.by marks marked),
        );
  }

  -- what waited is put in
  pub keeps_settled : (old new : Node S) → doubt (node_journal shows old).is_clean ≤ doubt (node_journal shows new).is_clean
      → ((text : List ℕ) (items : List JournalItem) → HasJournal shows text items old → HasKept text (with_waiting items old) old → HasCleanDisk (node_journal shows new)
      → HasJournal shows text (with_waiting items old) new)
      → node_waiting new ≡ [] → node_world new ≡ node_world old → node_end new ≡ node_end old → node_marks new ≡ node_marks old → node_genesis new ≡ node_genesis old → StaysBeside shows old new
  keeps_settled old new calm settles none world end marks genesis = record {
    calm = calm;
    grown = grown_same (node_world old) (node_world new) world;
    genesis = genesis;
    keeps = λ text items rest kept clean.
        let all : items ++ items_of (node_waiting old) ≡ (items ++ items_of (node_waiting old)) ++ items_of (node_waiting new) =
        sym (append-nil (items ++ items_of (node_waiting old))) ∙ ap (λ w. (items ++ items_of (node_waiting old)) ++ items_of w) (sym none) in (
          items_of (node_waiting old),
          settles text items rest kept clean,
          subst (λ l. IsBeside text (node_world new) l (node_end new)) all
              (subst (λ w. IsBeside text w (items ++ items_of (node_waiting old)) (node_end new)) (sym world)
              (subst (λ e. IsBeside text (node_world old) (items ++ items_of (node_waiting old)) e) (sym end) kept)),
          λ marked. subst (λ l. IsMarked l new) all (marks ∙ marked),
        );
  }

  -- where nothing waits the journal has all
  pub has_all : (old new : Node S) (text : List ℕ) (items : List JournalItem) → StaysBeside shows old new → node_waiting new ≡ []
      → ((its : List JournalItem) → HasJournal shows text its new → Lasts (node_journal shows new) text its) → HasJournal shows text items old → HasKept text (with_waiting items old) old
      → HasCleanDisk (node_journal shows new) → HasAll shows text items new
  has_all old new text items stays none lasts rest kept clean =
      let now = stays.keeps text items rest kept clean in
      record {
        more = now.0;
        journal = now.1;
        lasts = lasts (items ++ now.0) now.1;
        kept = subst (λ l. HasKept text l new) (ap (λ w. (items ++ now.0) ++ items_of w) none ∙ append-nil (items ++ now.0)) now.2;
        none = none;
      }
