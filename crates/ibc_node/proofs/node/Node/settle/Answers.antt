-- What waits is put in, and then the journal has all that the world keeps.
use Rattle.std.proofs.Common.{◌≡◌, ◌+◌, ◌<◌, ◌++◌, [], length, refl, sym, ap, ◌∙◌, subst, append-nil}
use Rattle.sqlite.specs.State.{Survives}
use Rattle.sqlite.specs.Held.{state}
use Rattle.sqlite.proofs.StateLemmas.{survives_weaker}
use Rattle.ibc_journal.specs.Entries.{items_of}
use Rattle.ibc_journal.specs.Crashes.{KeepsCommitted, LeavesWith}
use Rattle.ibc_journal.specs.Restarts.{IsAtRest}
use Rattle.ibc_journal.specs.Tables.{IsJournal}
use Rattle.ibc_journal.proofs.Restarted.{lasts_at_rest}
use Rattle.ibc_journal.proofs.Transactions.{on_error}
use Rattle.ibc_journal.proofs.Whole.{survives_same}
use Rattle.ibc_node.proofs.Beside.{first_behind, none_among, no_more_wait, at_rest_with, leaves_waiting}
use Rattle.ibc_node.proofs.Staying.{keeps_same, keeps_settled}
use Rattle.ibc_node.proofs.node.Node.settle.Goals as goal

pub returns-then-is_empty-clause-committed : goal.returns-then-is_empty-clause-committed
returns-then-is_empty-clause-committed g c genesis items rest beside clean =
    let was = c.args.self.now in
    let none : was.waiting.items ≡ [] = sym c.as_slice-waiting.ensures.value ∙ none_among c.as_slice-waiting.result.now (sym c.is_empty.ensures ∙ c.if-is_empty.true) in
    subst (IsAtRest (state g.S.Store was.conn) genesis) (sym (ap (λ w. items ++ items_of w) none ∙ append-nil items)) rest

pub returns-then-is_empty-clause-none : goal.returns-then-is_empty-clause-none
returns-then-is_empty-clause-none g c = sym c.as_slice-waiting.ensures.value ∙ none_among c.as_slice-waiting.result.now (sym c.is_empty.ensures ∙ c.if-is_empty.true)

pub returns-then-is_empty-clause-crash : goal.returns-then-is_empty-clause-crash
returns-then-is_empty-clause-crash g c = survives_same (state g.S.Store c.args.self.now.conn) _

pub returns-in_default-clause-crash : goal.returns-in_default-clause-crash
returns-in_default-clause-crash g c = survives_same (state g.S.Store c.args.self.now.conn) _

pub returns-clause-committed : goal.returns-clause-committed
returns-clause-committed g c genesis items rest beside clean =
    let was = c.args.self.now in
    let new = state g.S.Store c.append.new.conn in
    let value = c.as_slice-waiting.ensures.value in
    let counts : was.end.place ≡ c.in-Some.first + length was.waiting.items = sym (ap (λ w. c.in-Some.first + length w) (sym value) ∙ c.in-Some.ensures.place) in
    let at = first_behind genesis was.world items was.waiting.items was.end c.in-Some.first beside counts in
    at_rest_with new genesis (items ++ items_of was.waiting.items)
    (subst (λ w. IsJournal new.committed genesis (items ++ items_of w)) value (c.in_ok-append.ensures.committed genesis items rest.journal at clean)) (c.in_ok-append.ensures.seen clean) (c.in_ok-append.ensures.outside clean)
    (c.in_ok-append.ensures.is_open clean)

pub returns-clause-crash : goal.returns-clause-crash
returns-clause-crash g c =
    let was = c.args.self.now in
    let old = state g.S.Store was.conn in
    let new = state g.S.Store c.append.new.conn in
    let value = c.as_slice-waiting.ensures.value in
    let counts : was.end.place ≡ c.in-Some.first + length was.waiting.items = sym (ap (λ w. c.in-Some.first + length w) (sym value) ∙ c.in-Some.ensures.place) in
    survives_weaker old new _ _ (λ clean db may. leaves_waiting old was.world was.waiting.items was.end c.in-Some.first counts db may)
    (subst (λ w. Survives old new (LeavesWith old c.in-Some.first (items_of w))) value c.append.ensures.crash)

pub returns-in_err-append-clause-crash : goal.returns-in_err-append-clause-crash
returns-in_err-append-clause-crash g c =
    let was = c.args.self.now in
    let old = state g.S.Store was.conn in
    let new = state g.S.Store c.append.new.conn in
    let value = c.as_slice-waiting.ensures.value in
    let counts : was.end.place ≡ c.in-Some.first + length was.waiting.items = sym (ap (λ w. c.in-Some.first + length w) (sym value) ∙ c.in-Some.ensures.place) in
    survives_weaker old new _ _ (λ clean db may. leaves_waiting old was.world was.waiting.items was.end c.in-Some.first counts db may)
    (subst (λ w. Survives old new (LeavesWith old c.in-Some.first (items_of w))) value c.append.ensures.crash)

pub returns-then-is_empty-clause-keeps : goal.returns-then-is_empty-clause-keeps
returns-then-is_empty-clause-keeps g c = keeps_same (state g.S.Store) c.args.self.now

pub returns-clause-keeps : goal.returns-clause-keeps
returns-clause-keeps g c = keeps_settled (state g.S.Store) c.args.self.now _ c.append.ensures.crash.clean (returns-clause-committed g c) c.clear.ensures.items refl refl refl refl

pub returns-then-is_empty-clause-lasts : goal.returns-then-is_empty-clause-lasts
returns-then-is_empty-clause-lasts g c genesis items rest beside clean =
    let was = c.args.self.now in
    lasts_at_rest g.S.Store g.met.S.Store.settled was.conn genesis (items ++ items_of was.waiting.items) (returns-then-is_empty-clause-committed g c genesis items rest beside clean)

pub returns-clause-lasts : goal.returns-clause-lasts
returns-clause-lasts g c genesis items rest beside clean =
    lasts_at_rest g.S.Store g.met.S.Store.settled c.append.new.conn genesis (items ++ items_of c.args.self.now.waiting.items) (returns-clause-committed g c genesis items rest beside clean)

pub returns-in_default-clause-refused : goal.returns-in_default-clause-refused
returns-in_default-clause-refused g c genesis items rest beside clean live = refl

pub returns-in_err-append-clause-refused : goal.returns-in_err-append-clause-refused
returns-in_err-append-clause-refused g c genesis items rest beside clean =
    let was = c.args.self.now in
    let value = c.as_slice-waiting.ensures.value in
    let counts : was.end.place ≡ c.in-Some.first + length was.waiting.items = sym (ap (λ w. c.in-Some.first + length w) (sym value) ∙ c.in-Some.ensures.place) in
    let at = first_behind genesis was.world items was.waiting.items was.end c.in-Some.first beside counts in
    let kept : KeepsCommitted (state g.S.Store was.conn) (state g.S.Store c.append.new.conn) = c.in_err-append.ensures.none genesis items rest.journal at clean in
    on_error _ _ kept

pub returns-in_default-clause-faults : goal.returns-in_default-clause-faults
returns-in_default-clause-faults g c genesis items beside =
    let was = c.args.self.now in
    let more : was.end.place < length was.waiting.items = subst (λ w. was.end.place < length w) c.as_slice-waiting.ensures.value c.in_default.ensures.none in
    absurd (no_more_wait genesis was.world items was.waiting.items was.end beside more)
