-- Entries are marked one after another.
use Rattle.std.proofs.Common.{◌≡◌, ℕ, zero, suc, ◌+◌, ◌<◌, List, [], ◌∷◌, ◌++◌, length, take, slice_get, Some, refl, sym, ap, ◌∙◌, subst, append-nil, append_assoc, arith, take_all}
use Rattle.std.specs.List.{AllByRecursion}
use Rattle.std.proofs.lemmas.List.{take_more, length-take-le}
use Rattle.std.proofs.lemmas.Option.{slice_get_within, get_or_from_slice_get}
use Rattle.ibc_journal.specs.declared.cursor.Cursor.{Cursor}
use Rattle.ibc_journal.specs.Digests.{HasReadTo}
use Rattle.ibc_journal.specs.Tables.{JournalItem}
use Rattle.ibc_node.specs.declared.reading.LogMark.{LogMark}
use Rattle.ibc_machine.specs.declared.event.Event.{Event}
use Rattle.ibc_refinement.specs.World.{WorldState}
use Rattle.ibc_node.specs.declared.node.KeptAnswer.{KeptAnswer}
use Rattle.ibc_node.specs.Marks.{marks_by, marks_at, marks_from}
use Rattle.ibc_node.specs.Nodes.{IsTold}

-- ---- one mark

pub marked_none : (marks : List LogMark) (log_place place : ℕ) → log_place ≡ 0 → marks ≡ marks ++ marks_by log_place place
marked_none marks log_place place none = subst (λ n. marks ≡ marks ++ marks_by n place) (sym none) (sym (append-nil marks))

one_mark : (log_place place : ℕ) → 0 < log_place → marks_by log_place place ≡ (record { log_place = log_place; place = place }) ∷ []
one_mark zero place low = absurd (omega arith)
one_mark (suc before) place low = refl

pub marked_one : (marks new : List LogMark) (log_place place : ℕ) → 0 < log_place → new ≡ marks ++ (record { log_place = log_place; place = place }) ∷ [] → new ≡ marks ++ marks_by log_place place
marked_one marks new log_place place low is = is ∙ ap (λ (l : List LogMark). marks ++ l) (sym (one_mark log_place place low))

-- ---- the marks of a list

pub marks_from-append : (n : ℕ) (items : List JournalItem) (it : JournalItem) → marks_from n (items ++ it ∷ []) ≡ marks_from n items ++ marks_by it.log_place (n + length items)
marks_from-append n [] it =
    let here : n ≡ n + 0 = omega arith in
    append-nil (marks_by it.log_place n) ∙ ap (marks_by it.log_place) here
marks_from-append n (first ∷ items) it =
    let own = marks_by first.log_place n in
    let behind : (n + 1) + length items ≡ n + length (first ∷ items) = omega arith in
    ap (λ (l : List LogMark). own ++ l) (marks_from-append (n + 1) items it)
    ∙ sym (append_assoc own (marks_from (n + 1) items) (marks_by it.log_place ((n + 1) + length items)))
    ∙ ap (λ k. (own ++ marks_from (n + 1) items) ++ marks_by it.log_place k) behind

-- one entry more is read
pub marks_more : (items : List JournalItem) (place after : ℕ) (old new : List LogMark) (it : JournalItem) → old ≡ marks_from 0 (take place items) → Some it ≡ slice_get items place
    → new ≡ old ++ marks_by it.log_place place → after ≡ place + 1 → new ≡ marks_from 0 (take after items)
marks_more items place after old new it so_far there grown next =
    let low = slice_get_within items place it (sym there) in
    let front : take (place + 1) items ≡ take place items ++ it ∷ [] = take_more items place it low ∙ ap (λ x. take place items ++ x ∷ []) (get_or_from_slice_get items place it it (sym there)) in
    let short = length-take-le place items (omega (arith, low)) in
    let here : place ≡ 0 + length (take place items) = omega (arith, short) in
    grown
    ∙ ap (λ (l : List LogMark). l ++ marks_by it.log_place place) so_far
    ∙ ap (λ k. marks_from 0 (take place items) ++ marks_by it.log_place k) here
    ∙ sym (marks_from-append 0 (take place items) it)
    ∙ ap (marks_from 0) (sym front)
    ∙ ap (λ n. marks_from 0 (take n items)) (sym next)

-- before the first entry none is marked
pub nothing_marked : (genesis : List ℕ) (items : List JournalItem) (end : Cursor) (marks : List LogMark) → marks ≡ [] → HasReadTo genesis [] end → marks ≡ marks_from 0 (take end.place items)
nothing_marked genesis items end marks empty none =
    let first : end.place ≡ 0 = omega (arith, none.within) in
    subst (λ n. marks ≡ marks_from 0 (take n items)) (sym first) empty

-- behind the last entry all are marked
pub all_marked : (marks : List LogMark) (items : List JournalItem) (place : ℕ) → place ≡ length items → marks ≡ marks_from 0 (take place items) → marks ≡ marks_from 0 items
all_marked marks items place is so_far = subst (λ l. marks ≡ marks_from 0 l) (take_all place items (omega (arith, is))) so_far

-- what waits of an event is marked
pub marked_more : (log_place : ℕ) (items more : List JournalItem) (old new : List LogMark) (world : WorldState) (event : Event) (place : ℕ) (answer : KeptAnswer) → place ≡ length items
    → IsTold world event place answer more → AllByRecursion (λ it. it.log_place ≡ log_place) more → new ≡ old ++ marks_at log_place answer.place → old ≡ marks_from 0 items → new ≡ marks_from 0 (items ++ more)
marked_more log_place items [] old new world event place answer is told by marked so_far =
    marked ∙ ap (λ p. old ++ marks_at log_place p) told.0 ∙ append-nil old ∙ so_far ∙ ap (marks_from 0) (sym (append-nil items))
marked_more log_place items (it ∷ its) old new world event place answer is told by marked so_far =
    let here : place ≡ 0 + length items = omega (arith, is) in
    marked
    ∙ ap (λ p. old ++ marks_at log_place p) told.0
    ∙ ap (λ k. old ++ marks_by k place) (sym by.0)
    ∙ ap (λ (l : List LogMark). l ++ marks_by it.log_place place) so_far
    ∙ ap (λ n. marks_from 0 items ++ marks_by it.log_place n) here
    ∙ sym (marks_from-append 0 items it)
    ∙ ap (λ (l : List JournalItem). marks_from 0 (items ++ it ∷ l)) (sym told.1)
