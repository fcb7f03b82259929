-- A row that is read by its place is the entry at it.
use Rattle.std.proofs.Common.{Greater, Equal, ◌≡◌, ℕ, zero, suc, ◌+◌, ◌<◌, ◌≤◌, inl, inr, pos, ◌<ℤ◌, List, [], ◌∷◌, ◌++◌, length, map, codes, slice_get, Bool, true, false, cond, Option, Some, None, refl, sym, ap, subst, ◌∙◌, arith}
use Rattle.std.proofs.Math.Facts.{yes_ltb}
use Rattle.std.specs.Prelude.{if◌then◌else◌}
use Rattle.std.proofs.lemmas.Bool.{cases_lt}
use Rattle.std.specs.Int.Signed.{lt_z_yes}
use Rattle.std.specs.Cmp.{int_cmp_is}
use Rattle.std.specs.Ordering.{is_eq, is_ge, is_lt}
use Rattle.std.specs.List.{flat_map, list_all}
use Rattle.std.specs.List.Sorted.{IsPermutation}
use Rattle.std.proofs.lemmas.List.Sorted.{length_permutation}
use Rattle.sqlite.specs.declared.types.Value.TheVariants.{Null, Int}
use Rattle.sqlite.specs.Order.{Row, value_cmp}
use Rattle.sqlite.specs.Ops.{binary, is_true, from_truth}
use Rattle.sqlite.specs.Term.{Env, holds}
use Rattle.sqlite.specs.Query.{IsAnswerAs, Output, output, page}
use Rattle.sqlite.specs.Program.{overlay}
use Rattle.sqlite.specs.Command.TheVariants.{Select}
use Rattle.sqlite.specs.Tree.{Trees}
use Rattle.sqlite.specs.Listing.{understood}
use Rattle.sqlite.specs.Clock.{timed}
use Rattle.sqlite.specs.State.{State, IsUnchanged, Shown, ShowsRows, CommitsShowing}
use Rattle.sqlite.proofs.Callers.{IsPlain, reads_as, one_permutation, never_commits}
use Rattle.sqlite_value.proofs.OrderLemmas.{value_cmp-Int}
use Rattle.ibc_journal.specs.Tables.{journal_schema, JournalItem, beginning_row, row_at, rows_from, IsJournal}
use Rattle.ibc_journal.specs.Shown.{shown_row, shown_rows, shown_beginning}
use Rattle.ibc_journal.specs.Crashes.{LeavesNothing}
use Rattle.ibc_journal.proofs.Statements.{select_text, select_query, select_names, select_is, select_plain, behind_text, behind_query, behind_is, behind_plain, before_text, before_query, before_is, before_plain, began_text, began_query, began_is, began_plain}
use Rattle.ibc_journal.proofs.Parts.{below}

abbrev pub params_at : ℕ → Row
params_at n = Int (pos n) ∷ []

same_place : (n : ℕ) → is_eq (value_cmp (Int (pos n)) (Int (pos n))) ≡ true
same_place n = ap is_eq (value_cmp-Int (pos n) (pos n) ∙ sym (int_cmp_is (pos n) (pos n) Equal refl))

lower_place : (p n : ℕ) → p < n → is_eq (value_cmp (Int (pos p)) (Int (pos n))) ≡ false
lower_place p n lt = ap is_eq (below p n lt)

higher_place : (p n : ℕ) → n < p → is_eq (value_cmp (Int (pos p)) (Int (pos n))) ≡ false
higher_place p n lt =
    let greater : pos n <ℤ pos p = lt_z_yes (yes_ltb lt) in
    ap is_eq (value_cmp-Int (pos p) (pos n) ∙ sym (int_cmp_is (pos p) (pos n) Greater greater))

-- what the query keeps of a row
abbrev kept : ℕ → Row → List Env
kept n r = if list_all (holds (params_at n ∷ r ∷ [])) select_query.filter then (params_at n ∷ r ∷ []) ∷ [] else []

kept_if : (n : ℕ) (r : Row) (b : Bool) → cond (list_all (λ (x : Bool). x) (is_true (from_truth (Some b)) ∷ [])) ((params_at n ∷ r ∷ []) ∷ []) [] ≡ cond b ((params_at n ∷ r ∷ []) ∷ []) []
kept_if n r true = refl
kept_if n r false = refl

kept_by : (n p : ℕ) (it : JournalItem) (b : Bool) → is_eq (value_cmp (Int (pos p)) (Int (pos n))) ≡ b → kept n (row_at p it) ≡ cond b ((params_at n ∷ row_at p it ∷ []) ∷ []) []
unfolding binary
kept_by n p it b is =
    ap (λ (t : Bool). cond (list_all (λ (x : Bool). x) (is_true (from_truth (Some t)) ∷ [])) ((params_at n ∷ row_at p it ∷ []) ∷ []) []) is ∙ kept_if n (row_at p it) b

-- of rows with later places it keeps none
found_before : (n from : ℕ) (its : List JournalItem) → n < from → flat_map (kept n) (rows_from from its) ≡ []
found_before n from [] low = refl
found_before n from (i ∷ its) low =
    ap (λ l. l ++ flat_map (kept n) (rows_from (from + 1) its)) (kept_by n from i false (higher_place from n low)) ∙ found_before n (from + 1) its (omega arith)

abbrev envs_of : ℕ → Option JournalItem → List Env
envs_of n None = []
envs_of n (Some it) = (params_at n ∷ row_at n it ∷ []) ∷ []

-- of all rows it keeps the one at the place, if there is one
found_at : (n from k : ℕ) (its : List JournalItem) → n ≡ from + k → flat_map (kept n) (rows_from from its) ≡ envs_of n (slice_get its k)
found_at n from k [] is = refl
found_at n from zero (i ∷ its) is =
    let same : from ≡ n = omega (arith, is) in
    ap (λ l. l ++ flat_map (kept n) (rows_from (from + 1) its)) (kept_by n from i true (subst (λ p. is_eq (value_cmp (Int (pos p)) (Int (pos n))) ≡ true) (sym same) (same_place n)))
    ∙ ap (λ l. (params_at n ∷ row_at from i ∷ []) ∷ l) (found_before n (from + 1) its (omega (arith, is)))
    ∙ ap (λ p. (params_at n ∷ row_at p i ∷ []) ∷ []) same
found_at n from (suc k) (i ∷ its) is =
    ap (λ l. l ++ flat_map (kept n) (rows_from (from + 1) its)) (kept_by n from i false (lower_place from n (omega (arith, is)))) ∙ found_at n (from + 1) k its (omega (arith, is))

none_of_none : {X : Type 0} (ys : List X) → length ys ≡ 0 → ys ≡ []
none_of_none [] long = refl
none_of_none (y ∷ ys) long = absurd (omega arith)

-- what is kept is what is shown
answered : (n : ℕ) (o : Option JournalItem) (db : Trees) (rows : List Row) (a : IsAnswerAs Null select_query db (params_at n) rows) → a.staged ≡ envs_of n o → rows ≡ shown_rows o
answered n None db rows a staged =
    let kept : a.kept ≡ [] = a.distinct ∙ ap (map (output select_query)) staged in
    let ordered : a.ordered ≡ [] = none_of_none a.ordered (length_permutation [] a.ordered (subst (λ k. IsPermutation k a.ordered) kept a.same)) in
    a.shown ∙ ap (λ xs. page select_query (params_at n) (map (λ (p : Output). p.1) xs)) ordered
answered n (Some it) db rows a staged =
    let out : Output = ([], shown_row it) in
    let kept : a.kept ≡ out ∷ [] = a.distinct ∙ ap (map (output select_query)) staged in
    let ordered : a.ordered ≡ out ∷ [] = one_permutation out a.ordered (subst (λ k. IsPermutation k a.ordered) kept a.same) in
    a.shown ∙ ap (λ xs. page select_query (params_at n) (map (λ (p : Output). p.1) xs)) ordered

module _ (old new : State) (genesis : List ℕ) (items : List JournalItem) (has : IsJournal old.now genesis items) (place : ℕ) (rows : List Row) (shows : Shown select_text (params_at place) old new rows) where
  pub reads : rows ≡ shown_rows (slice_get items place)
  reads =
      let it = reads_as select_text (params_at place) old new journal_schema has.schema (Select (record { lets = []; body = select_query }) select_names) select_is.0 select_plain select_is.1 rows shows in
      let a : IsAnswerAs Null select_query (overlay old.now.trees []) (params_at place) rows = it.answer Null in
      let staged : a.staged ≡ envs_of place (slice_get items place) = a.grouped ∙ ap (flat_map (kept place)) has.rows.entries ∙ found_at place 0 place items (omega arith) in
      answered place (slice_get items place) (overlay old.now.trees []) rows a staged

  pub changes_nothing : IsUnchanged old new
  unfolding Shown
  changes_nothing =
      let plain = subst (λ s. IsPlain (understood s select_text)) (sym has.schema) select_plain in
      let none = (subst IsPlain shows.1.is plain).0 in
      let full = timed (params_at place) shows.0.formats shows.1.now in
      let it = subst (ShowsRows old new select_text shows.0 full rows) none shows.2 in
      it.3

pub commits_nothing : (old : State) (params : Row) (db : Trees) → CommitsShowing select_text params old db → LeavesNothing old db
commits_nothing old params db may genesis items has =
    never_commits select_text params old db (subst (λ s. IsPlain (understood s select_text)) (sym has.schema) select_plain) may

-- ---- the places behind a reader

-- what the query keeps of a row
abbrev behind : ℕ → Row → List Env
behind n r = if list_all (holds (params_at n ∷ r ∷ [])) behind_query.filter then (params_at n ∷ r ∷ []) ∷ [] else []

earlier_place : (p n : ℕ) → p < n → is_ge (value_cmp (Int (pos p)) (Int (pos n))) ≡ false
earlier_place p n lt = ap is_ge (below p n lt)

behind_by : (n p : ℕ) (it : JournalItem) (b : Bool) → is_ge (value_cmp (Int (pos p)) (Int (pos n))) ≡ b → behind n (row_at p it) ≡ cond b ((params_at n ∷ row_at p it ∷ []) ∷ []) []
unfolding binary
behind_by n p it b is =
    ap (λ (t : Bool). cond (list_all (λ (x : Bool). x) (is_true (from_truth (Some t)) ∷ [])) ((params_at n ∷ row_at p it ∷ []) ∷ []) []) is ∙ kept_if n (row_at p it) b

-- of rows with earlier places it keeps none
none_behind : (n from : ℕ) (its : List JournalItem) → from + length its ≤ n → flat_map (behind n) (rows_from from its) ≡ []
none_behind n from [] past = refl
none_behind n from (i ∷ its) past =
    ap (λ l. l ++ flat_map (behind n) (rows_from (from + 1) its)) (behind_by n from i false (earlier_place from n (omega (arith, past)))) ∙ none_behind n (from + 1) its (omega (arith, past))

nothing_behind : (n : ℕ) (db : Trees) (rows : List Row) (a : IsAnswerAs Null behind_query db (params_at n) rows) → a.staged ≡ [] → rows ≡ []
nothing_behind n db rows a staged =
    let kept : a.kept ≡ [] = a.distinct ∙ ap (map (output behind_query)) staged in
    let ordered : a.ordered ≡ [] = none_of_none a.ordered (length_permutation [] a.ordered (subst (λ k. IsPermutation k a.ordered) kept a.same)) in
    a.shown ∙ ap (λ xs. page behind_query (params_at n) (map (λ (p : Output). p.1) xs)) ordered

none_mapped : {A B : Type 0} (f : A → B) (xs : List A) → map f xs ≡ [] → xs ≡ []
none_mapped f [] none = refl
none_mapped f (x ∷ xs) none = absurd cc

nothing_staged : (n : ℕ) (db : Trees) (rows : List Row) (a : IsAnswerAs Null behind_query db (params_at n) rows) → rows ≡ [] → a.staged ≡ []
nothing_staged n db rows a none =
    let ordered : a.ordered ≡ [] = none_mapped (λ (p : Output). p.1) a.ordered (sym a.shown ∙ none) in
    let kept : a.kept ≡ [] = none_of_none a.kept (sym (length_permutation a.kept [] (subst (λ (o : List Output). IsPermutation a.kept o) ordered a.same))) in
    none_mapped (output behind_query) a.staged (sym a.distinct ∙ kept)

same_as_behind : (n : ℕ) → is_ge (value_cmp (Int (pos n)) (Int (pos n))) ≡ true
same_as_behind n = ap is_ge (value_cmp-Int (pos n) (pos n) ∙ sym (int_cmp_is (pos n) (pos n) Equal refl))

-- where it keeps no row, all places are earlier
all_earlier : (n from : ℕ) (its : List JournalItem) → from ≤ n → flat_map (behind n) (rows_from from its) ≡ [] → from + length its ≤ n
all_earlier n from [] low none = omega (arith, low)
all_earlier n from (i ∷ its) low none =
    let more : from + 1 ≤ n → flat_map (behind n) (rows_from (from + 1) its) ≡ [] → (from + 1) + length its ≤ n = all_earlier n (from + 1) its in
    elim (cases_lt from n) [
      | inl less ↦
          let rest = sym (ap (λ l. l ++ flat_map (behind n) (rows_from (from + 1) its)) (behind_by n from i false (earlier_place from n less))) ∙ none in
          let far = more (omega (arith, less)) rest in
          omega (arith, far)
      | inr past ↦
          let same : from ≡ n = omega (arith, low, past) in
          let here = subst (λ p. is_ge (value_cmp (Int (pos p)) (Int (pos n))) ≡ true) (sym same) (same_as_behind n) in
          let some = sym (ap (λ l. l ++ flat_map (behind n) (rows_from (from + 1) its)) (behind_by n from i true here)) ∙ none in
          absurd cc
    ]

module _ (old new : State) (genesis : List ℕ) (items : List JournalItem) (has : IsJournal old.now genesis items) (place : ℕ) (rows : List Row) (shows : Shown behind_text (params_at place) old new rows) where
  asked : IsAnswerAs Null behind_query (overlay old.now.trees []) (params_at place) rows
  asked = (reads_as behind_text (params_at place) old new journal_schema has.schema (Select (record { lets = []; body = behind_query }) (codes "place" ∷ [])) behind_is.0 behind_plain behind_is.1 rows shows).answer Null

  -- at the end there is none
  pub ends : length items ≤ place → rows ≡ []
  ends past =
      let staged : asked.staged ≡ [] = asked.grouped ∙ ap (flat_map (behind place)) has.rows.entries ∙ none_behind place 0 items (omega (arith, past)) in
      nothing_behind place (overlay old.now.trees []) rows asked staged

  -- and where there is none is the end
  pub ends_only : rows ≡ [] → length items ≤ place
  ends_only none =
      let staged : flat_map (behind place) (rows_from 0 items) ≡ [] = sym (asked.grouped ∙ ap (flat_map (behind place)) has.rows.entries) ∙ nothing_staged place (overlay old.now.trees []) rows asked none in
      let far = all_earlier place 0 items (omega arith) staged in
      omega (arith, far)

  pub ends_unchanged : IsUnchanged old new
  unfolding Shown
  ends_unchanged =
      let plain = subst (λ s. IsPlain (understood s behind_text)) (sym has.schema) behind_plain in
      let none = (subst IsPlain shows.1.is plain).0 in
      let full = timed (params_at place) shows.0.formats shows.1.now in
      let it = subst (ShowsRows old new behind_text shows.0 full rows) none shows.2 in
      it.3

pub ends_nothing : (old : State) (params : Row) (db : Trees) → CommitsShowing behind_text params old db → LeavesNothing old db
ends_nothing old params db may genesis items has =
    never_commits behind_text params old db (subst (λ s. IsPlain (understood s behind_text)) (sym has.schema) behind_plain) may

-- ---- the places before the first

-- what the query keeps of a row
abbrev early : ℕ → Row → List Env
early n r = if list_all (holds (params_at n ∷ r ∷ [])) before_query.filter then (params_at n ∷ r ∷ []) ∷ [] else []

early_by : (n p : ℕ) (it : JournalItem) (b : Bool) → is_lt (value_cmp (Int (pos p)) (Int (pos n))) ≡ b → early n (row_at p it) ≡ cond b ((params_at n ∷ row_at p it ∷ []) ∷ []) []
unfolding binary
early_by n p it b is =
    ap (λ (t : Bool). cond (list_all (λ (x : Bool). x) (is_true (from_truth (Some t)) ∷ [])) ((params_at n ∷ row_at p it ∷ []) ∷ []) []) is ∙ kept_if n (row_at p it) b

-- no place is before 0
not_early : (p : ℕ) → is_lt (value_cmp (Int (pos p)) (Int (pos 0))) ≡ false
not_early p =
    elim (cases_lt 0 p) [
      | inl more ↦
          let greater : pos 0 <ℤ pos p = lt_z_yes (yes_ltb more) in
          ap is_lt (value_cmp-Int (pos p) (pos 0) ∙ sym (int_cmp_is (pos p) (pos 0) Greater greater))
      | inr none ↦
          let zero_is : 0 ≡ p = omega (arith, none) in
          subst (λ k. is_lt (value_cmp (Int (pos k)) (Int (pos 0))) ≡ false) zero_is (ap is_lt (value_cmp-Int (pos 0) (pos 0) ∙ sym (int_cmp_is (pos 0) (pos 0) Equal refl)))
    ]

none_early : (from : ℕ) (its : List JournalItem) → flat_map (early 0) (rows_from from its) ≡ []
none_early from [] = refl
none_early from (i ∷ its) = ap (λ l. l ++ flat_map (early 0) (rows_from (from + 1) its)) (early_by 0 from i false (not_early from)) ∙ none_early (from + 1) its

nothing_early : (db : Trees) (rows : List Row) (a : IsAnswerAs Null before_query db (params_at 0) rows) → a.staged ≡ [] → rows ≡ []
nothing_early db rows a staged =
    let kept : a.kept ≡ [] = a.distinct ∙ ap (map (output before_query)) staged in
    let ordered : a.ordered ≡ [] = none_of_none a.ordered (length_permutation [] a.ordered (subst (λ k. IsPermutation k a.ordered) kept a.same)) in
    a.shown ∙ ap (λ xs. page before_query (params_at 0) (map (λ (p : Output). p.1) xs)) ordered

module _ (old new : State) (genesis : List ℕ) (items : List JournalItem) (has : IsJournal old.now genesis items) (rows : List Row) (shows : Shown before_text (params_at 0) old new rows) where
  pub begins_at_first : rows ≡ []
  begins_at_first =
      let it = reads_as before_text (params_at 0) old new journal_schema has.schema (Select (record { lets = []; body = before_query }) (codes "place" ∷ [])) before_is.0 before_plain before_is.1 rows shows in
      let a : IsAnswerAs Null before_query (overlay old.now.trees []) (params_at 0) rows = it.answer Null in
      let staged : a.staged ≡ [] = a.grouped ∙ ap (flat_map (early 0)) has.rows.entries ∙ none_early 0 items in
      nothing_early (overlay old.now.trees []) rows a staged

  pub first_unchanged : IsUnchanged old new
  unfolding Shown
  first_unchanged =
      let plain = subst (λ s. IsPlain (understood s before_text)) (sym has.schema) before_plain in
      let none = (subst IsPlain shows.1.is plain).0 in
      let full = timed (params_at 0) shows.0.formats shows.1.now in
      let it = subst (ShowsRows old new before_text shows.0 full rows) none shows.2 in
      it.3

pub first_nothing : (old : State) (params : Row) (db : Trees) → CommitsShowing before_text params old db → LeavesNothing old db
first_nothing old params db may genesis items has =
    never_commits before_text params old db (subst (λ s. IsPlain (understood s before_text)) (sym has.schema) before_plain) may

-- ---- the beginning

began_alone : (genesis : List ℕ) (db : Trees) (rows : List Row) (a : IsAnswerAs Null began_query db [] rows) → a.staged ≡ ([] ∷ beginning_row genesis ∷ []) ∷ [] → rows ≡ shown_beginning genesis ∷ []
began_alone genesis db rows a staged =
    let out : Output = ([], shown_beginning genesis) in
    let kept : a.kept ≡ out ∷ [] = a.distinct ∙ ap (map (output began_query)) staged in
    let ordered : a.ordered ≡ out ∷ [] = one_permutation out a.ordered (subst (λ k. IsPermutation k a.ordered) kept a.same) in
    a.shown ∙ ap (λ xs. page began_query [] (map (λ (p : Output). p.1) xs)) ordered

-- what the query keeps of a row: the row
abbrev any_row : Row → List Env
any_row r = ([] ∷ r ∷ []) ∷ []

module _ (old new : State) (genesis : List ℕ) (items : List JournalItem) (has : IsJournal old.now genesis items) (rows : List Row) (shows : Shown began_text [] old new rows) where
  pub began : rows ≡ shown_beginning genesis ∷ []
  began =
      let it = reads_as began_text [] old new journal_schema has.schema (Select (record { lets = []; body = began_query }) (codes "format" ∷ codes "genesis" ∷ [])) began_is.0 began_plain began_is.1 rows shows in
      let a : IsAnswerAs Null began_query (overlay old.now.trees []) [] rows = it.answer Null in
      let staged : a.staged ≡ ([] ∷ beginning_row genesis ∷ []) ∷ [] = a.grouped ∙ ap (flat_map any_row) has.rows.beginning in
      began_alone genesis (overlay old.now.trees []) rows a staged

  pub began_unchanged : IsUnchanged old new
  unfolding Shown
  began_unchanged =
      let plain = subst (λ s. IsPlain (understood s began_text)) (sym has.schema) began_plain in
      let none = (subst IsPlain shows.1.is plain).0 in
      let full = timed [] shows.0.formats shows.1.now in
      let it = subst (ShowsRows old new began_text shows.0 full rows) none shows.2 in
      it.3

pub began_nothing : (old : State) (params : Row) (db : Trees) → CommitsShowing began_text params old db → LeavesNothing old db
began_nothing old params db may genesis items has =
    never_commits began_text params old db (subst (λ s. IsPlain (understood s began_text)) (sym has.schema) began_plain) may
