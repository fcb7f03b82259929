-- A world goes on entry by entry.
use Rattle.std.proofs.Common.{◌≡◌, ◌≢◌, ℕ, ◌+◌, ◌<◌, ◌≤◌, Bool, true, false, cond, nat_lt, List, [], ◌∷◌, ◌++◌, length, map, filter, take, refl, sym, ap, ◌∙◌, subst, Option, Some, None, slice_get, option_map, arith, inl, inr, eq-eqb, lt-ltb, append-nil, append_assoc}
use Rattle.std.specs.Prelude.{◌&&◌, IsTrue, is_some, Result, Ok, Err, OnOk, IfOk, IfErr}
use Rattle.std.proofs.Math.Bool.{and-false}
use Rattle.std.proofs.lemmas.Bool.{cases_lt, false≢true}
use Rattle.std.proofs.lemmas.List.{map-append, length-append}
use Rattle.std.proofs.lemmas.List.Elements.{filter-append}
use Rattle.std.proofs.Math.Seq.{take-append_seam}
use Rattle.std.proofs.lemmas.Option.{slice_get_past}
use Rattle.ibc_machine.specs.declared.event.Event.{Event}
use Rattle.ibc_machine.specs.declared.reply.Reply.{Reply}
use Rattle.ibc_machine.specs.declared.entry.Entry.{Entry}
use Rattle.ibc_machine.specs.declared.entry.Reading.{Reading}
use Rattle.ibc_machine.specs.chain.Genesis.{GenesisState, is_allowed}
use Rattle.ibc_machine.specs.ledger.Replay.{StampedEntry}
use Rattle.ibc_machine.specs.ledger.Ledgers.{Ledger, chain_of}
use Rattle.ibc_ledger.specs.LedgerModel.{abstract_entry}
use Rattle.ibc_ledger.specs.declared.entry.StampedEntry.{StampedEntry as KeptEntry}
use Rattle.ibc_machine.specs.ledger.Merge.{is_of_chain}
use Rattle.ibc_machine.specs.promises.Worlds.{entries, interleaved, happened_by}
use Rattle.ibc_machine.specs.promises.Histories.{Happened}
use Rattle.ibc_refinement.specs.World.{WorldState, kept_entries, IsWorld}
use Rattle.ibc_refinement.specs.Steps.{IsStep, AreSteps, GoesOnBy, is_answered, has_entry}
use Rattle.ibc_refinement.proofs.ChangedPlaces.{get_there, get_last, get_more}
use Rattle.ibc_refinement.proofs.world.Nothing.{history_at}
use Rattle.ibc_refinement.proofs.world.Meetings.{steps_go_on}
use Rattle.ibc_refinement.proofs.world.New.{new_is_world}
use Rattle.ibc_refinement.proofs.world.Runs.{steps_refine}
use Rattle.ibc_world_core.specs.EveryWorld.{IsLawfulUnlessClash}
use Rattle.ibc_replay.specs.declared.replaying.Answered.{Answered}
use Rattle.ibc_replay.specs.declared.replaying.Difference.{Difference}
use Rattle.ibc_replay.specs.declared.replaying.Difference.TheVariants.{NoGenesis, NoMemory, At, UnknownChain}
use Rattle.ibc_replay.specs.Replays.{GoesOnAsStored, IsBeginning, IsReplay, entry_of, StopsBy, IsDifference, StopsAt, HasLastReading, IsLastReading}
use Rattle.ibc_replay.proofs.SameStates.{same_states}

-- ---- one step

-- what a step adds, where it adds one
pub record AddsJust (old : WorldState) (event : Event) (given : Reply) (new : WorldState) : Type 0 where
  pub entry : Entry
  pub event_is : entry.event ≡ event
  pub reply_is : entry.reply ≡ given
  pub kept : kept_entries new ≡ kept_entries old ++ entry ∷ []

just_one : (old : WorldState) (event : Event) (given : Reply) (new : WorldState) (more : List Entry) → kept_entries new ≡ kept_entries old ++ more
    → happened_by more ≡ (event, given) ∷ [] → AddsJust old event given new
just_one old event given new [] kept one = absurd (cc)
just_one old event given new (e ∷ []) kept one =
    let same : ◌≡◌ {A = Happened} (e.event, e.reply) (event, given) = cc in
    record { entry = e; event_is = ap (λ (h : Happened). h.0) same; reply_is = ap (λ (h : Happened). h.1) same; kept = kept }
just_one old event given new (e ∷ f ∷ more) kept one = absurd (let l = ap length one in omega arith)

none_at_all : (more : List Entry) → happened_by more ≡ [] → more ≡ []
none_at_all [] none = refl
none_at_all (e ∷ more) none = absurd (cc)

module _ (old new : WorldState) (event : Event) (given : Reply) (runs : GoesOnBy old (event ∷ []) (given ∷ []) new) where
  pub adds_just : chain_of event < length old.ledgers → is_answered given ≡ true → AddsJust old event given new
  adds_just low answered =
      let one : has_entry (length old.ledgers) (event, given) ≡ true = λ i. lt-ltb (chain_of event) (length old.ledgers) low i && answered i in
      just_one old event given new runs.more runs.kept (runs.answered ∙ ap (λ b. cond b ((event, given) ∷ []) []) one)

  -- nothing is kept of what wasn't answered
  pub keeps_nothing : is_answered given ≡ false → kept_entries new ≡ kept_entries old
  keeps_nothing unanswered =
      let none : has_entry (length old.ledgers) (event, given) ≡ false = ap (λ b. nat_lt (chain_of event) (length old.ledgers) && b) unanswered ∙ and-false (nat_lt (chain_of event) (length old.ledgers)) in
      let nothing = none_at_all runs.more (runs.answered ∙ ap (λ b. cond b ((event, given) ∷ []) []) none) in
      runs.kept ∙ ap (λ l. kept_entries old ++ l) nothing ∙ append-nil (kept_entries old)

-- the entry that a world kept last is the last of its chain
last_of_chain : (old new : WorldState) (e : Entry) (ledger : Ledger) → IsWorld new → kept_entries new ≡ kept_entries old ++ e ∷ []
    → slice_get new.ledgers (chain_of e.event) ≡ Some ledger → entries ledger ≡ filter (is_of_chain (chain_of e.event)) (kept_entries old) ++ e ∷ []
last_of_chain old new e ledger is kept there =
    let k = chain_of e.event in
    sym (is.merges.each k (entries ledger) (history_at new.ledgers k ledger there))
    ∙ ap (filter (is_of_chain k)) kept
    ∙ filter-append (is_of_chain k) (kept_entries old) (e ∷ [])
    ∙ ap (λ b. filter (is_of_chain k) (kept_entries old) ++ cond b (e ∷ []) []) (eq-eqb k k refl)

-- What is due at an event: it is what the world keeps then.
pub goes_on_by_due : (old new : WorldState) (event : Event) (due : Answered) → GoesOnBy old (event ∷ []) (due.reply ∷ []) new → IsStep old event due.reply new
    → chain_of event < length old.ledgers → is_answered due.reply ≡ true → HasLastReading new (chain_of event) due.reading → GoesOnAsStored old (entry_of event due ∷ []) new
goes_on_by_due old new event due runs step low answered reads =
    let w = adds_just old new event due.reply runs low answered in
    let k = chain_of event in
    let same : chain_of w.entry.event ≡ k = ap chain_of w.event_is in
    let at = get_there new.ledgers k (omega (arith, low, step.as_many)) in
    let there = ap (slice_get new.ledgers) same ∙ at.1 in
    let reading : due.reading ≡ w.entry.reading = reads at.0 at.1 (filter (is_of_chain (chain_of w.entry.event)) (kept_entries old)) w.entry (last_of_chain old new w.entry at.0 runs.is w.kept there) in
    let entry : w.entry ≡ entry_of event due = λ i. record { event = w.event_is i; reply = w.reply_is i; reading = sym reading i } in
    record {
      steps = (new, step, refl);
      kept = w.kept ∙ ap (λ e. kept_entries old ++ e ∷ []) entry;
    }

-- ---- one after another

pub goes_nowhere : (world : WorldState) → GoesOnAsStored world [] world
goes_nowhere world = record { steps = refl; kept = sym (append-nil (kept_entries world)) }

pub goes_on_more : (old mid new : WorldState) (done : List Entry) (e : Entry) → GoesOnAsStored old done mid → GoesOnAsStored mid (e ∷ []) new → GoesOnAsStored old (done ++ e ∷ []) new
goes_on_more old mid new done e so_far next =
    let step : IsStep mid e.event e.reply new = subst (IsStep mid e.event e.reply) (sym next.steps.2) next.steps.1 in
    let events = map-append (λ (x : Entry). x.event) done (e ∷ []) in
    let replies = map-append (λ (x : Entry). x.reply) done (e ∷ []) in
    record {
      steps =
          subst (λ es. AreSteps old es (map (λ (x : Entry). x.reply) (done ++ e ∷ [])) new) (sym events)
          (subst (λ rs. AreSteps old (map (λ (x : Entry). x.event) done ++ e.event ∷ []) rs new) (sym replies)
          (steps_go_on old mid new (map (λ (x : Entry). x.event) done) (map (λ (x : Entry). x.reply) done) e.event e.reply so_far.steps step));
      kept = next.kept ∙ ap (λ l. l ++ e ∷ []) so_far.kept ∙ append_assoc (kept_entries old) done (e ∷ []);
    }

pub steps_keep_genesis : (events : List Event) (replies : List Reply) (old new : WorldState) → AreSteps old events replies new → new.genesis ≡ old.genesis
steps_keep_genesis [] [] old new same = ap (λ (w : WorldState). w.genesis) same
steps_keep_genesis [] (given ∷ replies) old new none = absurd none
steps_keep_genesis (event ∷ events) [] old new none = absurd none
steps_keep_genesis (event ∷ events) (given ∷ replies) old new steps = steps_keep_genesis events replies steps.0 new steps.2 ∙ steps.1.genesis

-- ---- where it stops

module _ (old mid new : WorldState) (first : ℕ) (done rest all : List Entry) (entry : Entry) (so_far : GoesOnAsStored old done mid) (whole : done ++ entry ∷ rest ≡ all) where
  done_is : take (length done) all ≡ done
  done_is = ap (take (length done)) (sym whole) ∙ take-append_seam done (entry ∷ rest)

  entry_is : slice_get all (length done) ≡ Some entry
  entry_is =
      ap (λ l. slice_get l (length done)) (sym (append_assoc done (entry ∷ []) rest ∙ whole))
      ∙ get_more (done ++ entry ∷ []) rest (length done) entry (get_last done entry)

  pub stops : (here : ℕ) (why : Difference) → here ≡ first + length done → StopsAt mid here entry why new → StopsBy old first all why new
  stops here (At place due stored) at why =
      (length done, entry.event, mid, why.0 ∙ at, record { goes_on = subst (λ l. GoesOnAsStored old l mid) (sym done_is) so_far; next = entry_is ∙ ap Some why.1 }, why.2, why.3)
  stops here (UnknownChain place stored) at why =
      let now : new ≡ mid = why.2 in (
        length done,
        entry.event,
        why.0 ∙ at,
        record { goes_on = subst (λ w. GoesOnAsStored old (take (length done) all) w) (sym now) (subst (λ l. GoesOnAsStored old l mid) (sym done_is) so_far); next = entry_is ∙ ap Some why.1 },
        subst (λ (w : WorldState). length w.ledgers ≤ chain_of entry.event) (sym now) why.3,
      )
  stops here NoMemory at why = (length done, why ∙ so_far.kept ∙ ap (λ l. kept_entries old ++ l) (sym done_is))
  stops here NoGenesis at none = absurd none

-- ---- from the beginning

pub is_difference : (genesis : GenesisState) (list : List Entry) (why : Difference) (beginning new : WorldState) → IsBeginning genesis beginning → StopsBy beginning 0 list why new → IsDifference genesis list why
is_difference genesis list (At place due stored) beginning new begins stops = (beginning, new, begins, stops)
is_difference genesis list (UnknownChain place stored) beginning new begins stops = (beginning, new, begins, stops)
is_difference genesis list NoMemory beginning new begins stops = tt
is_difference genesis list NoGenesis beginning new begins none = tt

pub beginning_is_world : (genesis : GenesisState) (beginning : WorldState) → IsTrue (is_allowed genesis) → IsBeginning genesis beginning → IsWorld beginning
beginning_is_world genesis beginning allowed begins =
    let is = new_is_world genesis beginning.ledgers allowed begins.ledgers in
    subst IsWorld (λ i. record { genesis = sym begins.of i; ledgers = beginning.ledgers; order = sym begins.order i }) is

-- what a world went on to from the beginning
pub is_replay : (genesis : GenesisState) (list : List Entry) (beginning world : WorldState) → IsTrue (is_allowed genesis) → IsBeginning genesis beginning → GoesOnAsStored beginning list world
    → IsLawfulUnlessClash world → IsReplay genesis list world
is_replay genesis list beginning world allowed begins goes lawful =
    let events = map (λ (e : Entry). e.event) list in
    let replies = map (λ (e : Entry). e.reply) list in
    let is = (steps_refine beginning events replies world (beginning_is_world genesis beginning allowed begins) goes.steps).is in
    let same = steps_keep_genesis events replies beginning world goes.steps ∙ begins.of in
    let kept : kept_entries world ≡ list = goes.kept ∙ ap (λ order. interleaved order (map entries beginning.ledgers) ++ list) begins.order in
    record {
      beginning = beginning;
      begins = begins;
      goes_on = goes;
      of = same;
      kept = kept;
      states = λ stored is_stored of keeps. same_states stored world is_stored is (of ∙ sym same) (keeps ∙ sym kept);
      lawful = lawful;
    }

-- ---- a list that is gone through

pub all_done : (done left all : List Entry) → done ++ left ≡ all → length left ≡ 0 → done ≡ all
all_done done [] all whole none = sym (append-nil done) ∙ whole
all_done done (e ∷ left) all whole none = absurd (omega arith)

pub done_before : (done rest all : List Entry) (e : Entry) → done ++ e ∷ rest ≡ all → length done + 1 ≤ length all
done_before done rest all e whole = let long = sym (ap length whole) ∙ length-append done (e ∷ rest) in omega (arith, long)

-- ---- what is due beside what is stored

pub taken : (old new : WorldState) (event : Event) (due stored : Answered) (r : Result (Unit {0}) Difference) → OnOk r (due ≡ stored) → GoesOnAsStored old (entry_of event due ∷ []) new
    → OnOk r (GoesOnAsStored old (entry_of event stored ∷ []) new)
taken old new event due stored (Ok x) same goes = subst (λ a. GoesOnAsStored old (entry_of event a ∷ []) new) same goes
taken old new event due stored (Err why) same goes = tt

pub refused : (old new : WorldState) (here : ℕ) (event : Event) (due stored : Answered) (r : Result (Unit {0}) Difference) → IfErr r (λ why. (why ≡ At here due stored) × (due ≢ stored))
    → GoesOnAsStored old (entry_of event due ∷ []) new → IfErr r (λ why. StopsAt old here (entry_of event stored) why new)
refused old new here event due stored (Ok x) told goes = tt
refused old new here event due stored (Err why) told goes = subst (λ w. StopsAt old here (entry_of event stored) w new) (sym told.0) (refl, refl, goes, told.1)

pub past_all : (b : Bool) (k n : ℕ) → (IsTrue b → k < n) × (k < n → IsTrue b) → b ≡ false → n ≤ k
past_all b k n is denied = elim (cases_lt k n) [ inl low ↦ absurd (false≢true (sym denied ∙ is.1 low)) | inr past ↦ past ]

pub there_or_none : (ledgers : List Ledger) (k : ℕ) (b : Bool) → b ≡ is_some (slice_get ledgers k) → (IsTrue b → k < length ledgers) × (k < length ledgers → IsTrue b)
there_or_none ledgers k b is = (
  λ yes. elim (cases_lt k (length ledgers)) [ inl low ↦ low | inr past ↦ absurd (false≢true (ap is_some (sym (slice_get_past ledgers k past)) ∙ sym is ∙ yes)) ],
  λ low. is ∙ ap is_some (get_there ledgers k low).1,
)

-- ---- the last entry of a chain

pub some_mapped : {A B : Type 0} (f : A → B) (o : Option A) → is_some (option_map f o) ≡ is_some o
some_mapped f None = refl
some_mapped f (Some x) = refl

same_entries : (history : List KeptEntry) → map (λ (e : StampedEntry). e.entry) (map abstract_entry history) ≡ map (λ (e : KeptEntry). e.entry) history
same_entries [] = refl
same_entries (e ∷ history) = ap (λ l. e.entry ∷ l) (same_entries history)

pub last_of_history : (world : WorldState) (k : ℕ) (l : Ledger) (history : List KeptEntry) (reading : Option Reading) → Some l ≡ slice_get world.ledgers k → map abstract_entry history ≡ l.history
    → IsLastReading (map (λ (e : KeptEntry). e.entry) history) reading → HasLastReading world k reading
last_of_history world k l history reading there is reads ledger at front last list =
    let both : Some l ≡ Some ledger = there ∙ at in
    let one : l ≡ ledger = cc in
    let same : map (λ (e : KeptEntry). e.entry) history ≡ entries ledger = sym (same_entries history) ∙ ap (map (λ (e : StampedEntry). e.entry)) is ∙ ap entries one in
    reads front last (same ∙ list)

-- ---- whole lists

not_false : (b : Bool) → (b ≡ false → ⊥) → b ≡ true
not_false true denied = refl
not_false false denied = absurd (denied refl)

module _ (genesis : GenesisState) (list : List Entry) (beginning : WorldState) (r : Result WorldState Difference) where
  pub replayed_if_ok : IsTrue (is_allowed genesis) → IsBeginning genesis beginning → IfOk r (GoesOnAsStored beginning list) → IfOk r IsLawfulUnlessClash → IfOk r (IsReplay genesis list)
  replayed_if_ok allowed begins goes lawful = both r goes lawful
    where
      both : (x : Result WorldState Difference) → IfOk x (GoesOnAsStored beginning list) → IfOk x IsLawfulUnlessClash → IfOk x (IsReplay genesis list)
      both (Ok world) goes lawful = is_replay genesis list beginning world allowed begins goes lawful
      both (Err why) goes lawful = tt

  pub different_if_err : IsBeginning genesis beginning → IfErr r (λ why. (after : WorldState) × StopsBy beginning 0 list why after) → IfErr r (IsDifference genesis list)
  different_if_err begins stops = each r stops
    where
      each : (x : Result WorldState Difference) → IfErr x (λ why. (after : WorldState) × StopsBy beginning 0 list why after) → IfErr x (IsDifference genesis list)
      each (Ok world) stops = tt
      each (Err why) stops = is_difference genesis list why beginning stops.0 begins stops.1

  pub genesis_if_err : IsTrue (is_allowed genesis) → IfErr r (λ why. (after : WorldState) × StopsBy beginning 0 list why after)
      → (r ≡ Err NoGenesis → is_allowed genesis ≡ false) × (is_allowed genesis ≡ false → r ≡ Err NoGenesis)
  genesis_if_err allowed stops = (
    λ is. absurd ((subst (λ (x : Result WorldState Difference). IfErr x (λ why. (after : WorldState) × StopsBy beginning 0 list why after)) is stops).1),
    λ denied. absurd (false≢true (sym denied ∙ allowed)),
  )

pub is_allowed_then : (genesis : GenesisState) → (is_allowed genesis ≡ false → ⊥) → IsTrue (is_allowed genesis)
is_allowed_then genesis denied = not_false (is_allowed genesis) denied
