-- The refinement theorem: a list that merges the histories of ledgers is a past of the machine.
use Rattle.std.proofs.Common.{◌≡◌, ℕ, Bool, true, false, cond, ◌&&◌, nat_lt, List, [], ◌∷◌, length, map, filter, refl, sym, ap, ◌∙◌, subst, option_map, ltb-true, eq-eqb, inl, inr}
use Rattle.std.specs.List.{AllByRecursion, list_all}
use Rattle.std.proofs.lemmas.Bool.{and_parts, and_from}
use Rattle.std.proofs.lemmas.Option.{slice_get-map}
use Rattle.std.proofs.lemmas.List.{length-map}
use Rattle.ibc_ids.specs.declared.publication.Publication.{Publication}
use Rattle.ibc_machine.specs.declared.event.Event.{Event}
use Rattle.ibc_machine.specs.declared.reply.Reply.{Reply}
use Rattle.ibc_machine.specs.declared.entry.Entry.{Entry}
use Rattle.ibc_machine.specs.chain.Records.{MachineChain}
use Rattle.ibc_machine.specs.chain.Genesis.{GenesisState, start}
use Rattle.ibc_machine.specs.chain.Machine.{IsRun}
use Rattle.ibc_machine.specs.ledger.Replay.{LedgerState, StampedEntry, entry_answer, met_states, starting_state}
use Rattle.ibc_machine.specs.ledger.Ledgers.{Ledger, IsOwnEntry, chain_of, is_typed, machine_of}
use Rattle.ibc_machine.specs.promises.Histories.{Happened}
use Rattle.ibc_machine.specs.ledger.Merge.{is_of_chain, Merges}
use Rattle.ibc_machine.specs.promises.Worlds.{entries, interleaved}
use Rattle.ibc_refinement.specs.Refinement.{MergedIsRun, KeptOrderIsRun}
use Rattle.ibc_machine.proofs.Members.{Is_in}
use Rattle.ibc_refinement.proofs.EntrySteps.{ledger_of, own_typed}
use Rattle.ibc_refinement.proofs.RunStates.{AreOfWorld, ledger_at}
use Rattle.ibc_refinement.proofs.MergedRun.{AreWithin, runs_on, all_start}

-- ---- lists

all_from : {A : Type 0} (test : A → Bool) (xs : List A) → ((x : A) → Is_in x xs → test x ≡ true) → list_all test xs ≡ true
all_from test [] h = refl
all_from test (x ∷ xs) h = and_from (test x) (list_all test xs) (h x (inl refl)) (all_from test xs (λ y i. h y (inr i)))

all_of : {A : Type 0} (test : A → Bool) (xs : List A) (x : A) → list_all test xs ≡ true → Is_in x xs → test x ≡ true
all_of test [] x h i = absurd i
all_of test (y ∷ xs) x h (inl e) = ap test e ∙ (and_parts (test y) (list_all test xs) h).0
all_of test (y ∷ xs) x h (inr i) = all_of test xs x (and_parts (test y) (list_all test xs) h).1 i

in_filter : {A : Type 0} (test : A → Bool) (xs : List A) (x : A) → test x ≡ true → Is_in x xs → Is_in x (filter test xs)
in_filter test [] x passes i = absurd i
in_filter test (y ∷ xs) x passes (inl e) = subst (λ b. Is_in x (cond b (y ∷ filter test xs) (filter test xs))) (sym (sym (ap test e) ∙ passes)) (inl e)
in_filter test (y ∷ xs) x passes (inr i) =
    elim (test y) as (λ b. Is_in x (cond b (y ∷ filter test xs) (filter test xs))) [ true ↦ inr (in_filter test xs x passes i) | false ↦ in_filter test xs x passes i ]

mapped_again : {A B C : Type 0} (f : A → B) (g : B → C) (xs : List A) → map g (map f xs) ≡ map (λ x. g (f x)) xs
mapped_again f g [] = refl
mapped_again f g (x ∷ xs) = ap (λ ys. g (f x) ∷ ys) (mapped_again f g xs)

all_mapped : {A B : Type 0} (f : A → B) (test : B → Bool) (xs : List A) → list_all test (map f xs) ≡ list_all (λ x. test (f x)) xs
all_mapped f test [] = refl
all_mapped f test (x ∷ xs) = ap (λ b. test (f x) && b) (all_mapped f test xs)

-- ---- events are typed

typed_history : (ledger : Ledger) (genesis : GenesisState) (k : ℕ) (state : LedgerState) (history : List StampedEntry) → AllByRecursion (IsOwnEntry ledger) (met_states genesis k ledger.seen state history)
    → list_all (λ (e : Entry). is_typed e.event) (map (λ (s : StampedEntry). s.entry) history) ≡ true
typed_history ledger genesis k state [] own = refl
typed_history ledger genesis k state (s ∷ history) own =
    and_from (is_typed s.entry.event) (list_all (λ (e : Entry). is_typed e.event) (map (λ (s : StampedEntry). s.entry) history)) (own_typed ledger state s own.0)
    (typed_history ledger genesis k (entry_answer genesis k ledger.seen state s).1 history own.1)

module _ (genesis : GenesisState) (ledgers : List Ledger) (publications : List Publication) (are : AreOfWorld genesis ledgers publications) (times : List ℕ) (list : List Entry)
    (merges : Merges genesis.window times (map entries ledgers) publications list) where
  pub within : AreWithin (length ledgers) list
  within = ap (λ n. list_all (λ (entry : Entry). nat_lt (chain_of entry.event) n) list) (sym (length-map ledgers entries)) ∙ merges.no_others

  pub typed_list : list_all (λ (e : Entry). is_typed e.event) list ≡ true
  typed_list =
      all_from (λ (e : Entry). is_typed e.event) list λ e i.
      let k = chain_of e.event in
      let low = ltb-true k (length ledgers) (all_of (λ (entry : Entry). nat_lt (chain_of entry.event) (length ledgers)) list e within i) in
      let at = ledger_at genesis ledgers are.of k low in
      let L = ledger_of genesis k at.history at.seen in
      let own : filter (is_of_chain k) list ≡ entries L = merges.each k (entries L) (slice_get-map entries ledgers k ∙ ap (option_map entries) at.there) in
      all_of (λ (e : Entry). is_typed e.event) (entries L) e (typed_history L genesis k (starting_state genesis k) at.history at.is.entries)
      (subst (Is_in e) own (in_filter (is_of_chain k) list e (eq-eqb k k refl) i))

-- ---- the theorem

pub merged_is_run : MergedIsRun
merged_is_run genesis ledgers publications list of table allowed clash merges =
    let are : AreOfWorld genesis ledgers publications = record { of = of; table = table } in
    let times = map (λ (c : MachineChain). c.time) (start genesis) in
    let run = runs_on genesis ledgers publications are clash list (start genesis) [] (all_start genesis ledgers publications are times list merges) merges.readings
    (within genesis ledgers publications are times list merges)
    in
    let pair : Entry → Happened = λ e. (e.event, e.reply) in
    let events = sym (mapped_again pair (λ (h : Happened). h.0) list) in
    let replies = sym (mapped_again pair (λ (h : Happened). h.1) list) in
    record {
      merges = merges;
      past = record {
        allowed = allowed;
        typed = all_mapped pair (λ (h : Happened). is_typed h.0) list ∙ typed_list genesis ledgers publications are times list merges;
        run = subst (λ (w : List Event × List Reply). IsRun genesis (start genesis) w.0 w.1 (machine_of ledgers)) (λ i. (events i, replies i)) run;
      };
    }

-- ---- its uses

pub kept_order_is_run : KeptOrderIsRun
kept_order_is_run genesis order ledgers publications of table allowed merges clash =
    merged_is_run genesis ledgers publications (interleaved order (map entries ledgers)) of table allowed clash merges
