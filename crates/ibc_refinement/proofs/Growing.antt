-- A ledger that has seen more is a ledger, and so is one with its next entry: of a message, or of a block's end.
use Rattle.std.proofs.Common.{◌≡◌, ◌<◌, ◌^◌, List, [], ◌∷◌, ◌++◌, length, map, sym, ap, ◌∙◌, arith, subst, ℕ, ◌≤◌, true, refl, Some, None, Option, is_some, unwrap_or, length-append, ⊎_elim, false, ◌||◌, eqb, Ok, Err, eq-eqb, lt-ltb}
use Rattle.std.proofs.lemmas.Bool.{or_cases, and_from, false≢true}
use Rattle.std.proofs.lemmas.List.{take_all, map-append}
use Rattle.std.proofs.lemmas.Option.{slice_get_within, IfSome_then}
use Rattle.std.specs.List.{AllByRecursion}
use Rattle.std.specs.Prelude.{IfSome, ⊤, nat_lt}
use Rattle.ibc_ids.specs.Publications.{published_by, height_among, height_of}
use Rattle.ibc_ids.specs.declared.publication.Publication.{Publication}
use Rattle.ibc_ids.specs.declared.refusal.Refusal.{Refusal}
use Rattle.ibc_refinement.specs.LedgerGrowth.{with_seen, with_entry, state_with, IsNext, LedgersSeeMore, LedgersGoOn, entry_of, stamp_if, working_block, IsFittingReading}
use Rattle.ibc_machine.specs.chain.Checks.{Checked}
use Rattle.ibc_machine.specs.chain.Genesis.{GenesisState}
use Rattle.ibc_machine.specs.chain.Handlers.{handle, host_of, after_message, may_commit, after_block, working_height}
use Rattle.ibc_machine.specs.ics24.Image.{image, core_root}
use Rattle.ibc_machine.specs.ledger.Ledgers.{Ledger, IsLedger, IsOwnEntry, published_as, state_of, met_by, IsReading, IsOwnBlock, AreRising, header_in, reading_fits, is_accepted_block, keeps_a_stamp, is_looking, is_own_event, is_block_reply}
use Rattle.ibc_machine.specs.chain.Records.{Block, Core, Apps}
use Rattle.ibc_machine.specs.ledger.Replay.{LedgerState, StampedEntry, entry_answer, starting_state, replay, met_states, proof_evidence, after_answer, with_chain, ledger_answer}
use Rattle.ibc_machine.specs.declared.entry.Reading.{Reading}
use Rattle.ibc_machine.specs.declared.event.Event.{Event}
use Rattle.ibc_machine.specs.declared.reply.Effect.{Effect}
use Rattle.ibc_machine.specs.declared.reply.Reply.{Reply}
use Rattle.ibc_root_table.specs.Passes.{Publishes}
use Rattle.ibc_wire.specs.declared.messages.Message.{Message}
use Rattle.ibc_root_table.proofs.Growing.{height_among-stays, Publishes-last}
use Rattle.ibc_wire.specs.declared.header.Header.{Header}
use Rattle.ibc_machine.proofs.SeenMore.{entry_stays}
use Rattle.ibc_refinement.proofs.EntrySteps.{replay_more}
use Rattle.ibc_refinement.proofs.SeenMore.{replay_stays}
use Rattle.ibc_root_table.proofs.Beginnings.{prefix_get}
use Rattle.ibc_machine.specs.declared.event.Event.TheVariants as event
use Rattle.ibc_machine.specs.declared.reply.Effect.TheVariants as effect
use Rattle.ibc_machine.specs.declared.reply.Reply.TheVariants as reply

-- ---- with more publications

reading_stays : (window : ℕ) (seen more : List Publication) (e : StampedEntry) → IsReading window seen e → IsReading window (seen ++ more) e
reading_stays window seen more e reading = IfSome_then e.entry.reading reading (λ r w.
    (w.0, w.1, w.2, w.3, (let long = length-append seen more in let low = w.4 in omega arith), ap (λ h. reading_fits window h w.0.height r) (height_among-stays w.0.chain w.1 seen (seen ++ more) (more, refl) w.4) ∙ w.5))

-- an entry is of a ledger by the genesis, the chain and what was seen, whatever the history
own_stays : (ledger : Ledger) (history : List StampedEntry) (more : List Publication) (at : LedgerState × StampedEntry) → IsOwnEntry ledger at → IsOwnEntry (record ledger { history = history; seen = ledger.seen ++ more }) at
own_stays ledger history more at own = record {
  event = own.event;
  reply = own.reply ∙ sym (ap (λ (w : Reply × LedgerState). w.0) (entry_stays ledger.genesis ledger.chain ledger.seen more at.0 at.1 own.reading));
  looking = own.looking;
  reading = reading_stays ledger.genesis.window ledger.seen more at.1 own.reading;
  block = λ accepted. let w = own.block accepted in (w.0, w.1, w.2, prefix_get ledger.seen (ledger.seen ++ more) w.0 w.1 (more, refl) w.3, w.4);
  stamped = own.stamped;
}

-- ---- histories

module _ (ledger : Ledger) (after : List StampedEntry) (more : List Publication) where
  entries_stay : (state : LedgerState) (history : List StampedEntry) → AllByRecursion (IsOwnEntry ledger) (met_states ledger.genesis ledger.chain ledger.seen state history)
      → AllByRecursion (IsOwnEntry (record ledger { history = after; seen = ledger.seen ++ more })) (met_states ledger.genesis ledger.chain (ledger.seen ++ more) state history)
  entries_stay state [] own = tt
  entries_stay state (e ∷ history) own = (
    own_stays ledger after more (state, e) own.0,
    subst (λ (w : Reply × LedgerState). AllByRecursion (IsOwnEntry (record ledger { history = after; seen = ledger.seen ++ more })) (met_states ledger.genesis ledger.chain (ledger.seen ++ more) w.1 history))
        (sym (entry_stays ledger.genesis ledger.chain ledger.seen more state e own.0.reading))
        (entries_stay (entry_answer ledger.genesis ledger.chain ledger.seen state e).1 history own.1),
  )

all_and_last : (P : LedgerState × StampedEntry → Type 0) (genesis : GenesisState) (k : ℕ) (seen : List Publication) (state : LedgerState) (history : List StampedEntry) (e : StampedEntry)
    → AllByRecursion P (met_states genesis k seen state history) → P (replay genesis k seen state history, e) → AllByRecursion P (met_states genesis k seen state (history ++ e ∷ []))
all_and_last P genesis k seen state [] e all last = (last, tt)
all_and_last P genesis k seen state (x ∷ history) e all last = (all.0, all_and_last P genesis k seen (entry_answer genesis k seen state x).1 history e all.1 last)

-- ---- stamps

abbrev IsUpTo : ℕ → StampedEntry → Type 0
IsUpTo most e = IfSome e.stamp (λ n. n ≤ most)

stamp_seen : (window chain : ℕ) (seen : List Publication) (e : StampedEntry) → is_some e.stamp ≡ keeps_a_stamp e → IsReading window seen e → IsOwnBlock chain seen e → IsUpTo (length seen) e
stamp_seen window chain seen e stamped reading block = by_stamp e.stamp refl
  where
    by_reading : (o : Option Reading) → is_some o ≡ true
        → IfSome o (λ r. (header : Header) × (n : ℕ) × (header_in e.entry.event ≡ Some header) × (e.stamp ≡ Some n) × (n ≤ length seen) × (reading_fits window (height_among header.chain n seen) header.height r ≡ true)) → IsUpTo (length seen) e
    by_reading None there w = absurd (cc)
    by_reading (Some read) there w = subst (λ (o : Option ℕ). IfSome o (λ m. m ≤ length seen)) (sym w.3) w.4

    of_block : is_accepted_block e.entry ≡ true → IsUpTo (length seen) e
    of_block accepted =
        let w = block accepted in
        subst (λ (o : Option ℕ). IfSome o (λ m. m ≤ length seen)) (sym w.2) (slice_get_within seen w.0 w.1 w.3)

    by_stamp : (o : Option ℕ) → e.stamp ≡ o → IsUpTo (length seen) e
    by_stamp None is = subst (λ (o : Option ℕ). IfSome o (λ m. m ≤ length seen)) (sym is) tt
    by_stamp (Some n) is =
        let keeps : keeps_a_stamp e ≡ true = sym stamped ∙ ap is_some is in
        ⊎_elim (λ (read : is_some e.entry.reading ≡ true). by_reading e.entry.reading read reading) of_block (or_cases (is_some e.entry.reading) (is_accepted_block e.entry) keeps)

stamps_seen : (ledger : Ledger) (state : LedgerState) (history : List StampedEntry) → AllByRecursion (IsOwnEntry ledger) (met_states ledger.genesis ledger.chain ledger.seen state history)
    → AllByRecursion (IsUpTo (length ledger.seen)) history
stamps_seen ledger state [] own = tt
stamps_seen ledger state (e ∷ history) own = (
  stamp_seen ledger.genesis.window ledger.chain ledger.seen e own.0.stamped own.0.reading own.0.block,
  stamps_seen ledger (entry_answer ledger.genesis ledger.chain ledger.seen state e).1 history own.1,
)

up_to : (most low : ℕ) (o : Option ℕ) → low ≤ most → IfSome o (λ n. n ≤ most) → unwrap_or o low ≤ most
up_to most low None l s = l
up_to most low (Some n) l s = s

more_than : (low most : ℕ) (e : StampedEntry) (o : Option ℕ) → low ≤ most → IfSome o (λ n. (most ≤ n) × (is_accepted_block e.entry ≡ true → most < n)) → IfSome o (λ n. (low ≤ n) × (is_accepted_block e.entry ≡ true → low < n))
more_than low most e None l s = tt
more_than low most e (Some n) l s = (let a = s.0 in omega arith, λ accepted. let a = s.1 accepted in omega arith)

rising_on : (low most : ℕ) (history : List StampedEntry) (e : StampedEntry) → low ≤ most → AreRising low history → AllByRecursion (IsUpTo most) history
    → IfSome e.stamp (λ n. (most ≤ n) × (is_accepted_block e.entry ≡ true → most < n)) → AreRising low (history ++ e ∷ [])
rising_on low most [] e l rising seen last = (more_than low most e e.stamp l last, tt)
rising_on low most (x ∷ history) e l rising seen last = (rising.0, rising_on (unwrap_or x.stamp low) most history e (up_to most low x.stamp l seen.0) rising.1 seen.1 last)

-- the tree of a committed block isn't too deep
abbrev pub IsSmall : Block → Type 0
IsSmall block = length (image block.records.core) < 2 ^ 64

-- ---- ledgers

module _ (ledger : Ledger) (more : List Publication) (is : IsLedger ledger) where
  same_state : state_of (with_seen ledger more) ≡ state_of ledger
  same_state = replay_stays ledger ledger.chain more (starting_state ledger.genesis ledger.chain) ledger.history is.entries

  sees_more : published_by ledger.chain (ledger.seen ++ more) ≡ published_by ledger.chain ledger.seen → IsLedger (with_seen ledger more)
  sees_more others = record {
    number = is.number;
    entries = entries_stay ledger ledger.history more (starting_state ledger.genesis ledger.chain) ledger.history is.entries;
    published = others ∙ is.published ∙ ap (λ (s : LedgerState). map (published_as ledger.chain) s.chain.committed) (sym same_state);
    stamps = is.stamps;
    small = subst (λ (s : LedgerState). AllByRecursion IsSmall s.chain.committed) (sym same_state) is.small;
  }

  module _ (e : StampedEntry) (next : IsNext ledger e more) where
    next_state : state_of (with_entry ledger e more) ≡ state_with ledger e more
    next_state =
        replay_more ledger.genesis ledger.chain (ledger.seen ++ more) (starting_state ledger.genesis ledger.chain) ledger.history e
        ∙ ap (λ (s : LedgerState). (entry_answer ledger.genesis ledger.chain (ledger.seen ++ more) s e).1) same_state

    own_entries : AllByRecursion (IsOwnEntry (with_entry ledger e more)) (met_by (with_entry ledger e more))
    own_entries =
        all_and_last (IsOwnEntry (with_entry ledger e more)) ledger.genesis ledger.chain (ledger.seen ++ more) (starting_state ledger.genesis ledger.chain) ledger.history e
        (entries_stay ledger (ledger.history ++ e ∷ []) more (starting_state ledger.genesis ledger.chain) ledger.history is.entries)
        (subst (λ (s : LedgerState). IsOwnEntry (with_entry ledger e more) (s, e)) (sym same_state) next.own)

    goes_on : IsLedger (with_entry ledger e more)
    goes_on = record {
      number = is.number;
      entries = own_entries;
      published = next.published ∙ ap (λ (s : LedgerState). map (published_as ledger.chain) s.chain.committed) (sym next_state);
      stamps = rising_on 0 (length ledger.seen) ledger.history e (omega arith) is.stamps (stamps_seen ledger (starting_state ledger.genesis ledger.chain) ledger.history is.entries) next.stamp;
      small = subst (λ (s : LedgerState). AllByRecursion IsSmall s.chain.committed) (sym next_state) next.small;
    }

pub ledgers_see_more : LedgersSeeMore
ledgers_see_more ledger more is others = (sees_more ledger more is others, same_state ledger more is)

pub ledgers_go_on : LedgersGoOn
ledgers_go_on ledger e more is next = (goes_on ledger more is e next, next_state ledger more is e next)

pub all_last : {A : Type 0} (P : A → Type 0) (xs : List A) (last : A) → AllByRecursion P xs → P last → AllByRecursion P (xs ++ last ∷ [])
all_last P [] last all is = (is, tt)
all_last P (x ∷ xs) last all is = (all.0, all_last P xs last all.1 is)

-- ---- messages

of_message : (m : Message) (state : LedgerState) (x : Checked (Effect × Core × Apps)) → (after_answer m state (after_message state.chain x)).1.chain.committed ≡ state.chain.committed
of_message m state (Ok w) = refl
of_message m state (Err r) = refl

pub message_commits : (genesis : GenesisState) (k : ℕ) (seen : List Publication) (reading : Option Reading) (state : LedgerState) (c : ℕ) (m : Message)
    → (ledger_answer genesis k seen reading state (event.Message c m)).1.chain.committed ≡ state.chain.committed
unfolding ledger_answer
message_commits genesis k seen reading state c m = of_message m state (handle m (proof_evidence seen reading state) (host_of (length genesis.chains) k state.chain) state.chain.records.core state.chain.records.apps)

-- what was read, with the stamp of all that is seen
is_reading : (window : ℕ) (seen : List Publication) (ev : Event) (given : Reply) (reading : Option Reading) → IsFittingReading window seen ev reading → IsReading window seen (entry_of ev given reading (stamp_if (is_some reading) seen))
is_reading window seen ev given None reads = tt
is_reading window seen ev given (Some r) reads =
    (reads.0, length seen, reads.1, refl, omega arith, ap (λ xs. reading_fits window (height_of reads.0.chain xs) reads.0.height r) (take_all (length seen) seen (omega arith)) ∙ reads.2)

-- the reply is the ledger's, where so many more publications are seen and this was read; no block is committed
pub record IsReplied (ledger : Ledger) (more : List Publication) (ev : Event) (given : Reply) (reading : Option Reading) : Type 0 where
  pub own : is_own_event ledger.chain (entry_of ev given reading None) ≡ true
  pub reply : given ≡ (ledger_answer ledger.genesis ledger.chain (ledger.seen ++ more) reading (state_of ledger) ev).0
  pub no_block : is_block_reply given ≡ false
  pub looking : is_some reading ≡ is_looking (state_of ledger) ev
  pub reads : IsFittingReading ledger.genesis.window (ledger.seen ++ more) ev reading
  pub commits : (ledger_answer ledger.genesis ledger.chain (ledger.seen ++ more) reading (state_of ledger) ev).1.chain.committed ≡ (state_of ledger).chain.committed

module _ (ledger : Ledger) (more : List Publication) (is : IsLedger ledger) where
  pub answer_next : (ev : Event) (given : Reply) (reading : Option Reading) → published_by ledger.chain (ledger.seen ++ more) ≡ published_by ledger.chain ledger.seen
      → IsReplied ledger more ev given reading → IsNext ledger (entry_of ev given reading (stamp_if (is_some reading) (ledger.seen ++ more))) more
  answer_next ev given reading others answer = record {
    own = record {
      event = answer.own;
      reply = answer.reply;
      looking = answer.looking;
      reading = is_reading ledger.genesis.window (ledger.seen ++ more) ev given reading answer.reads;
      block = λ accepted. absurd (false≢true (sym answer.no_block ∙ accepted));
      stamped = by_reading reading;
    };
    stamp = late reading;
    published = others ∙ is.published ∙ ap (map (published_as ledger.chain)) (sym answer.commits);
    small = subst (AllByRecursion IsSmall) (sym answer.commits) is.small;
  }
    where
      by_reading : (o : Option Reading) → is_some (stamp_if (is_some o) (ledger.seen ++ more)) ≡ (is_some o || is_block_reply given)
      by_reading (Some r) = refl
      by_reading None = sym answer.no_block

      late : (o : Option Reading) → IfSome (stamp_if (is_some o) (ledger.seen ++ more)) (λ n. (length ledger.seen ≤ n) × (is_block_reply given ≡ true → length ledger.seen < n))
      late (Some r) = (let e = length-append ledger.seen more in omega arith, λ accepted. absurd (false≢true (sym answer.no_block ∙ accepted)))
      late None = tt

  -- ---- blocks

  -- the working block as its chain publishes it
  abbrev pub working : Publication
  working = published_as ledger.chain (working_block (state_of ledger).chain)

  module _ (next_time : ℕ) (fits : next_time < 2 ^ 64) where
    event_typed : is_own_event ledger.chain (entry_of (event.Block ledger.chain next_time) (reply.Ok effect.None) None None) ≡ true
    event_typed = and_from (eqb ledger.chain ledger.chain) (nat_lt next_time (2 ^ 64)) (eq-eqb ledger.chain ledger.chain refl) (lt-ltb next_time (2 ^ 64) fits)

    pub block_answer-by : (x : Checked ⊤) → may_commit ledger.genesis.capacity (state_of ledger).chain next_time ≡ x
        → ledger_answer ledger.genesis ledger.chain (ledger.seen ++ more) None (state_of ledger) (event.Block ledger.chain next_time) ≡ with_chain (state_of ledger) (after_block (state_of ledger).chain next_time x)
    unfolding ledger_answer
    block_answer-by x e = ap (λ x. with_chain (state_of ledger) (after_block (state_of ledger).chain next_time x)) e

    -- a block that is refused leaves all but what was seen
    pub refused_block : (refusal : Refusal) → may_commit ledger.genesis.capacity (state_of ledger).chain next_time ≡ Err refusal
        → IsReplied ledger more (event.Block ledger.chain next_time) (reply.No refusal) None
    refused_block refusal e =
        let answer = block_answer-by (Err refusal) e in
        record {
          own = event_typed;
          reply = sym (ap (λ (w : Reply × LedgerState). w.0) answer);
          no_block = refl;
          looking = refl;
          reads = tt;
          commits = ap (λ (w : Reply × LedgerState). w.1.chain.committed) answer;
        }

    -- a block that is ended is the last publication
    pub ended_block_next : length (image (state_of ledger).chain.records.core) < 2 ^ 64 → (allowed : ⊤) → may_commit ledger.genesis.capacity (state_of ledger).chain next_time ≡ Ok allowed
        → Publishes ledger.seen working (ledger.seen ++ more) → published_by ledger.chain (ledger.seen ++ more) ≡ published_by ledger.chain ledger.seen ++ working ∷ []
        → IsNext ledger (entry_of (event.Block ledger.chain next_time) (reply.Ok (effect.Block (working_height (state_of ledger).chain) (core_root (state_of ledger).chain.records.core))) None (Some (length (ledger.seen ++ more)))) more
    ended_block_next small allowed e publishes own_last =
        let w = Publishes-last ledger.seen (ledger.seen ++ more) working publishes in
        record {
          own = record {
            event = event_typed;
            reply = sym (ap (λ (w : Reply × LedgerState). w.0) (block_answer-by (Ok allowed) e));
            looking = refl;
            reading = tt;
            block = λ accepted. (w.0, working, ap Some w.2, w.3, refl);
            stamped = refl;
          };
          stamp = (let low = w.1 in let long = w.2 in omega arith, λ accepted. let low = w.1 in let long = w.2 in omega arith);
          published = own_last ∙ ap (λ xs. xs ++ working ∷ []) is.published ∙ sym (map-append (published_as ledger.chain) (state_of ledger).chain.committed (working_block (state_of ledger).chain ∷ []))
              ∙ ap (λ (w : Reply × LedgerState). map (published_as ledger.chain) w.1.chain.committed) (sym (block_answer-by (Ok allowed) e));
          small = subst (λ (w : Reply × LedgerState). AllByRecursion IsSmall w.1.chain.committed) (sym (block_answer-by (Ok allowed) e)) (all_last IsSmall (state_of ledger).chain.committed (working_block (state_of ledger).chain) is.small small);
        }
