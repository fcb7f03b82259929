-- What a ledger keeps stays in order where its pass sees more, and where its history gets longer: by a message, too.
use Rattle.ibc_ledger.proofs.Common.{inr, ℕ, ◌≤◌, IfSome, ◌≡◌, ◌++◌, ◌∷◌, [], List, length, map, sym, ap, ◌∙◌, subst, map-append, length-map, Bool, true, false, refl, Some, None, Option, is_some, Result, Ok, Err, inl, arith, length-append}
use Rattle.ibc_ledger.proofs.Common.{IfOk, ⊤, IsPrefix, NoMemory, published_by, Publication, Refusal, height_of, Message, UpdateClient, ReadsThen, Reply, Event, StampedEntry, Ledger, Happened, Reading, update_client, LedgerState, proof_evidence}
use Rattle.ibc_ledger.proofs.Common.{state_of, is_typed, is_looking, is_block_reply, reading_fits, IsReadBetween, Apps, Sight, SamePass, KeepsOwn, TableName, core_of, IsUnchanged, host_with, IsUpdated, IsInFlight, same_flight, AddsOrNot}
use Rattle.ibc_ledger.proofs.Common.{ledger_model, LedgerModel, HostState, abstract_apps, KeptEntry, Inside, with_entry, IsReplayedState, abstract_entry, happened_of, happened_on, Places, AreFirst, sent_name, with_first, genesis_of, ledger_of, IsSoundLedger, Applications}
use Rattle.ibc_ledger.proofs.Common.{EffectTwice, result_effects, caller_reply, history_reply, entry_of, stamp_if, IsFittingReading, IsAnswered, IsUpdateAnswer, IsAnswer}
use Rattle.ibc_machine.proofs.flight.UnchangedChannels.{update_client_burnt}
use Rattle.ibc_root_table.specs.declared.shape.Shape.{Shape}
use Rattle.ibc_records.specs.HeaderChecks.{is_reading_update}
use Rattle.ibc_ledger.specs.declared.outcome.Outcome.{Outcome}
use Rattle.ibc_machine.specs.declared.reply.Reply.TheVariants as reply
use Rattle.ibc_wire.specs.declared.messages.Message.TheVariants as message
use Rattle.ibc_machine.specs.declared.event.Event.TheVariants as event
use Rattle.ibc_machine.specs.declared.reply.Effect.TheVariants as effect
use Rattle.ibc_ledger.proofs.SentPlaces.{first_more}
use Rattle.ibc_ledger.proofs.AnsweredMessages.{stands_unchanged, TellsNothing, Leaves, stands_left, unread_leaves, update_leaves}

-- a step changes the records, the applications, the pass, the history and the places in it, and nothing else
abbrev pub IsStepped : Inside → Inside → Type 0
IsStepped l new =
    new ≡ record l {
      node = record l.node { records = new.node.records; applications = new.node.applications };
      pass = new.pass;
      history = new.history;
      sent = new.sent;
    }

-- the ledger of these entries and publications
abbrev with_parts : Inside → List StampedEntry → List Publication → Ledger
with_parts l history seen = record { genesis = genesis_of l; chain = l.node.number; history = history; seen = seen }

-- an entry that a ledger adds, with what is held after it and what its pass has seen by then
pub record IsEntry (l : Inside) (ev : Event) (given : Reply) (e : StampedEntry) (node : HostState) (pass : Sight) : Type 0 where
  pub its_event : e.entry.event ≡ ev
  pub its_reply : e.entry.reply ≡ given
  pub same : node ≡ record l.node { records = node.records; applications = node.applications }
  pub kept : SamePass l.pass pass
  pub prefix : IsPrefix l.pass.seen pass.seen
  pub stands : IsReplayedState (with_entry (ledger_of l) e prefix.0) node.records (abstract_apps node.applications)
  pub flight : IsInFlight node.applications.transfers (core_of node.records)
  pub plenty : given ≡ reply.No NoMemory → ⊥
  pub late : IfSome e.stamp (λ n. length l.pass.seen ≤ n)
  pub was_so : ReadsThen l.pass.seen (l.pass.seen ++ prefix.0) e.entry

-- a chain's own pass had seen all that the chain has published
pub others_publish : (l : Inside) → IsSoundLedger l → (pass : Sight) (prefix : IsPrefix l.pass.seen pass.seen) → KeepsOwn l.pass pass → published_by l.node.number (l.pass.seen ++ prefix.0) ≡ published_by l.node.number l.pass.seen
others_publish l held pass prefix keeps = ap (published_by l.node.number) prefix.1 ∙ keeps l.node.number held.own

module _ (l : Inside) (held : IsSoundLedger l) (new : Inside) (stepped : IsStepped l new) (same : SamePass l.pass new.pass) where
  held_by : (history : List StampedEntry) (seen : List Publication) → history ≡ map abstract_entry new.history.items → seen ≡ new.pass.seen
      → IsReplayedState (with_parts l history seen) new.node.records (abstract_apps new.node.applications) → IsInFlight new.node.applications.transfers (core_of new.node.records) → AreFirst new.sent.pairs (map happened_of history) → IsSoundLedger new
  held_by history seen is sees stands flight sent = subst IsSoundLedger (sym stepped) (record {
    stands = subst (λ (w : List StampedEntry × List Publication). IsReplayedState (with_parts l w.0 w.1) new.node.records (abstract_apps new.node.applications)) (λ i. (is i, sees i)) stands;
    flight = flight;
    allowed = held.allowed;
    table = same.0 ∙ held.table;
    own = same.1 ∙ held.own;
    shape = held.shape;
    chains = held.chains;
    capacity = held.capacity;
    sent = subst (λ (w : List StampedEntry). AreFirst new.sent.pairs (map happened_of w)) is sent;
  })

  -- memory ran out, or passes met
  pub still_held : IsPrefix l.pass.seen new.pass.seen → KeepsOwn l.pass new.pass → IsUnchanged l.node.records new.node.records → abstract_apps new.node.applications ≡ abstract_apps l.node.applications → IsInFlight new.node.applications.transfers (core_of new.node.records) → new.history.items ≡ l.history.items → new.sent.pairs ≡ l.sent.pairs → IsSoundLedger new
  still_held prefix keeps unchanged kept flight items sent =
      held_by (map abstract_entry l.history.items) (l.pass.seen ++ prefix.0) (ap (map abstract_entry) (sym items)) prefix.1
      (stands_unchanged (ledger_of l) l.node.records (abstract_apps l.node.applications) held.stands prefix.0 (others_publish l held new.pass prefix keeps) new.node.records (abstract_apps new.node.applications) unchanged kept)
      flight (subst (λ places. AreFirst places (map happened_of (map abstract_entry l.history.items))) (sym sent) held.sent)

-- there is one entry more
module _ (l : Inside) (held : IsSoundLedger l) (ev : ℕ → Event) (given : Reply) (kept : KeptEntry) (new : Inside) (entry : IsEntry l (ev l.node.number) given (abstract_entry kept) new.node new.pass)
    (rest : new ≡ record l { node = new.node; pass = new.pass; history = new.history; sent = new.sent }) (items : new.history.items ≡ l.history.items ++ kept ∷ []) where
  stepped : IsStepped l new
  stepped = rest ∙ (λ i. record l { node = entry.same i; pass = new.pass; history = new.history; sent = new.sent })

  history : map abstract_entry l.history.items ++ abstract_entry kept ∷ [] ≡ map abstract_entry new.history.items
  history = sym (map-append abstract_entry l.history.items (kept ∷ [])) ∙ ap (map abstract_entry) (sym items)

  pub held_with : new.sent.pairs ≡ with_first (sent_name (happened_of (abstract_entry kept))) (length l.history.items) l.sent.pairs → IsSoundLedger new
  held_with sent =
      let happened = happened_of (abstract_entry kept) in
      let as_long = length-map (map abstract_entry l.history.items) happened_of ∙ length-map l.history.items abstract_entry in
      let places = ap (λ n. with_first (sent_name happened) n l.sent.pairs) as_long ∙ sym sent in
      held_by l held new stepped entry.kept (map abstract_entry l.history.items ++ abstract_entry kept ∷ []) (l.pass.seen ++ entry.prefix.0) history entry.prefix.1 entry.stands entry.flight
      (subst (λ (w : Places × List Happened). AreFirst w.0 w.1) (λ i. (places i, sym (map-append happened_of (map abstract_entry l.history.items) (abstract_entry kept ∷ [])) i))
      (first_more l.sent.pairs (happened_on (ledger_of l)) held.sent happened))

  pub adds : (old : LedgerModel) → ledger_model l ≡ old → AddsOrNot old.ledger (ev old.ledger.chain) given (ledger_of new)
  adds old view =
      let longer = ap ledger_of stepped ∙ (λ i. record { genesis = genesis_of l; chain = l.node.number; history = (sym history) i; seen = (sym entry.prefix.1) i }) in
      subst (λ (h : LedgerModel). AddsOrNot h.ledger (ev h.ledger.chain) given (ledger_of new)) view
      (inr (entry.plenty, (abstract_entry kept, entry.prefix.0, entry.its_event, entry.its_reply, longer, entry.late, entry.was_so)))

-- memory ran out, and the pass may have seen more
pub not_added : (l new : Inside) → IsStepped l new → IsPrefix l.pass.seen new.pass.seen → new.history.items ≡ l.history.items → (ev : ℕ → Event) (old : LedgerModel) → ledger_model l ≡ old
    → AddsOrNot old.ledger (ev old.ledger.chain) (reply.No NoMemory) (ledger_of new)
not_added l new stepped prefix items ev old view =
    subst (λ (h : LedgerModel). AddsOrNot h.ledger (ev h.ledger.chain) (reply.No NoMemory) (ledger_of new)) view
    (inl (refl, (prefix.0, ap ledger_of stepped ∙ (λ i. record { genesis = genesis_of l; chain = l.node.number; history = map abstract_entry (items i); seen = (sym prefix.1) i }))))

-- ---- a message that was answered

-- what an answer says of the ledger's state, and of what is held after it
pub record IsApplied (l : Inside) (more : List Publication) (stands : IsReplayedState (ledger_of l) l.node.records (abstract_apps l.node.applications))
    (others : published_by l.node.number (l.pass.seen ++ more) ≡ published_by l.node.number l.pass.seen) (m : Message) (outcome : Outcome) (new : HostState) : Type 0 where
  pub same : new ≡ record l.node { records = new.records; applications = new.applications }
  pub leaves : Leaves (ledger_of l) l.node.records (abstract_apps l.node.applications) stands more others m outcome.reading new.records (abstract_apps new.applications) outcome.result
  pub flight : IsInFlight new.applications.transfers (core_of new.records)
  pub kept : history_reply outcome.result ≡ caller_reply outcome.result
  pub no_block : is_block_reply (caller_reply outcome.result) ≡ false
  pub looking : is_some outcome.reading ≡ is_looking (state_of (ledger_of l)) (event.Message l.node.number m)
  pub reads : IsFittingReading (genesis_of l).window (l.pass.seen ++ more) (event.Message l.node.number m) outcome.reading
  pub was_so : ReadsThen l.pass.seen (l.pass.seen ++ more) (record { event = event.Message l.node.number m; reply = caller_reply outcome.result; reading = outcome.reading })

told_none : (result : Result ⊤ Refusal) → (history_reply (result_effects (λ _. effect.None) result) ≡ caller_reply (result_effects (λ _. effect.None) result)) × (is_block_reply (caller_reply (result_effects (λ _. effect.None) result)) ≡ false)
told_none (Ok _) = (refl, refl)
told_none (Err r) = (refl, refl)

kept_as : (result : Result EffectTwice Refusal) → IfOk result (λ (effects : EffectTwice). effects.kept ≡ effects.told) → history_reply result ≡ caller_reply result
kept_as (Ok effects) kept = ap reply.Ok kept
kept_as (Err r) kept = refl

not_block : (result : Result EffectTwice Refusal) → IfOk result (λ (effects : EffectTwice). is_block_reply (reply.Ok effects.told) ≡ false) → is_block_reply (caller_reply result) ≡ false
not_block (Ok effects) no_block = no_block
not_block (Err r) no_block = refl

module _ (l : Inside) (held : IsSoundLedger l) (pass : Sight) (prefix : IsPrefix l.pass.seen pass.seen) (others : published_by l.node.number (l.pass.seen ++ prefix.0) ≡ published_by l.node.number l.pass.seen) (new : HostState) where
  abbrev pub Applied : Message → Outcome → Type 0
  Applied m outcome = IsApplied l prefix.0 held.stands others m outcome new

  of_unread : (m : Message) (outcome : Outcome) → TellsNothing m → ((state : LedgerState) → is_looking state (event.Message l.node.number m) ≡ false)
      → IsAnswered m l.node outcome.result new → outcome.reading ≡ None → Applied m outcome
  of_unread m outcome tells looks answer unread =
      subst (λ (o : Option Reading). Applied m (record outcome { reading = o })) (sym unread) (record {
        same = answer.same;
        leaves = unread_leaves (ledger_of l) l.node.records (abstract_apps l.node.applications) held.stands prefix.0 others l.node.chains held.chains m tells new.records (abstract_apps new.applications) outcome.result answer.handled;
        flight = answer.flight;
        kept = kept_as outcome.result answer.kept;
        no_block = not_block outcome.result answer.no_block;
        looking = sym (looks (state_of (ledger_of l)));
        reads = tt;
        was_so = tt;
      })

  module _ (m : UpdateClient) (outcome : Outcome) (answer : IsUpdateAnswer m l.node l.pass outcome new pass) where
    -- what was read fits what was seen by then, and was so at some time of the call
    reads : (reading : Option Reading) → IfSome reading (λ r. reading_fits l.pass.table.shape.window (height_of m.header.chain pass.seen) m.header.height r ≡ true)
        → IfSome reading (λ r. IsReadBetween l.pass.seen pass.seen m.header.chain r.published)
        → IsFittingReading (genesis_of l).window (l.pass.seen ++ prefix.0) (event.Message l.node.number (message.UpdateClient m)) reading
        × ReadsThen l.pass.seen (l.pass.seen ++ prefix.0) (record { event = event.Message l.node.number (message.UpdateClient m); reply = caller_reply outcome.result; reading = reading })
    reads None fits so = (tt, tt)
    reads (Some r) fits so =
        let fitted = subst (λ (z : Shape × List Publication). reading_fits z.0.window (height_of m.header.chain z.1) m.header.height r ≡ true)
        (λ i. ((ap (λ (t : TableName). t.shape) held.table ∙ held.shape) i, (sym prefix.1) i)) fits in
        ((m.header, refl, fitted), subst (λ seen. IsReadBetween l.pass.seen seen m.header.chain r.published) (sym prefix.1) so)

    updated : IsUpdated (update_client m (proof_evidence (l.pass.seen ++ prefix.0) outcome.reading (state_of (ledger_of l))) (host_with l.node.number l.node.chains l.node.records) (core_of l.node.records)) m l.node.records answer.result new.records
    updated =
        subst (λ seen. IsUpdated (update_client m (proof_evidence seen outcome.reading (state_of (ledger_of l))) (host_with l.node.number l.node.chains l.node.records) (core_of l.node.records)) m l.node.records answer.result new.records)
        (sym prefix.1) (answer.updated (state_of (ledger_of l)))

    flight_after : (result : Result ⊤ Refusal)
        → IsUpdated (update_client m (proof_evidence (l.pass.seen ++ prefix.0) outcome.reading (state_of (ledger_of l))) (host_with l.node.number l.node.chains l.node.records) (core_of l.node.records)) m l.node.records result new.records
        → IsInFlight l.node.applications.transfers (core_of new.records)
    flight_after (Ok _) did =
        same_flight l.node.applications.transfers l.node.applications.transfers (core_of l.node.records) (core_of new.records) held.flight refl
        ((update_client_burnt _ _ (core_of l.node.records) m).gives (effect.None, core_of new.records) did.0)
    flight_after (Err r) refused = subst (IsInFlight l.node.applications.transfers) (sym (ap core_of refused.1)) held.flight

    of_update : Applied (message.UpdateClient m) outcome
    of_update =
        let apps = ap (λ (n : HostState). n.applications) answer.same in
        record {
          same = answer.same ∙ (λ i. record l.node { records = new.records; applications = (sym apps) i });
          leaves = subst (λ (w : Apps × Result EffectTwice Refusal). Leaves (ledger_of l) l.node.records (abstract_apps l.node.applications) held.stands prefix.0 others (message.UpdateClient m) outcome.reading new.records w.0 w.1)
              (λ i. (abstract_apps (sym apps i), sym answer.told i))
              (update_leaves (ledger_of l) l.node.records (abstract_apps l.node.applications) held.stands prefix.0 others l.node.chains held.chains m new.records outcome.reading answer.result updated);
          flight = subst (λ (a : Applications). IsInFlight a.transfers (core_of new.records)) (sym apps) (flight_after answer.result updated);
          kept = subst (λ r. history_reply r ≡ caller_reply r) (sym answer.told) (told_none answer.result).0;
          no_block = subst (λ r. is_block_reply (caller_reply r) ≡ false) (sym answer.told) (told_none answer.result).1;
          looking = answer.looks ∙ ap (λ core. is_reading_update core m) held.stands.holds.core;
          reads = (reads outcome.reading answer.fits answer.was_so).0;
          was_so = (reads outcome.reading answer.fits answer.was_so).1;
        }

  pub applied : (m : Message) (outcome : Outcome) → IsAnswer m l.node l.pass outcome new pass → Applied m outcome
  applied (message.UpdateClient m) outcome answer = of_update m outcome answer
  applied m outcome answer = of_unread m outcome (λ known. refl) (λ state. refl) answer.0 answer.1

-- a reply that isn't want of memory
has_memory : (result : Result EffectTwice Refusal) → (result ≡ Err NoMemory → ⊥) → caller_reply result ≡ reply.No NoMemory → ⊥
has_memory (Ok effects) plenty is = absurd (cc is)
has_memory (Err r) plenty is = plenty (let same : r ≡ NoMemory = cc in ap Err same)

-- a stamp counts all that was seen before
late_stamp : (b : Bool) (seen more : List Publication) → IfSome (stamp_if b (seen ++ more)) (λ n. length seen ≤ n)
late_stamp true seen more = let e = length-append seen more in omega arith
late_stamp false seen more = tt

module _ (l : Inside) (held : IsSoundLedger l) (pass : Sight) (prefix : IsPrefix l.pass.seen pass.seen) (others : published_by l.node.number (l.pass.seen ++ prefix.0) ≡ published_by l.node.number l.pass.seen)
    (m : Message) (outcome : Outcome) (new : HostState) (applied : IsApplied l prefix.0 held.stands others m outcome new) where
  -- the entry of a message
  pub entry_applied : is_typed (event.Message l.node.number m) ≡ true → (outcome.result ≡ Err NoMemory → ⊥) → SamePass l.pass pass
      → IsEntry l (event.Message l.node.number m) (caller_reply outcome.result) (entry_of (event.Message l.node.number m) (caller_reply outcome.result) outcome.reading (stamp_if (is_some outcome.reading) (l.pass.seen ++ prefix.0))) new pass
  entry_applied typed plenty same = record {
    its_event = refl;
    its_reply = refl;
    same = applied.same;
    kept = same;
    prefix = prefix;
    stands = stands_left (ledger_of l) l.node.records (abstract_apps l.node.applications) held.stands prefix.0 others m outcome.reading new.records (abstract_apps new.applications) typed applied.looking applied.reads
        outcome.result applied.no_block plenty applied.leaves;
    flight = applied.flight;
    plenty = has_memory outcome.result plenty;
    late = late_stamp (is_some outcome.reading) l.pass.seen prefix.0;
    was_so = applied.was_so;
  }

  -- what is left where memory ran out
  pub unchanged_applied : outcome.result ≡ Err NoMemory → IsUnchanged l.node.records new.records × (abstract_apps new.applications ≡ abstract_apps l.node.applications)
  unchanged_applied none =
      let left = subst (Leaves (ledger_of l) l.node.records (abstract_apps l.node.applications) held.stands prefix.0 others m outcome.reading new.records (abstract_apps new.applications)) none applied.leaves in
      (left.1, left.2)
