-- A world stays beside its journal.
use Rattle.std.proofs.Common.{◌≡◌, ℕ, ◌+◌, ◌<◌, ◌==◌, true, false, List, [], ◌∷◌, ◌++◌, length, take, map, slice_get, Some, None, refl, sym, ap, ◌∙◌, subst, append-nil, length-append, eqb-true, arith}
use Rattle.std.specs.Prelude.{IsTrue}
use Rattle.std.proofs.lemmas.List.{take_more, take_all, length-map}
use Rattle.std.proofs.lemmas.Option.{slice_get_within, get_or_from_slice_get}
use Rattle.sqlite.specs.Tree.{Trees}
use Rattle.sqlite.specs.State.{State, IsUnchanged}
use Rattle.ibc_ids.specs.declared.refusal.Refusal.{Refusal}
use Rattle.ibc_machine.specs.declared.event.Event.{Event}
use Rattle.ibc_machine.specs.declared.reply.Reply.{Reply}
use Rattle.ibc_machine.specs.declared.reply.Reply.TheVariants.{No}
use Rattle.ibc_machine.specs.declared.entry.Entry.{Entry}
use Rattle.ibc_machine.specs.chain.Genesis.{GenesisState, is_allowed}
use Rattle.ibc_machine.specs.promises.Worlds.{entries, interleaved}
use Rattle.ibc_refinement.specs.World.{WorldState, kept_entries}
use Rattle.ibc_world_core.specs.EveryWorld.{IsLawfulUnlessClash}
use Rattle.ibc_replay.specs.Replays.{IsReplay, IsBeginning}
use Rattle.ibc_replay.proofs.StoredSteps.{goes_nowhere, goes_on_more, is_replay}
use Rattle.ibc_journal.specs.declared.cursor.Cursor.{Cursor}
use Rattle.ibc_journal.specs.declared.entry.JournalEntry.{JournalEntry}
use Rattle.ibc_journal.specs.Entries.{item, items_of}
use Rattle.ibc_journal.specs.Tables.{JournalItem, IsJournal}
use Rattle.ibc_journal.specs.Digests.{HasReadTo, HasReadAll}
use Rattle.ibc_journal.specs.Crashes.{LeavesWith}
use Rattle.ibc_journal.specs.Restarts.{IsAtRest}
use Rattle.ibc_journal.proofs.Chained.{reads_on}
use Rattle.ibc_node.specs.declared.node.KeptAnswer.{KeptAnswer}
use Rattle.ibc_node.specs.Kept.{IsKeptAs, AreKeptAs, KeepsItem, WhyNotKept, IsAskedInVain, ReplaysOne, HasReplayed}
use Rattle.ibc_node.specs.Nodes.{IsBeside, IsGenesisText, IsRestarted, IsBegun, TakesOn, LeavesWaiting}

-- ---- one entry more

pub kept_more : (entries : List Entry) (items : List JournalItem) (e : Entry) (it : JournalItem) → AreKeptAs entries items → IsKeptAs e it → AreKeptAs (entries ++ e ∷ []) (items ++ it ∷ [])
kept_more [] [] e it kept is = (is, tt)
kept_more [] (i ∷ items) e it kept is = absurd kept
kept_more (x ∷ entries) [] e it kept is = absurd kept
kept_more (x ∷ entries) (i ∷ items) e it kept is = (kept.0, kept_more entries items e it kept.1 is)

pub kept_next : (entries : List Entry) (items : List JournalItem) (place : ℕ) (e : Entry) (it : JournalItem) → AreKeptAs entries (take place items) → slice_get items place ≡ Some it → IsKeptAs e it
    → AreKeptAs (entries ++ e ∷ []) (take (place + 1) items)
kept_next entries items place e it kept there is =
    let low = slice_get_within items place it there in
    let front : take (place + 1) items ≡ take place items ++ it ∷ [] = take_more items place it low ∙ ap (λ x. take place items ++ x ∷ []) (get_or_from_slice_get items place it it there) in
    subst (AreKeptAs (entries ++ e ∷ [])) (sym front) (kept_more entries (take place items) e it kept is)

pub beside_item : (genesis : List ℕ) (old new : WorldState) (items : List JournalItem) (end after : Cursor) (event : Event) (reply : Reply) (it : JournalItem) → IsBeside genesis old items end
    → KeepsItem old end.last event reply it new → after ≡ record { place = end.place + 1; last = it.digest } → IsBeside genesis new (items ++ it ∷ []) after
beside_item genesis old new items end after event reply it beside keeps is = record {
  kept = subst (λ l. AreKeptAs l (items ++ it ∷ [])) (sym keeps.kept) (kept_more (kept_entries old) items keeps.entry it beside.kept keeps.stored);
  read = subst (HasReadAll genesis (items ++ it ∷ [])) (sym is) (reads_on genesis items it end beside.read keeps.due);
}

pub takes_nothing : (log_place : ℕ) (genesis : List ℕ) (old new : WorldState) (items waited : List JournalItem) (end : Cursor) (event : Event) (answer : KeptAnswer) (refusal : Refusal) → IsBeside genesis old items end
    → (kept_entries new ≡ kept_entries old) × WhyNotKept old event refusal × IsAskedInVain old event new → answer.place ≡ None → answer.reply ≡ No refusal → TakesOn log_place genesis items waited old end event answer new waited end
takes_nothing log_place genesis old new items waited end event answer refusal beside asked place reply = record {
  more = [];
  waits = sym (append-nil waited);
  told = (place, refusal, reply, asked.1);
  asked = asked.2;
  by = tt;
  beside = subst (λ l. IsBeside genesis new l end) (sym (append-nil items)) (record { kept = subst (λ l. AreKeptAs l items) (sym asked.0) beside.kept; read = beside.read });
}

pub takes_item : (log_place : ℕ) (genesis : List ℕ) (old new : WorldState) (items waited waiting : List JournalItem) (end after : Cursor) (event : Event) (answer : KeptAnswer) (it : JournalItem) → IsBeside genesis old items end
    → KeepsItem old end.last event answer.reply it new → answer.place ≡ Some end.place → waiting ≡ waited ++ it ∷ [] → after ≡ record { place = end.place + 1; last = it.digest }
    → it.log_place ≡ log_place → TakesOn log_place genesis items waited old end event answer new waiting after
takes_item log_place genesis old new items waited waiting end after event answer it beside keeps place waits is by = record {
  more = it ∷ [];
  waits = waits;
  told = (place, refl, keeps.entry, keeps.event_is, keeps.reply_is, keeps.stored);
  asked = keeps.steps;
  by = (by, tt);
  beside = beside_item genesis old new items end after event answer.reply it beside keeps is;
}

-- ---- what waits

-- the first place of what waits is behind all that is committed
pub first_behind : (genesis : List ℕ) (world : WorldState) (items : List JournalItem) (waiting : List JournalEntry) (end : Cursor) (first : ℕ) → IsBeside genesis world (items ++ items_of waiting) end
    → end.place ≡ first + length waiting → first ≡ length items
first_behind genesis world items waiting end first beside is =
    let long = length-append items (items_of waiting) in
    let many = length-map waiting item in
    omega (arith, is, long, many, beside.read.1)

-- no more entries wait than there are
pub no_more_wait : (genesis : List ℕ) (world : WorldState) (items : List JournalItem) (waiting : List JournalEntry) (end : Cursor) → IsBeside genesis world (items ++ items_of waiting) end
    → end.place < length waiting → ⊥
no_more_wait genesis world items waiting end beside more =
    let long = length-append items (items_of waiting) in
    let many = length-map waiting item in
    omega (arith, more, long, many, beside.read.1)

none_long : {A : Type 0} (xs : List A) → length xs ≡ 0 → xs ≡ []
none_long [] none = refl
none_long (x ∷ xs) none = absurd (omega arith)

pub none_among : {A : Type 0} (xs : List A) → (length xs == 0) ≡ true → xs ≡ []
none_among xs none = none_long xs (eqb-true (length xs) 0 none)

-- ---- a restart

pub stays_at_rest : (old new : State) (genesis : List ℕ) (items : List JournalItem) → IsUnchanged old new → IsAtRest old genesis items → IsAtRest new genesis items
stays_at_rest old new genesis items same rest = record {
  journal = subst (λ d. IsJournal d genesis items) (sym same.0.now_is) rest.journal;
  seen = same.0.now_is ∙ rest.seen ∙ sym same.0.committed_is;
  outside = same.0.mode ∙ rest.outside;
  is_open = same.0.is_open;
}

pub restarted : (text : List ℕ) (items : List JournalItem) (world : WorldState) (end : Cursor) (genesis : GenesisState) (past : List Entry) → IsGenesisText text genesis → IsReplay genesis past world
    → AreKeptAs past items → HasReadAll text items end → IsRestarted text items world end
restarted text items world end genesis past is replay kept read = record {
  genesis = genesis;
  text_is = is;
  replay = subst (λ l. IsReplay genesis l world) (sym replay.kept) replay;
  beside = record { kept = subst (λ l. AreKeptAs l items) (sym replay.kept) kept; read = read };
}

pub begun : (text : List ℕ) (world : WorldState) (end : Cursor) (genesis : GenesisState) → IsGenesisText text genesis → IsBeginning genesis world → HasReadTo text [] end → IsBegun text world end
begun text world end genesis is begins read =
    let none : kept_entries world ≡ [] = ap (λ order. interleaved order (map entries world.ledgers)) begins.order in
    record {
      genesis = genesis;
      text_is = is;
      world_is = begins;
      beside = record { kept = subst (λ l. AreKeptAs l []) (sym none) tt; read = (read, omega (arith, read.within)) };
    }

-- a crash leaves of what waited all or nothing
pub leaves_waiting : (old : State) (world : WorldState) (waiting : List JournalEntry) (end : Cursor) (first : ℕ) → end.place ≡ first + length waiting → (db : Trees) → LeavesWith old first (items_of waiting) db
    → LeavesWaiting old world (items_of waiting) end db
leaves_waiting old world waiting end first is db may genesis items has beside = may genesis items has (first_behind genesis world items waiting end first beside is)

-- what was put in is all that the journal is to have
pub at_rest_with : (new : State) (genesis : List ℕ) (items : List JournalItem) → IsJournal new.committed genesis items → new.now ≡ new.committed → new.in_transaction ≡ false → IsTrue new.is_open → IsAtRest new genesis items
at_rest_with new genesis items committed seen outside live = record {
  journal = subst (λ d. IsJournal d genesis items) (sym seen) committed;
  seen = seen;
  outside = outside;
  is_open = live;
}

-- one entry more is put to the world
pub reads_one : (items : List JournalItem) (place after : ℕ) (beginning mid new : WorldState) (it : JournalItem) → HasReplayed beginning (take place items) mid → Some it ≡ slice_get items place → ReplaysOne mid it new
    → after ≡ place + 1 → HasReplayed beginning (take after items) new
reads_one items place after beginning mid new it so_far there one next =
    subst (λ n. HasReplayed beginning (take n items) new) (sym next) (record {
      past = so_far.past ++ one.entry ∷ [];
      kept = kept_next so_far.past items place one.entry it so_far.kept (sym there) one.kept;
      goes_on = goes_on_more beginning mid new so_far.past one.entry so_far.goes_on one.goes_on;
    })

-- before the first entry the world has gone nowhere
pub nothing_read : (genesis : List ℕ) (items : List JournalItem) (end : Cursor) (beginning world : WorldState) → world ≡ beginning → HasReadTo genesis [] end → HasReplayed beginning (take end.place items) world
nothing_read genesis items end beginning world same none =
    let first : end.place ≡ 0 = omega (arith, none.within) in
    subst (λ n. HasReplayed beginning (take n items) world) (sym first)
    (subst (HasReplayed beginning []) (sym same) (record { past = []; kept = tt; goes_on = goes_nowhere beginning }))

-- behind the last entry all are put to the world
pub all_read : (beginning world : WorldState) (items : List JournalItem) (place : ℕ) → place ≡ length items → HasReplayed beginning (take place items) world → HasReplayed beginning items world
all_read beginning world items place is so_far = subst (λ l. HasReplayed beginning l world) (take_all place items (omega (arith, is))) so_far

-- the world to which all were put is the replay of what it keeps
pub restarts : (text : List ℕ) (items : List JournalItem) (genesis : GenesisState) (beginning world : WorldState) (end : Cursor) → IsGenesisText text genesis → IsBeginning genesis beginning
    → IsTrue (is_allowed genesis) → HasReplayed beginning items world → IsLawfulUnlessClash world → HasReadAll text items end → IsRestarted text items world end
restarts text items genesis beginning world end is begins allowed all lawful read =
    restarted text items world end genesis all.past is (is_replay genesis all.past beginning world allowed begins all.goes_on lawful) all.kept read
