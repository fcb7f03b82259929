-- A ledger with what it holds, in the beginning and after the end of a block.
use Rattle.ibc_ledger.proofs.Common.{◌≡◌, ℕ, ◌^◌, ◌<◌, ◌≤◌, ◌++◌, ◌∷◌, [], List, length, refl, sym, ap, ◌∙◌, subst, Some, None, Option, Result, Ok, Err, ⊎_elim, arith, append-nil, append_assoc, length-append, is_ok, ◌-◌, map, option_map}
use Rattle.ibc_ledger.proofs.Common.{option_and_then, unwrap_or, le-ltb, lt-ltb, le-leb, AllByRecursion, lt-leb, length-map, slice_get-map, nat_cmp, IsPrefix, Text, published_by, published_height, Publication, Refusal, NoMemory, TimeBack}
use Rattle.ibc_ledger.proofs.Common.{TableFull, text_cmp, at, Effect, Reply, MachineChain, StampedEntry, may_commit, working_height, image, core_root, published_as, state_of, Apps, Block, and_then, GenesisState, ChainState, starting_chain}
use Rattle.ibc_ledger.proofs.Common.{LedgerState, empty_chain, Ledger, StoreModel, store_after_commit, Sight, Publishes, own_chain, RecordsModel, core_of, ConsensusState, ClientModel, consensus_in, IsNew, IsInFlight, Inside, with_entry, result_effects}
use Rattle.ibc_ledger.proofs.Common.{caller_reply, history_reply, entry_of, stamp_if, working_block, IsReplayedState, abstract_apps, genesis_of, ledger_of, IsSoundLedger, passed_count, kept_of, IsStateOf, starting_apps, slice_get}
use Rattle.ibc_path_store.specs.StoreModel.{height_of}
use Rattle.ibc_records.specs.RecordsModel.{after_commit}
use Rattle.ibc_ledger.specs.BlockEnd.{IsCommitted, IsRefusalOf, IsEnded, publication_of}
use Rattle.ibc_machine.specs.declared.event.Event.TheVariants as event
use Rattle.ibc_machine.specs.declared.reply.Effect.TheVariants as effect
use Rattle.ibc_machine.specs.declared.reply.Reply.TheVariants as reply
use Rattle.ibc_ledger.proofs.HeldLedgers.{IsEntry}
use Rattle.ibc_ledger.proofs.Windows.{some_window, small_capacity}
use Rattle.ibc_ledger.proofs.Holding.{stands_next, drop_none, committed_holds}
use Rattle.ibc_refinement.proofs.Growing.{answer_next, refused_block, ended_block_next, block_answer-by}

-- ---- whether a block may be ended

module _ (capacity : ℕ) (chain : MachineChain) (next_time : ℕ) where
  may_commit-back : next_time < chain.time → may_commit capacity chain next_time ≡ Err TimeBack
  unfolding and_then
  may_commit-back back = rw (lt-leb chain.time next_time back)

  may_commit-full : chain.time ≤ next_time → capacity ≤ length chain.committed → may_commit capacity chain next_time ≡ Err TableFull
  unfolding and_then
  may_commit-full on full = rw (le-leb chain.time next_time on, le-ltb (length chain.committed) capacity full)

  may_commit-room : chain.time ≤ next_time → length chain.committed < capacity → may_commit capacity chain next_time ≡ Ok tt
  unfolding and_then
  may_commit-room on room = rw (le-leb chain.time next_time on, lt-ltb (length chain.committed) capacity room)

-- ---- ends of blocks

module _ (ledger : Ledger) (old : RecordsModel) (apps : Apps) (stands : IsReplayedState ledger old apps) (more : List Publication) (next_time : ℕ) (fits : next_time < 2 ^ 64) where
  stands_not_ended : (r : Refusal) → may_commit ledger.genesis.capacity (state_of ledger).chain next_time ≡ Err r
      → published_by ledger.chain (ledger.seen ++ more) ≡ published_by ledger.chain ledger.seen
      → IsReplayedState (with_entry ledger (entry_of (event.Block ledger.chain next_time) (reply.No r) None None) more) old apps
  stands_not_ended r e others =
      stands_next ledger _ more old apps stands.is (answer_next ledger more stands.is (event.Block ledger.chain next_time) (reply.No r) None others (refused_block ledger more stands.is next_time fits r e))
      (subst (λ (w : Reply × LedgerState). IsStateOf ledger.genesis.window w.1 old apps) (sym (block_answer-by ledger more stands.is next_time fits (Err r) e)) stands.holds)

  stands_ended : length (image (state_of ledger).chain.records.core) < 2 ^ 64 → (new : RecordsModel) → may_commit ledger.genesis.capacity (state_of ledger).chain next_time ≡ Ok tt
      → Publishes ledger.seen (published_as ledger.chain (working_block (state_of ledger).chain)) (ledger.seen ++ more)
      → published_by ledger.chain (ledger.seen ++ more) ≡ published_by ledger.chain ledger.seen ++ published_as ledger.chain (working_block (state_of ledger).chain) ∷ []
      → 0 < ledger.genesis.window → height_of old.store < 2 ^ 64 - 1 → new ≡ after_commit old next_time new.store.hashed
      → IsReplayedState (with_entry ledger (entry_of (event.Block ledger.chain next_time) (reply.Ok (effect.Block (working_height (state_of ledger).chain) (core_root (state_of ledger).chain.records.core))) None (Some (length (ledger.seen ++ more)))) more) new apps
  stands_ended small new e publishes own_last some room is =
      stands_next ledger _ more new apps stands.is (ended_block_next ledger more stands.is next_time fits small tt e publishes own_last)
      (subst (λ (w : Reply × LedgerState). IsStateOf ledger.genesis.window w.1 new apps) (sym (block_answer-by ledger more stands.is next_time fits (Ok tt) e))
      (committed_holds ledger.genesis.window (state_of ledger) old apps stands.holds next_time new some room is))

-- ---- the beginning

module _ (genesis : GenesisState) (k : ℕ) (start : ChainState) (there : slice_get genesis.chains k ≡ Some start) (inside : k < length genesis.chains) where
  abbrev pub new_ledger : List Publication → Ledger
  new_ledger seen = record { genesis = genesis; chain = k; history = []; seen = seen }

  first_state : (seen : List Publication) → state_of (new_ledger seen) ≡ record { chain = starting_chain start; consensus = [] }
  first_state seen = ap (λ o. record { chain = unwrap_or o empty_chain; consensus = [] }) (slice_get-map starting_chain genesis.chains k ∙ ap (option_map starting_chain) there)

  pub stands_new : (seen : List Publication) → published_by k seen ≡ [] → (held : RecordsModel) → IsNew genesis.window start.time held
      → IsReplayedState (new_ledger seen) held (abstract_apps (starting_apps start.balances))
  stands_new seen unpublished held new = record {
    is = record {
      number = inside;
      entries = tt;
      published = unpublished ∙ ap (λ (s : LedgerState). map (published_as k) s.chain.committed) (sym (first_state seen));
      stamps = tt;
      small = subst (λ (s : LedgerState). AllByRecursion (λ (block : Block). length (image block.records.core) < 2 ^ 64) s.chain.committed) (sym (first_state seen)) tt;
    };
    holds = subst (λ (s : LedgerState). IsStateOf genesis.window s held (abstract_apps (starting_apps start.balances))) (sym (first_state seen)) (record {
      core = new.core;
      time = ap (λ (s : StoreModel). s.time) new.store;
      height = ap (λ (s : StoreModel). height_of s) new.store;
      window_is = ap (λ (s : StoreModel). s.window) new.store;
      apps_are = refl;
      known = λ client height known e. absurd (nothing client height known e);
      last = new.last;
      keeps = record {
        working = ap (λ (s : StoreModel). s.pairs) new.store;
        gone = ap (λ (s : StoreModel). s.gone) new.store ∙ omega arith;
        kept = ap (λ (s : StoreModel). s.kept) new.store ∙ ap (map kept_of) (sym (drop_none (passed_count genesis.window [])));
      };
    });
  }
    where
      nothing : (client : Text) (height : ℕ) (known : ConsensusState) → consensus_in held client height ≡ Some known → ⊥
      nothing client height known e =
          let none : None ≡ Some known = sym (ap (λ clients. option_and_then (λ (c : ClientModel). at nat_cmp height c.known) (at text_cmp client clients)) new.clients) ∙ e in
          cc

module _ (l : Inside) (held : IsSoundLedger l) (next_time : ℕ) (fits : next_time < 2 ^ 64) where
  abbrev chain_now : MachineChain
  chain_now = (state_of (ledger_of l)).chain

  -- a chain's height is the same in its store and in the table
  pub same_height : height_of l.node.records.store ≡ published_height (own_chain l.pass) l.pass.seen
  same_height =
      held.stands.holds.height ∙ sym (ap length held.stands.is.published ∙ length-map chain_now.committed (published_as l.node.number))
      ∙ ap (λ (o : Option ℕ). published_height (own_chain (record l.pass { own = o })) l.pass.seen) (sym held.own)

  own_is : own_chain l.pass ≡ l.node.number
  own_is = ap (λ (o : Option ℕ). own_chain (record l.pass { own = o })) held.own

  same_publication : publication_of l.pass l.node.records ≡ published_as l.node.number (working_block chain_now)
  same_publication = λ i. record { chain = own_is i; root = core_root (held.stands.holds.core i); time = held.stands.holds.time i }

  module _ (given : ℕ × Text) (new : RecordsModel) (pass : Sight) (store_after_commit : IsCommitted l.capacity next_time l.node.records l.pass given new pass) (prefix : IsPrefix l.pass.seen pass.seen) where
    publishes : Publishes l.pass.seen (published_as l.node.number (working_block chain_now)) (l.pass.seen ++ prefix.0)
    publishes = subst (λ (z : Publication × List Publication). Publishes l.pass.seen z.0 z.1) (λ i. (same_publication i, (sym prefix.1) i)) store_after_commit.publishes

    own_last : published_by l.node.number (l.pass.seen ++ prefix.0) ≡ published_by l.node.number l.pass.seen ++ published_as l.node.number (working_block chain_now) ∷ []
    own_last =
        subst (λ (z : (ℕ × Publication) × List Publication). published_by z.0.0 z.1 ≡ published_by z.0.0 l.pass.seen ++ z.0.1 ∷ []) (λ i. ((own_is i, same_publication i), (sym prefix.1) i)) store_after_commit.own

    may : may_commit (genesis_of l).capacity chain_now next_time ≡ Ok tt
    may =
        may_commit-room (genesis_of l).capacity chain_now next_time
        (subst (λ t. t ≤ next_time) held.stands.holds.time store_after_commit.forward)
        (let h = held.stands.holds.height in let c = held.capacity in let r = store_after_commit.room in omega arith)

    same_effect : effect.Block given.0 given.1 ≡ effect.Block (working_height chain_now) (core_root chain_now.records.core)
    same_effect =
        let long = length-append (published_by (own_chain l.pass) l.pass.seen) (publication_of l.pass l.node.records ∷ []) in
        let own = ap length store_after_commit.own in
        let h = held.stands.holds.height in
        let s = same_height in
        let height : given.0 ≡ working_height chain_now = omega (arith, store_after_commit.height) in
        λ i. effect.Block (height i) ((store_after_commit.root ∙ ap core_root held.stands.holds.core) i)

    ended_stands : IsReplayedState (with_entry (ledger_of l) (entry_of (event.Block l.node.number next_time) (reply.Ok (effect.Block given.0 given.1)) None (Some (length (l.pass.seen ++ prefix.0)))) prefix.0) new (abstract_apps l.node.applications)
    ended_stands =
        subst (λ e. IsReplayedState (with_entry (ledger_of l) (entry_of (event.Block l.node.number next_time) (reply.Ok e) None (Some (length (l.pass.seen ++ prefix.0)))) prefix.0) new (abstract_apps l.node.applications)) (sym same_effect)
        (stands_ended (ledger_of l) l.node.records (abstract_apps l.node.applications) held.stands prefix.0 next_time fits
        (subst (λ core. length (image core) < 2 ^ 64) held.stands.holds.core store_after_commit.small) new may publishes own_last (some_window (genesis_of l) held.allowed)
        (let s = small_capacity (genesis_of l) held.allowed in let c = held.capacity in let r = store_after_commit.room in omega arith) store_after_commit.records)

  not_ended_stands : (r : Refusal) → (r ≡ NoMemory → ⊥) → IsRefusalOf l.capacity next_time l.node.records r
      → IsReplayedState (with_entry (ledger_of l) (entry_of (event.Block l.node.number next_time) (reply.No r) None None) []) l.node.records (abstract_apps l.node.applications)
  not_ended_stands r plenty why =
      stands_not_ended (ledger_of l) l.node.records (abstract_apps l.node.applications) held.stands [] next_time fits r may_not (ap (published_by l.node.number) (append-nil l.pass.seen))
    where
      may_not : may_commit (genesis_of l).capacity chain_now next_time ≡ Err r
      may_not = ⊎_elim
          (λ (w : (r ≡ TimeBack) × (next_time < l.node.records.store.time)). may_commit-back (genesis_of l).capacity chain_now next_time (subst (λ t. next_time < t) held.stands.holds.time w.1) ∙ ap Err (sym w.0))
          (λ other. ⊎_elim
          (λ (w : (r ≡ TableFull) × (l.node.records.store.time ≤ next_time) × (l.capacity ≤ height_of l.node.records.store)).
          may_commit-full (genesis_of l).capacity chain_now next_time (subst (λ t. t ≤ next_time) held.stands.holds.time w.1)
          (let h = held.stands.holds.height in let c = held.capacity in let f = w.2 in omega arith) ∙ ap Err (sym w.0))
          (λ none. absurd (plenty none)) other)
          why

-- what the end of a block tells
abbrev pub block_of : ℕ × Text → Effect
block_of given = effect.Block given.0 given.1

-- ---- the entry that a block's end adds

-- the entry of a block's end, where nothing but the records changes
abbrev pub IsBlockEntry : Inside → ℕ → Reply → StampedEntry → RecordsModel → Sight → Type 0
IsBlockEntry l next_time given e new pass = IsEntry l (event.Block l.node.number next_time) given e (record l.node { records = new }) pass

module _ (l : Inside) (held : IsSoundLedger l) (next_time : ℕ) (fits : next_time < 2 ^ 64) where
  committed_entry : (given : ℕ × Text) (new : RecordsModel) (pass : Sight) → IsCommitted l.capacity next_time l.node.records l.pass given new pass
      → IsBlockEntry l next_time (reply.Ok (effect.Block given.0 given.1)) (entry_of (event.Block l.node.number next_time) (reply.Ok (effect.Block given.0 given.1)) None (Some (length pass.seen))) new pass
  committed_entry given new pass store_after_commit =
      let entry = λ (xs : List Publication). entry_of (event.Block l.node.number next_time) (reply.Ok (effect.Block given.0 given.1)) None (Some (length xs)) in
      let last = publication_of l.pass l.node.records in
      let prefix : IsPrefix l.pass.seen pass.seen = (store_after_commit.publishes.0 ++ last ∷ [], sym (append_assoc l.pass.seen store_after_commit.publishes.0 (last ∷ [])) ∙ sym store_after_commit.publishes.1) in
      record {
        its_event = refl;
        its_reply = refl;
        same = refl;
        kept = store_after_commit.same;
        prefix = prefix;
        stands = subst (λ xs. IsReplayedState (with_entry (ledger_of l) (entry xs) prefix.0) new (abstract_apps l.node.applications)) prefix.1 (ended_stands l held next_time fits given new pass store_after_commit prefix);
        flight = subst (IsInFlight l.node.applications.transfers) (sym (ap core_of store_after_commit.records)) held.flight;
        plenty = λ is. absurd cc;
        late = let e = length-append l.pass.seen prefix.0 in let long = ap length prefix.1 in omega arith;
        was_so = tt;
      }

  refused_entry : (r : Refusal) (new : RecordsModel) (pass : Sight) → (r ≡ NoMemory → ⊥) → IsRefusalOf l.capacity next_time l.node.records r → new ≡ l.node.records → pass ≡ l.pass
      → IsBlockEntry l next_time (reply.No r) (entry_of (event.Block l.node.number next_time) (reply.No r) None None) new pass
  refused_entry r new pass plenty why records same =
      subst (λ (z : RecordsModel × Sight). IsBlockEntry l next_time (reply.No r) (entry_of (event.Block l.node.number next_time) (reply.No r) None None) z.0 z.1) (λ i. (sym records i, sym same i)) (record {
        its_event = refl;
        its_reply = refl;
        same = refl;
        kept = (refl, refl);
        prefix = ([], append-nil l.pass.seen);
        stands = not_ended_stands l held next_time fits r plenty why;
        flight = held.flight;
        plenty = λ (is : reply.No r ≡ reply.No NoMemory). plenty (cc);
        late = tt;
        was_so = tt;
      })

  pub ended_entry : (ended : Result (ℕ × Text) Refusal) (new : RecordsModel) (pass : Sight) → IsEnded l.capacity next_time l.node.records l.pass ended new pass → (result_effects block_of ended ≡ Err NoMemory → ⊥)
      → IsBlockEntry l next_time (caller_reply (result_effects block_of ended)) (entry_of (event.Block l.node.number next_time) (caller_reply (result_effects block_of ended)) None (stamp_if (is_ok ended) pass.seen)) new pass
  ended_entry (Ok given) new pass ended plenty = committed_entry given new pass ended
  ended_entry (Err r) new pass ended plenty = refused_entry r new pass (λ none. plenty (ap Err none)) ended.0 ended.1 ended.2

-- a block's reply is the same twice
pub block_told : (ended : Result (ℕ × Text) Refusal) → history_reply (result_effects block_of ended) ≡ caller_reply (result_effects block_of ended)
block_told (Ok given) = refl
block_told (Err r) = refl
