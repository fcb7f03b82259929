-- What is held stays the state of the ledger, and a store keeps the paths of a chain's last blocks: through messages, and
-- through ends of blocks.
use Rattle.ibc_ledger.proofs.Common.{Bool, drop-drop, ◌≡◌, ℕ, ◌+◌, ◌-◌, ◌^◌, ◌<◌, cond, is_eq, Ordering, Less, Equal, Greater, [], ◌∷◌, ◌++◌, length, refl, sym, ap, ◌∙◌, subst, Some, option_and_then, option_map, arith, length-append}
use Rattle.ibc_ledger.proofs.Common.{length-drop, nat_cmp, ordering_then, is_some, zero, suc, ◌≤◌, true, false, List, drop, map, Option, None, Result, Ok, Err, slice_get, ltb-true, ◌↔◌, IsNone, IfOk, IsSomeAnd, drop-append-le, drop-map}
use Rattle.ibc_ledger.proofs.Common.{map-append, slice_get-map, Text, text_cmp, at, text_cmp_total, text_tied, Refusal, NoConsensus, written_proof, UpdateClient, Message, Records, Core, Apps, LedgerState, consensus_cmp, consensus_at}
use Rattle.ibc_ledger.proofs.Common.{with_consensus, Block, MachineChain, image, StoreModel, store_after_commit, kept_at, excess_count, gone_after, IsStored, ConsensusState, ClientModel, with_height, RecordsModel, core_of, consensus_in, IsUnchanged, UpdatesClient}
use Rattle.ibc_ledger.proofs.Common.{AreWrittenRecords, consensus_of, working_block, IsStateOf, KeepsBlocks, passed_count, provable_block, kept_of, Ledger, IsLedger, StampedEntry, IsNext, state_with, with_entry, IsReplayedState, Publication}
use Rattle.ibc_refinement.proofs.Growing.{ledgers_go_on}
use Rattle.ibc_path_store.specs.StoreModel.{height_of, Hashed}
use Rattle.ibc_records.specs.RecordsModel.{after_commit}
use Rattle.ibc_ledger.specs.ReplayedState.{last_block}
use Rattle.ibc_records.specs.Knowledge.{Knows, abstract_consensus}
use Rattle.std.proofs.lemmas.Cmp.{nat_cmp_total, then_total, on_total}
use Rattle.std.specs.Cmp.{IsTotalOrder}
use Rattle.ibc_machine.proofs.Images.{at-with}
use Rattle.std.proofs.Common.{nat_lt}
use Rattle.ibc_merkle.specs.Tree.{Pairs}
use Rattle.ibc_merkle.proofs.Sorted.{last-push}
use Rattle.ibc_merkle.specs.declared.proof.Proof.{Proof}
use Rattle.ibc_machine.specs.chain.Machine.{block_of}
use Rattle.ibc_wire.specs.declared.messages.Message.TheVariants as message

-- ---- lists without their front

pub drop_none : {A : Type 0} (n : ℕ) → drop {A = A} n [] ≡ []
drop_none zero = refl
drop_none (suc n) = refl

get_drop : {A : Type 0} (n i : ℕ) (xs : List A) → slice_get (drop n xs) i ≡ slice_get xs (n + i)
get_drop zero i xs = ap (slice_get xs) (omega arith)
get_drop (suc n) i [] = refl
get_drop (suc n) i (x ∷ xs) = let e : suc (n + i) ≡ suc n + i = omega arith in get_drop n i xs ∙ ap (slice_get (x ∷ xs)) e

-- ---- messages

module _ (window : ℕ) (chain : MachineChain) where
  pub keeps_stored : (old new : RecordsModel) (records : Records) → KeepsBlocks window chain old.store → IsStored old new → core_of new ≡ records.core → KeepsBlocks window (record chain { records = records }) new.store
  keeps_stored old new records keeps stored is = record {
    working = stored.image_of ∙ ap image is;
    gone = ap (λ (s : StoreModel). s.gone) stored.store ∙ keeps.gone;
    kept = ap (λ (s : StoreModel). s.kept) stored.store ∙ keeps.kept;
  }

-- ---- ends of blocks

module _ (window : ℕ) (chain : MachineChain) (store : StoreModel) (next_time : ℕ) (some : 0 < window) (room : height_of store < 2 ^ 64 - 1) (window_is : store.window ≡ window) (time : store.time ≡ chain.time)
    (height : height_of store ≡ length chain.committed) (keeps : KeepsBlocks window chain store) where
  abbrev longer : List Block
  longer = chain.committed ++ working_block chain ∷ []

  one_more : passed_count window chain.committed + excess_count store ≡ passed_count window longer
  one_more =
      let a = length-append chain.committed (working_block chain ∷ []) in
      let g = keeps.gone in
      omega (arith, a, g, height, window_is, some)

  gone : gone_after store.gone (excess_count store) ≡ passed_count window longer
  gone =
      let a = length-append chain.committed (working_block chain ∷ []) in
      let g = keeps.gone in
      let o = one_more in
      omega (arith, a, g, o, height, room)

  kept : drop (excess_count store) (store.kept ++ (store.pairs, store.time) ∷ []) ≡ map kept_of (drop (passed_count window longer) longer)
  kept =
      let n = passed_count window chain.committed in
      let last : (store.pairs, store.time) ≡ kept_of (working_block chain) = λ i. (keeps.working i, time i) in
      let low : n ≤ length chain.committed = omega arith in
      ap (drop (excess_count store)) (
      (λ i. keeps.kept i ++ last i ∷ [])
      ∙ sym (map-append kept_of (drop n chain.committed) (working_block chain ∷ []))
      ∙ ap (map kept_of) (sym (drop-append-le n chain.committed (working_block chain ∷ []) low))
      )
      ∙ drop-map kept_of (excess_count store) (drop n longer)
      ∙ ap (map kept_of) (drop-drop (excess_count store) n longer ∙ ap (λ m. drop m longer) one_more)

  pub keeps_committed : (hashed : Hashed) → KeepsBlocks window (record { records = chain.records; time = next_time; committed = longer }) (record (store_after_commit store next_time) { hashed = hashed })
  keeps_committed hashed = record { working = keeps.working; gone = gone; kept = kept }

-- ---- proofs of committed heights

module _ (window : ℕ) (chain : MachineChain) (store : StoreModel) (keeps : KeepsBlocks window chain store) (height : ℕ) where
  abbrev its_block : Option Block
  its_block = provable_block window chain.committed height

  block_there : (height : ℕ) → store.gone < height → slice_get chain.committed (passed_count window chain.committed + (height - store.gone - 1)) ≡ block_of height chain.committed
  block_there zero below = absurd (omega arith)
  block_there (suc k) below = let g = keeps.gone in ap (slice_get chain.committed) (omega (arith, g, below))

  by_place : (b : Bool) → nat_lt store.gone height ≡ b
      → elim b as (λ _. Option (Pairs × ℕ)) [ true ↦ slice_get store.kept (height - store.gone - 1) | false ↦ None ]
      ≡ option_map kept_of (elim b as (λ _. Option Block) [ true ↦ block_of height chain.committed | false ↦ None ])
  by_place false is = refl
  by_place true is =
      let n = passed_count window chain.committed in
      let i = height - store.gone - 1 in
      ap (λ kept. slice_get kept i) keeps.kept
      ∙ slice_get-map kept_of (drop n chain.committed) i
      ∙ ap (option_map kept_of) (get_drop n i chain.committed ∙ block_there height (ltb-true store.gone height is))

  pub kept_block : kept_at store height ≡ option_map kept_of its_block
  kept_block =
      by_place (nat_lt store.gone height) refl
      ∙ ap (λ n. option_map kept_of (elim (nat_lt n height) as (λ _. Option Block) [ true ↦ block_of height chain.committed | false ↦ None ])) keeps.gone

  by_block : (o : Option Block) (proof : Proof) (path : Text) → IsSomeAnd (option_map kept_of o) (λ kept. proof ≡ written_proof kept.0 path) → IsSomeAnd o (λ block. proof ≡ written_proof (image block.records.core) path)
  by_block None proof path is = is
  by_block (Some block) proof path is = is

  pub proof_of_block : (result : Result Proof Refusal) (path : Text) → IfOk result (λ proof. IsSomeAnd (kept_at store height) (λ kept. proof ≡ written_proof kept.0 path))
      → IfOk result (λ proof. IsSomeAnd its_block (λ block. proof ≡ written_proof (image block.records.core) path))
  proof_of_block (Ok proof) path is =
      by_block its_block proof path (subst (λ (o : Option (Pairs × ℕ)). IsSomeAnd o (λ kept. proof ≡ written_proof kept.0 path)) kept_block is)
  proof_of_block (Err refusal) path is = tt

  same_some : (o : Option Block) → is_some (option_map kept_of o) ≡ is_some o
  same_some None = refl
  same_some (Some block) = refl

  -- the result names an unknown height where the height has no block that can be proved
  pub no_consensus : (result : Result Proof Refusal) → ((result ≡ Err NoConsensus) ↔ IsNone (kept_at store height)) → (result ≡ Err NoConsensus) ↔ IsNone its_block
  no_consensus result unknown = subst (λ b. (result ≡ Err NoConsensus) ↔ (b ≡ false)) (ap is_some kept_block ∙ same_some its_block) unknown

-- the state with these records, after this message
abbrev pub with_records : Message → LedgerState → Records → LedgerState
with_records m state records = record {
  chain = record state.chain { records = records };
  consensus = with_consensus m state.consensus;
}

consensus_cmp_total : IsTotalOrder consensus_cmp
consensus_cmp_total = then_total (on_total (λ (x : Text × ℕ). x.0) text_cmp_total) (on_total (λ (x : Text × ℕ). x.1) nat_cmp_total)

module _ (window : ℕ) (state : LedgerState) (old : RecordsModel) (apps : Apps) (holds : IsStateOf window state old apps) where
  -- only how much room there is changed
  pub unchanged_holds : (new : RecordsModel) (left : Apps) → IsUnchanged old new → left ≡ apps → IsStateOf window state new left
  unchanged_holds new left same kept =
      subst (λ (w : RecordsModel × Apps). IsStateOf window state w.0 w.1) (λ i. (sym same i, sym kept i)) (record {
        core = holds.core;
        time = holds.time;
        height = holds.height;
        window_is = holds.window_is;
        apps_are = holds.apps_are;
        known = holds.known;
        last = holds.last;
        keeps = record { working = holds.keeps.working; gone = holds.keeps.gone; kept = holds.keeps.kept };
      })

  -- the records were written, and the store is their image
  stored_holds : (m : Message) (core : Core) (left : Apps) (new : RecordsModel) → IsStored old new → core_of new ≡ core → Knows new (with_records m state (record { core = core; apps = left }))
      → IsStateOf window (with_records m state (record { core = core; apps = left })) new left
  stored_holds m core left new stored is known = record {
    core = is;
    time = ap (λ (s : StoreModel). s.time) stored.store ∙ holds.time;
    height = ap (λ (s : StoreModel). height_of s) stored.store ∙ holds.height;
    window_is = ap (λ (s : StoreModel). s.window) stored.store ∙ holds.window_is;
    apps_are = refl;
    known = known;
    last = stored.last ∙ holds.last;
    keeps = keeps_stored window state.chain old new (record { core = core; apps = left }) holds.keeps stored is;
  }

  -- the records and the applications were written, by a message that tells no client of a height
  pub written_holds : (m : Message) (core : Core) (left : Apps) (new : RecordsModel) → AreWrittenRecords core old new → with_consensus m state.consensus ≡ state.consensus
      → IsStateOf window (with_records m state (record { core = core; apps = left })) new left
  written_holds m core left new written_proof same =
      stored_holds m core left new written_proof.stored written_proof.core_is
      (λ client height known e. ap (λ consensus. at consensus_cmp (client, height) consensus) same ∙ holds.known client height known (written_proof.knows client height known e))

  -- a client that was told of a header knows what the ledger's state says of it
  module _ (m : UpdateClient) (new : RecordsModel) (updates : UpdatesClient old m.client m.header.height (consensus_of m.header) new) where
    by_height : (client : Text) (height : ℕ) (known : ConsensusState) → text_cmp client m.client ≡ Equal → (b : Bool)
        → cond b (Some (consensus_of m.header)) (at nat_cmp height updates.client.known) ≡ Some known
        → cond b (Some (abstract_consensus (consensus_of m.header))) (consensus_at state client height) ≡ Some (abstract_consensus known)
    by_height client height known same true e = ap (option_map abstract_consensus) e
    by_height client height known same false e = holds.known client height known (ap (option_and_then (λ (c : ClientModel). at nat_cmp height c.known)) (ap (λ t. at text_cmp t old.clients) (text_tied client m.client same) ∙ updates.stood) ∙ e)

    by_client : (client : Text) (height : ℕ) (known : ConsensusState) (o : Ordering) → text_cmp client m.client ≡ o
        → option_and_then (λ (c : ClientModel). at nat_cmp height c.known) (cond (is_eq o) (Some (with_height m.header.height (consensus_of m.header) updates.client)) (at text_cmp client old.clients)) ≡ Some known
        → cond (is_eq (ordering_then o (nat_cmp height m.header.height))) (Some (abstract_consensus (consensus_of m.header))) (consensus_at state client height) ≡ Some (abstract_consensus known)
    by_client client height known Less is e = holds.known client height known e
    by_client client height known Greater is e = holds.known client height known e
    by_client client height known Equal is e =
        by_height client height known is (is_eq (nat_cmp height m.header.height))
        (sym (at-with nat_cmp nat_cmp_total height m.header.height (consensus_of m.header) updates.client.known) ∙ e)

    pub updated_holds : (left : Apps) → IsStateOf window (with_records (message.UpdateClient m) state (record { core = core_of new; apps = left })) new left
    updated_holds left =
        stored_holds (message.UpdateClient m) (core_of new) left new updates.stored refl
        (λ client height known e.
        at-with consensus_cmp consensus_cmp_total (client, height) (m.client, m.header.height) (abstract_consensus (consensus_of m.header)) state.consensus
        ∙ by_client client height known (text_cmp client m.client) refl
        (sym (ap (option_and_then (λ (c : ClientModel). at nat_cmp height c.known)) (ap (λ (h : RecordsModel). at text_cmp client h.clients) updates.records ∙ at-with text_cmp text_cmp_total client m.client (with_height m.header.height (consensus_of m.header) updates.client) old.clients)) ∙ e))

  -- the working block joins the committed ones
  pub committed_holds : (next_time : ℕ) (new : RecordsModel) → 0 < window → height_of old.store < 2 ^ 64 - 1 → new ≡ after_commit old next_time new.store.hashed
      → IsStateOf window (record state { chain = record { records = state.chain.records; time = next_time; committed = state.chain.committed ++ working_block state.chain ∷ [] } }) new apps
  committed_holds next_time new some room is = record {
    core = ap core_of is ∙ holds.core;
    time = ap (λ (h : RecordsModel). h.store.time) is;
    height = ap (λ (h : RecordsModel). height_of h.store) is ∙ one_higher;
    window_is = ap (λ (h : RecordsModel). h.store.window) is ∙ holds.window_is;
    apps_are = holds.apps_are;
    known = λ client height known e. holds.known client height known (sym (ap (λ (h : RecordsModel). consensus_in h client height) is) ∙ e);
    last = ap (λ (h : RecordsModel). h.last) is ∙ (λ i. record { core = holds.core i; time = holds.time i }) ∙ ap last_block (sym (last-push None state.chain.committed (working_block state.chain)));
    keeps = subst (λ (h : RecordsModel). KeepsBlocks window (record { records = state.chain.records; time = next_time; committed = state.chain.committed ++ working_block state.chain ∷ [] }) h.store) (sym is)
        (keeps_committed window state.chain old.store next_time some room holds.window_is holds.time holds.height holds.keeps new.store.hashed);
  }
    where
      one_higher : height_of (store_after_commit old.store next_time) ≡ length (state.chain.committed ++ working_block state.chain ∷ [])
      one_higher =
          let kept = old.store.kept ++ (old.store.pairs, old.store.time) ∷ [] in
          let a = length-drop (length old.store.kept + 1 - old.store.window) kept in
          let b = length-append old.store.kept ((old.store.pairs, old.store.time) ∷ []) in
          let c = length-append state.chain.committed (working_block state.chain ∷ []) in
          let d = holds.height in
          let w = holds.window_is in
          omega arith

-- a ledger stands with its next entry, where what is held is the state after it
pub stands_next : (ledger : Ledger) (e : StampedEntry) (more : List Publication) (new : RecordsModel) (left : Apps) → IsLedger ledger → IsNext ledger e more
    → IsStateOf ledger.genesis.window (state_with ledger e more) new left → IsReplayedState (with_entry ledger e more) new left
stands_next ledger e more new left is next holds =
    let w = ledgers_go_on ledger e more is next in
    record { is = w.0; holds = subst (λ (s : LedgerState). IsStateOf ledger.genesis.window s new left) (sym w.1) holds }
