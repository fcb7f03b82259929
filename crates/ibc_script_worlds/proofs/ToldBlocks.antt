-- A ledger's history tells just the blocks that its chain committed, with heights from 1 on.
use Rattle.std.proofs.Common.{◌≡◌, ◌∙◌, ◌+◌, ◌-◌, ℕ, zero, suc, Bool, true, false, List, [], ◌∷◌, ◌++◌, Option, None, Some, ap, append_assoc, append-nil, arith, MatchOption, inl, inr, length, length-append, map, nat_lt, option_map, refl, slice_get, sym, subst, unwrap_or}
use Rattle.std.specs.List.{AllByRecursion}
use Rattle.std.proofs.lemmas.List.{length-map, map-append}
use Rattle.std.proofs.lemmas.Option.{MatchOption-at_some, slice_get-map}
use Rattle.ibc_machine.specs.declared.event.Event.{Event}
use Rattle.ibc_machine.specs.declared.event.Event.TheVariants as event
use Rattle.ibc_machine.specs.declared.reply.Effect.{Effect}
use Rattle.ibc_machine.specs.declared.reply.Effect.TheVariants as effect
use Rattle.ibc_machine.specs.declared.reply.Reply.{Reply}
use Rattle.ibc_machine.specs.declared.reply.Reply.TheVariants as reply
use Rattle.ibc_machine.specs.chain.Records.{Block, MachineChain}
use Rattle.ibc_machine.specs.chain.Genesis.{ChainState, starting_chain}
use Rattle.ibc_machine.specs.chain.Machine.{block_of}
use Rattle.ibc_machine.specs.ics24.Image.{core_root}
use Rattle.ibc_machine.specs.ledger.Ledgers.{IsLedger, IsOwnEntry, Ledger, is_block_reply, state_of}
use Rattle.ibc_machine.specs.ledger.Replay.{LedgerState, StampedEntry, empty_chain, entry_answer, met_states, replay, starting_state}
use Rattle.ibc_ledger.specs.ReplayedState.{provable_block}
use Rattle.ibc_refinement.proofs.ChangedPlaces.{get_there}
use Rattle.ibc_refinement.proofs.EntryEnds.{EndsBlock, answer_ends}
use Rattle.ibc_refinement.proofs.EntrySteps.{answer_commits, own_typed, working}
use Rattle.ibc_refinement.proofs.MergedRun.{typed_start}
use Rattle.ibc_refinement.proofs.Typed.{IsTyped}
use Rattle.ibc_script_cli.specs.declared.chains.CommittedBlock.{CommittedBlock}
use Rattle.ibc_script_worlds.specs.declared.blocks.ChainStarts.{ChainStarts}
use Rattle.ibc_script_worlds.specs.declared.blocks.EndedBlock.{EndedBlock}
use Rattle.ibc_script_worlds.specs.EndedBlocks.{AreCountedFrom, blocks_told, ended_by, ended_in, ends_in, kept_told, told_at}
use Rattle.ibc_script_worlds.specs.WorldChains.{AreStartsOf, block_in, committed_block}

-- ---- one entry

none_given : (given : Effect) (next_time : ℕ) → is_block_reply (reply.Ok given) ≡ false → ended_in (event.Block 0 next_time) (reply.Ok given) ≡ None
none_given (effect.Block height root) next_time plain = absurd cc
none_given effect.None next_time plain = refl
none_given (effect.Client id) next_time plain = refl
none_given (effect.Connection id) next_time plain = refl
none_given (effect.Channel id) next_time plain = refl
none_given (effect.Sent n) next_time plain = refl
none_given (effect.Ack bytes) next_time plain = refl

ends_nothing : (e : Event) (given : Reply) → is_block_reply given ≡ false → ended_in e given ≡ None
ends_nothing (event.Message k m) given plain = refl
ends_nothing (event.Block k next_time) (reply.No refusal) plain = refl
ends_nothing (event.Block k next_time) (reply.Ok given) plain = none_given given next_time plain

ends_one : (e : Event) (given : Reply) (old new : MachineChain) (ends : EndsBlock e given old new)
    → ended_in e given ≡ Some (record { height = length old.committed + 1; root = core_root old.records.core; next_time = ends.next_time })
ends_one e given old new ends = let a = ends.event_is in let b = ends.reply_is in λ i. ended_in (a i) (b i)

-- ---- a history

-- the blocks that are committed behind those before, and the heights that are told of
pub record Told (before : List Block) (time : ℕ) (history : List StampedEntry) (after : List Block) : Type 0 where
  pub blocks : map committed_block after ≡ map committed_block before ++ blocks_told time (ends_in history)
  pub counted : AreCountedFrom (length before + 1) (ends_in history)

-- an entry that ends no block
plain_more : (before between after : List Block) (time next_time : ℕ) (e : StampedEntry) (history : List StampedEntry) → ended_by e.entry ≡ None
    → between ≡ before → next_time ≡ time → Told between next_time history after → Told before time (e ∷ history) after
plain_more before between after time next_time e history none same stays told = record {
  blocks = told.blocks
      ∙ (λ i. map committed_block (same i) ++ blocks_told (stays i) (ends_in history))
      ∙ sym (ap (λ (o : Option EndedBlock). map committed_block before ++ blocks_told time (o ∷ ends_in history)) none);
  counted = subst (λ (o : Option EndedBlock). AreCountedFrom (length before + 1) (o ∷ ends_in history)) (sym none)
      (subst (λ (b : List Block). AreCountedFrom (length b + 1) (ends_in history)) same told.counted);
}

-- an entry that ends the working block
block_more : (before between after : List Block) (time next_time : ℕ) (block : Block) (e : StampedEntry) (history : List StampedEntry)
    → ended_by e.entry ≡ Some (record { height = length before + 1; root = core_root block.records.core; next_time = next_time })
    → block.time ≡ time → between ≡ before ++ block ∷ [] → Told between next_time history after → Told before time (e ∷ history) after
block_more before between after time next_time block e history ends its grows told =
    let end : EndedBlock = record { height = length before + 1; root = core_root block.records.core; next_time = next_time } in
    let rest : List CommittedBlock = blocks_told next_time (ends_in history) in
    let more : map committed_block between ≡ map committed_block before ++ committed_block block ∷ [] =
    ap (map committed_block) grows ∙ map-append committed_block before (block ∷ []) in
    let longer : length between + 1 ≡ length before + 1 + 1 =
    let lengths = ap length grows ∙ length-append before (block ∷ []) in
    omega (arith, lengths) in
    record {
      blocks = told.blocks
          ∙ ap (λ (l : List CommittedBlock). l ++ rest) more
          ∙ append_assoc (map committed_block before) (committed_block block ∷ []) rest
          ∙ ap (λ (t : ℕ). map committed_block before ++ record { root = core_root block.records.core; time = t } ∷ rest) its
          ∙ sym (ap (λ (o : Option EndedBlock). map committed_block before ++ blocks_told time (o ∷ ends_in history)) ends);
      counted = subst (λ (o : Option EndedBlock). AreCountedFrom (length before + 1) (o ∷ ends_in history)) (sym ends)
          (refl, subst (λ (n : ℕ). AreCountedFrom n (ends_in history)) longer told.counted);
    }

told_on : (ledger : Ledger) (state : LedgerState) (history : List StampedEntry) → IsTyped state.chain.records.core
    → AllByRecursion (IsOwnEntry ledger) (met_states ledger.genesis ledger.chain ledger.seen state history)
    → Told state.chain.committed state.chain.time history (replay ledger.genesis ledger.chain ledger.seen state history).chain.committed
told_on ledger state [] typed own = record { blocks = sym (append-nil (map committed_block state.chain.committed)); counted = tt }
told_on ledger state (e ∷ history) typed own =
    let next = (entry_answer ledger.genesis ledger.chain ledger.seen state e).1 in
    let its = own_typed ledger state e own.0 in
    let done = answer_commits ledger.genesis ledger.chain ledger.seen e.entry.reading state e.entry.event typed its in
    let rest = told_on ledger next history done.typed own.1 in
    let after : List Block = (replay ledger.genesis ledger.chain ledger.seen next history).chain.committed in
    elim (answer_ends ledger.genesis ledger.chain ledger.seen e.entry.reading state e.entry.event typed its) [
      | inl goes ↦
          let plain = ap is_block_reply own.0.reply ∙ goes.0 in
          plain_more state.chain.committed next.chain.committed after state.chain.time next.chain.time e history
          (ends_nothing e.entry.event e.entry.reply plain) goes.2 goes.1 rest
      | inr ends ↦
          let one : ended_by e.entry ≡ Some (record { height = length state.chain.committed + 1; root = core_root state.chain.records.core; next_time = next.chain.time }) =
          ap (ended_in e.entry.event) own.0.reply ∙ ends_one e.entry.event _ state.chain next.chain ends
          ∙ ap (λ (t : ℕ). Some (record { height = length state.chain.committed + 1; root = core_root state.chain.records.core; next_time = t })) (sym ends.time) in
          block_more state.chain.committed next.chain.committed after state.chain.time next.chain.time (working state.chain) e history one refl ends.committed rest
    ]

-- ---- a ledger

abbrev pub time_of : ChainState → ℕ
time_of chain = chain.time

module _ (ledger : Ledger) (is : IsLedger ledger) where
  pub its_start : ChainState
  its_start = (get_there ledger.genesis.chains ledger.chain is.number).0

  starts : (starting_state ledger.genesis ledger.chain).chain ≡ starting_chain its_start
  unfolding its_start
  starts =
      let there = get_there ledger.genesis.chains ledger.chain is.number in
      ap (λ (o : Option MachineChain). unwrap_or o empty_chain)
      (slice_get-map starting_chain ledger.genesis.chains ledger.chain ∙ ap (option_map starting_chain) there.1)

  told : Told [] (time_of its_start) ledger.history (state_of ledger).chain.committed
  told =
      let whole = told_on ledger (starting_state ledger.genesis ledger.chain) ledger.history
      (subst (λ (c : MachineChain). IsTyped c.records.core) (sym starts) typed_start) is.entries in
      subst (λ (c : MachineChain). Told c.committed c.time ledger.history (state_of ledger).chain.committed) starts whole

  pub its_time : slice_get (map time_of ledger.genesis.chains) ledger.chain ≡ Some (time_of its_start)
  unfolding its_start
  its_time =
      let there = get_there ledger.genesis.chains ledger.chain is.number in
      slice_get-map time_of ledger.genesis.chains ledger.chain ∙ ap (option_map time_of) there.1

  pub counted : AreCountedFrom 1 (ends_in ledger.history)
  counted = told.counted

  all_told : map committed_block (state_of ledger).chain.committed ≡ blocks_told (time_of its_start) (ends_in ledger.history)
  all_told = told.blocks

-- ---- the window

block_mapped : (height : ℕ) (blocks : List Block) → option_map committed_block (block_of height blocks) ≡ told_at height (map committed_block blocks)
block_mapped zero blocks = refl
block_mapped (suc k) blocks = sym (slice_get-map committed_block blocks k)

if_kept : (b : Bool) (o : Option Block) (o' : Option CommittedBlock) → option_map committed_block o ≡ o'
    → option_map committed_block (elim b as (λ _. Option Block) [ true ↦ o | false ↦ None ]) ≡ elim b as (λ _. Option CommittedBlock) [ true ↦ o' | false ↦ None ]
if_kept true o o' is = is
if_kept false o o' is = refl

kept_mapped : (window height : ℕ) (blocks : List Block) → option_map committed_block (provable_block window blocks height) ≡ kept_told window height (map committed_block blocks)
kept_mapped window height blocks =
    if_kept (nat_lt (length blocks - window) height) (block_of height blocks) (told_at height (map committed_block blocks)) (block_mapped height blocks)
    ∙ ap (λ (n : ℕ). elim (nat_lt (n - window) height) as (λ _. Option CommittedBlock) [ true ↦ told_at height (map committed_block blocks) | false ↦ None ])
    (sym (length-map blocks committed_block))

-- what a ledger tells of a height is what its history tells
pub history_tells : (ledger : Ledger) (is : IsLedger ledger) (window height : ℕ) → window ≡ ledger.genesis.window
    → kept_told window height (blocks_told (time_of (its_start ledger is)) (ends_in ledger.history)) ≡ block_in height ledger
history_tells ledger is window height same =
    (λ i. kept_told (same i) height (blocks_told (time_of (its_start ledger is)) (ends_in ledger.history)))
    ∙ ap (kept_told ledger.genesis.window height) (sym (all_told ledger is))
    ∙ sym (kept_mapped ledger.genesis.window height (state_of ledger).chain.committed)

-- what is read by the times that chains began at
pub found_in : (ledger : Ledger) → IsLedger ledger → (starts : ChainStarts) (height : ℕ) (found : Option CommittedBlock) → AreStartsOf ledger.genesis starts
    → (number : ℕ) → number ≡ ledger.chain → (history : List StampedEntry) → history ≡ ledger.history
    → (AreCountedFrom 1 (ends_in history)
    → MatchOption (slice_get starts.times.items number) (found ≡ None) (λ time. found ≡ kept_told starts.window height (blocks_told time (ends_in history))))
    → found ≡ block_in height ledger
found_in ledger is starts height found are number numbered history same by_time =
    let time = time_of (its_start ledger is) in
    let there : slice_get starts.times.items number ≡ Some time =
    ap (slice_get starts.times.items) numbered ∙ ap (λ (l : List ℕ). slice_get l ledger.chain) are.1 ∙ its_time ledger is in
    let told = by_time (subst (λ (h : List StampedEntry). AreCountedFrom 1 (ends_in h)) (sym same) (counted ledger is)) in
    MatchOption-at_some (found ≡ None) (λ (t : ℕ). found ≡ kept_told starts.window height (blocks_told t (ends_in history))) time there told
    ∙ ap (λ (h : List StampedEntry). kept_told starts.window height (blocks_told time (ends_in h))) same
    ∙ history_tells ledger is starts.window height are.0
