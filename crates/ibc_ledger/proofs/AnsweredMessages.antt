-- A ledger with what it holds, after a message.
use Rattle.ibc_ledger.proofs.Common.{eqb, eq-eqb, and_from, ◌≡◌, ◌⊎◌, ◌+◌, ℕ, true, false, List, ◌++◌, length, refl, sym, ap, ◌∙◌, None, Option, is_some, Result, Ok, Err, subst, inl, inr, ⊎_elim, ⊤, Text, Map, published_by, Publication}
use Rattle.ibc_ledger.proofs.Common.{NoMemory, Refusal, Message, UpdateClient, after_answer, host_of, after_message, GenesisState, Effect, Reply, Reading, Core, Apps, Checked, go_on, ◌>>=◌, update_client, handle, LedgerState, Consensus}
use Rattle.ibc_ledger.proofs.Common.{proof_evidence, ledger_answer, with_consensus, Ledger, state_of, is_typed, is_looking, is_block_reply, RecordsModel, core_of, IsUnchanged, IsHandledWith, IsTakenWith, host_with, IsUpdated, EffectTwice, result_effects}
use Rattle.ibc_ledger.proofs.Common.{caller_reply, with_seen, with_entry, entry_of, stamp_if, IsFittingReading, IsStateOf, IsReplayedState}
use Rattle.ibc_wire.specs.declared.messages.Message.TheVariants as message
use Rattle.ibc_machine.specs.declared.event.Event.TheVariants as event
use Rattle.ibc_machine.specs.declared.reply.Effect.TheVariants as effect
use Rattle.ibc_refinement.proofs.Growing.{ledgers_see_more, answer_next, message_commits}
use Rattle.ibc_ledger.proofs.Holding.{stands_next, with_records, unchanged_holds, written_holds, updated_holds}

-- no client is told of a height
abbrev pub TellsNothing : Message → Type 0
TellsNothing m = (known : Map (Text × ℕ) Consensus) → with_consensus m known ≡ known

module _ (genesis : GenesisState) (k : ℕ) (seen : List Publication) (reading : Option Reading) (state : LedgerState) (m : Message) where
  -- the effect of the message and the records after it, or why it is refused
  abbrev pub step : Checked (Effect × Core × Apps)
  step = handle m (proof_evidence seen reading state) (host_of (length genesis.chains) k state.chain) state.chain.records.core state.chain.records.apps

  step_answer : (x : Checked (Effect × Core × Apps)) → step ≡ x → ledger_answer genesis k seen reading state (event.Message k m) ≡ after_answer m state (after_message state.chain x)
  unfolding ledger_answer
  step_answer x e = ap (λ x. after_answer m state (after_message state.chain x)) e

module _ (ledger : Ledger) (old : RecordsModel) (apps : Apps) (stands : IsReplayedState ledger old apps) (more : List Publication) (others : published_by ledger.chain (ledger.seen ++ more) ≡ published_by ledger.chain ledger.seen) where
  -- memory ran out: the pass may have seen more, and there is other room
  pub stands_unchanged : (new : RecordsModel) (left : Apps) → IsUnchanged old new → left ≡ apps → IsReplayedState (with_seen ledger more) new left
  stands_unchanged new left same kept =
      let w = ledgers_see_more ledger more stands.is others in
      record {
        is = w.0;
        holds = subst (λ (s : LedgerState). IsStateOf ledger.genesis.window s new left) (sym w.1) (unchanged_holds ledger.genesis.window (state_of ledger) old apps stands.holds new left same kept);
      }

  module _ (m : Message) (reading : Option Reading) (new : RecordsModel) (left : Apps) where
    -- the ledger with the entry of a message
    abbrev pub Followed : Reply → Ledger
    Followed given = with_entry ledger (entry_of (event.Message ledger.chain m) given reading (stamp_if (is_some reading) (ledger.seen ++ more))) more

    -- what a message does
    abbrev does : Checked (Effect × Core × Apps)
    does = step ledger.genesis ledger.chain (ledger.seen ++ more) reading (state_of ledger) m

    -- what a message replies and leaves
    abbrev pub Leaves : Result EffectTwice Refusal → Type 0
    Leaves (Ok effects) =
        (core : Core) × (does ≡ Ok (effects.told, core, left)) × IsStateOf ledger.genesis.window (with_records m (state_of ledger) (record { core = core; apps = left })) new left
    Leaves (Err r) = ((does ≡ Err r) ⊎ (r ≡ NoMemory)) × IsUnchanged old new × (left ≡ apps)

    stands_with : (given : Reply) (after : LedgerState) → is_typed (event.Message ledger.chain m) ≡ true
        → is_block_reply given ≡ false → is_some reading ≡ is_looking (state_of ledger) (event.Message ledger.chain m) → IsFittingReading ledger.genesis.window (ledger.seen ++ more) (event.Message ledger.chain m) reading
        → ledger_answer ledger.genesis ledger.chain (ledger.seen ++ more) reading (state_of ledger) (event.Message ledger.chain m) ≡ (given, after) → IsStateOf ledger.genesis.window after new left
        → IsReplayedState (Followed given) new left
    stands_with given after typed no_block looking reads answer holds =
        stands_next ledger _ more new left stands.is (answer_next ledger more stands.is (event.Message ledger.chain m) given reading others (record {
          own = and_from (eqb ledger.chain ledger.chain) (is_typed (event.Message ledger.chain m)) (eq-eqb ledger.chain ledger.chain refl) typed;
          reply = sym (ap (λ (w : Reply × LedgerState). w.0) answer);
          no_block = no_block;
          looking = looking;
          reads = reads;
          commits = message_commits ledger.genesis ledger.chain (ledger.seen ++ more) reading (state_of ledger) ledger.chain m;
        }))
        (subst (λ (w : Reply × LedgerState). IsStateOf ledger.genesis.window w.1 new left) (sym answer) holds)

    pub stands_left : is_typed (event.Message ledger.chain m) ≡ true → is_some reading ≡ is_looking (state_of ledger) (event.Message ledger.chain m)
        → IsFittingReading ledger.genesis.window (ledger.seen ++ more) (event.Message ledger.chain m) reading
        → (result : Result EffectTwice Refusal) → is_block_reply (caller_reply result) ≡ false → (result ≡ Err NoMemory → ⊥) → Leaves result → IsReplayedState (Followed (caller_reply result)) new left
    stands_left typed looking reads (Ok effects) no_block plenty leaves =
        stands_with (caller_reply (Ok effects)) (with_records m (state_of ledger) (record { core = leaves.0; apps = left })) typed no_block looking reads
        (step_answer ledger.genesis ledger.chain (ledger.seen ++ more) reading (state_of ledger) m (Ok (effects.told, leaves.0, left)) leaves.1) leaves.2
    stands_left typed looking reads (Err r) no_block plenty leaves =
        stands_with (caller_reply (Err r)) (state_of ledger) typed no_block looking reads
        (step_answer ledger.genesis ledger.chain (ledger.seen ++ more) reading (state_of ledger) m (Err r) (⊎_elim (λ e. e) (λ none. absurd (plenty (ap Err none))) leaves.0))
        (unchanged_holds ledger.genesis.window (state_of ledger) old apps stands.holds new left leaves.1 leaves.2)

  module _ (chains : ℕ) (as_many : chains ≡ length ledger.genesis.chains) where
    -- what a handler says of the ledger's state
    says_so : (m : Message) (reading : Option Reading)
        → handle m (proof_evidence (ledger.seen ++ more) reading (state_of ledger)) (host_with ledger.chain chains old) (core_of old) apps
        ≡ step ledger.genesis ledger.chain (ledger.seen ++ more) reading (state_of ledger) m
    says_so m reading =
        let high = ap (λ n. n + 1) stands.holds.height in
        λ i. handle m (proof_evidence (ledger.seen ++ more) reading (state_of ledger)) (record { chain = ledger.chain; chains = as_many i; height = high i; time = stands.holds.time i }) (stands.holds.core i) (stands.holds.apps_are i)

    -- ---- messages that read nothing

    module _ (m : Message) (tells : TellsNothing m) (new : RecordsModel) (left : Apps) where
      taken : (result : Result EffectTwice Refusal) → IsHandledWith (λ (effects : EffectTwice). effects.told) (handle m) ledger.chain chains old apps result new left
          → IsTakenWith (λ (effects : EffectTwice). effects.told) (step ledger.genesis ledger.chain (ledger.seen ++ more) None (state_of ledger) m) old apps result new left
      taken result handled = subst (λ checked. IsTakenWith (λ (effects : EffectTwice). effects.told) checked old apps result new left) (says_so m None) (handled (ledger.seen ++ more) (state_of ledger) stands.holds.known)

      pub unread_leaves : (result : Result EffectTwice Refusal) → IsHandledWith (λ (effects : EffectTwice). effects.told) (handle m) ledger.chain chains old apps result new left → Leaves m None new left result
      unread_leaves (Ok effects) handled =
          let did = taken (Ok effects) handled in
          (did.0, did.1, written_holds ledger.genesis.window (state_of ledger) old apps stands.holds m did.0 left new did.2 (tells (state_of ledger).consensus))
      unread_leaves (Err r) handled = taken (Err r) handled

    -- ---- a client is told of a height, or not

    module _ (m : UpdateClient) (new : RecordsModel) (reading : Option Reading) where
      abbrev told : Checked (Effect × Core)
      told = update_client m (proof_evidence (ledger.seen ++ more) reading (state_of ledger)) (host_with ledger.chain chains old) (core_of old)

      abbrev whole : Checked (Effect × Core) → Checked (Effect × Core × Apps)
      whole checked = checked >>= λ ((effect, after) : Effect × Core). Ok (effect, after, apps)

      does_so : whole told ≡ step ledger.genesis ledger.chain (ledger.seen ++ more) reading (state_of ledger) (message.UpdateClient m)
      unfolding handle
      does_so = says_so (message.UpdateClient m) reading

      pub update_leaves : (result : Result ⊤ Refusal) → IsUpdated told m old result new → Leaves (message.UpdateClient m) reading new apps (result_effects (λ _. effect.None) result)
      unfolding go_on
      update_leaves (Ok _) updated = (core_of new, sym does_so ∙ ap whole updated.0, updated_holds ledger.genesis.window (state_of ledger) old apps stands.holds m new updated.1 apps)
      update_leaves (Err r) refused =
          (⊎_elim (λ e. inl (sym does_so ∙ ap whole e)) (λ none. inr none.0) refused.0, refused.1, refl)
