-- The view after the end of a block shows the height that the reply told.
use Rattle.std.proofs.Common.{◌≡◌, ◌∙◌, ◌++◌, ◌∷◌, ◌+◌, [], List, ℕ, Option, Some, None, Ok, Err, refl, ap, sym, subst, length, length-append, ⊎_elim}
use Rattle.std.specs.Prelude.{⊤, IfSome, true}
use Rattle.std.specs.List.{AllByRecursion, last_or}
use Rattle.ibc_ids.specs.Texts.{Text}
use Rattle.ibc_machine.specs.chain.Checks.{Checked}
use Rattle.ibc_ids.specs.declared.publication.Publication.{Publication}
use Rattle.ibc_ids.specs.declared.refusal.Refusal.TheVariants.{NoMemory}
use Rattle.ibc_machine.specs.declared.event.Event.TheVariants as event
use Rattle.ibc_machine.specs.declared.reply.Effect.TheVariants as effect
use Rattle.ibc_machine.specs.declared.reply.Reply.{Reply}
use Rattle.ibc_machine.specs.declared.reply.Reply.TheVariants as reply
use Rattle.ibc_machine.specs.chain.Genesis.{GenesisState}
use Rattle.ibc_machine.specs.chain.Handlers.{after_block, block_answer}
use Rattle.ibc_machine.specs.ledger.Ledgers.{Ledger, IsLedger, IsOwnEntry, SeesMore, AddsNext, is_block_reply, state_of}
use Rattle.ibc_machine.specs.chain.Records.{Block, MachineChain}
use Rattle.ibc_machine.specs.ics18.Relay.{view_at, view_of}
use Rattle.ibc_machine.specs.ledger.Replay.{LedgerState, StampedEntry, entry_answer, ledger_answer, met_states, replay, starting_state, with_chain}
use Rattle.ibc_merkle.proofs.Sorted.{last-push}
use Rattle.ibc_refinement.proofs.EntrySteps.{replay_more}
use Rattle.ibc_ledger.specs.HistoryGrowth.{AddsOrNot}
use Rattle.ibc_ledger.specs.LedgerModel.{LedgerModel}
use Rattle.ibc_ledger_lock.specs.ReceiptsAndReadings.{ReceiptModel, IsEndOf, ShowsEnd, view_shown}
use Rattle.ibc_ledger_lock.proofs.Noting.{same}

last_met : (P : LedgerState × StampedEntry → Type 0) (genesis : GenesisState) (k : ℕ) (seen : List Publication) (state : LedgerState) (history : List StampedEntry) (e : StampedEntry)
    → AllByRecursion P (met_states genesis k seen state (history ++ e ∷ [])) → P (replay genesis k seen state history, e)
last_met P genesis k seen state [] e all = all.0
last_met P genesis k seen state (x ∷ history) e all = last_met P genesis k seen (entry_answer genesis k seen state x).1 history e all.1

-- where a block was ended, it is the last of the chain
ended : (k : ℕ) (s : LedgerState) (t : ℕ) (x : Checked ⊤) (height : ℕ) (root : Text)
    → reply.Ok (effect.Block height root) ≡ (with_chain s (after_block s.chain t x)).0
    → (view_of k (with_chain s (after_block s.chain t x)).1.chain).height ≡ height
ended k s t (Ok may) height root e =
    let block : Block = record { records = s.chain.records; time = s.chain.time } in
    let chain : MachineChain = record { records = s.chain.records; time = t; committed = s.chain.committed ++ block ∷ [] } in
    let same : height ≡ length s.chain.committed + 1 = cc in
    ap (λ o. (view_at k chain o).height) (last-push None s.chain.committed block)
    ∙ length-append s.chain.committed (block ∷ []) ∙ sym same
ended k s t (Err refusal) height root e = absurd (cc)

module _ (old : Ledger) (e : StampedEntry) (more : List Publication) (t height : ℕ) (root : Text) where
  abbrev longer : Ledger
  longer = record old { history = old.history ++ e ∷ []; seen = old.seen ++ more }

  abbrev before : LedgerState
  before = replay old.genesis old.chain (old.seen ++ more) (starting_state old.genesis old.chain) old.history

  answer : e.entry.event ≡ event.Block old.chain t
      → entry_answer old.genesis old.chain (old.seen ++ more) before e ≡ with_chain before (block_answer old.genesis.capacity before.chain t)
  unfolding ledger_answer
  answer asked = ap (λ x. ledger_answer old.genesis old.chain (old.seen ++ more) e.entry.reading before x) asked

  height_told : e.entry.event ≡ event.Block old.chain t → e.entry.reply ≡ reply.Ok (effect.Block height root) → IsLedger longer
      → (view_of old.chain (state_of longer).chain).height ≡ height
  height_told asked answered is =
      let own = last_met (IsOwnEntry longer) old.genesis old.chain (old.seen ++ more) (starting_state old.genesis old.chain) old.history e is.entries in
      let step = answer asked in
      let state = replay_more old.genesis old.chain (old.seen ++ more) (starting_state old.genesis old.chain) old.history e in
      ap (λ (s : LedgerState). (view_of old.chain s.chain).height) (state ∙ ap (λ (w : Reply × LedgerState). w.1) step)
      ∙ ended old.chain before t _ height root (sym answered ∙ own.reply ∙ ap (λ (w : Reply × LedgerState). w.0) step)

-- the view after the end of a block is of the height that the reply tells
shows_end : (old new : Ledger) (t height : ℕ) (root : Text) → AddsOrNot old (event.Block old.chain t) (reply.Ok (effect.Block height root)) new
    → IsLedger new → (view_of new.chain (state_of new).chain).height ≡ height
shows_end old new t height root adds is =
    ⊎_elim
    (λ (no : (reply.Ok (effect.Block height root) ≡ reply.No NoMemory) × SeesMore old new). absurd (let e = no.0 in cc))
    (λ (yes : (reply.Ok (effect.Block height root) ≡ reply.No NoMemory → ⊥) × AddsNext old (event.Block old.chain t) (reply.Ok (effect.Block height root)) new).
    let same = yes.1.4 in
    subst (λ (l : Ledger). IsLedger l → (view_of l.chain (state_of l).chain).height ≡ height) (sym same)
    (height_told old yes.1.0 yes.1.1 t height root yes.1.2 yes.1.3) is)
    adds

-- the reply of a block's end tells a height
told_height : (given : Reply) → is_block_reply given ≡ true → (height : ℕ) × IsEndOf given height
told_height (reply.Ok (effect.Block height root)) e = (height, (root, refl))
told_height (reply.Ok effect.None) e = absurd (cc)
told_height (reply.Ok (effect.Client _)) e = absurd (cc)
told_height (reply.Ok (effect.Connection _)) e = absurd (cc)
told_height (reply.Ok (effect.Channel _)) e = absurd (cc)
told_height (reply.Ok (effect.Sent _)) e = absurd (cc)
told_height (reply.Ok (effect.Ack _)) e = absurd (cc)
told_height (reply.No _) e = absurd (cc)

pub of_chain : (k : ℕ) (chain : MachineChain) → (view_of k chain).chain ≡ k
of_chain k chain = by_last (last_or None chain.committed)
  where
    by_last : (o : Option Block) → (view_at k chain o).chain ≡ k
    by_last None = refl
    by_last (Some last) = refl

module _ (old : Ledger) (new : LedgerModel) (t : ℕ) (told : ReceiptModel)
    (adds : AddsOrNot old (event.Block old.chain t) told.reply new.ledger) (chain : told.chain ≡ old.chain)
    (end : is_block_reply told.reply ≡ true) where
  shows : IsLedger new.ledger → ShowsEnd told (view_shown new)
  shows is =
      let w = told_height told.reply end in
      let height = shows_end old new.ledger t w.0 w.1.0 (subst (λ given. AddsOrNot old (event.Block old.chain t) given new.ledger) w.1.1 adds) is in
      let numbers = same old new.ledger (event.Block old.chain t) told.reply adds in (
        of_chain new.ledger.chain (state_of new.ledger).chain ∙ numbers.0 ∙ sym chain,
        (w.1.0, w.1.1 ∙ ap (λ n. reply.Ok (effect.Block n w.1.0)) (sym height)),
      )

  -- what is seen after the end of a block may be posted
  pub looked : (o : Option LedgerModel) → IfSome o (λ held. (held ≡ new) × IsLedger held.ledger)
      → IfSome o (λ held. (held ≡ new) × ShowsEnd told (view_shown held))
  looked None e = tt
  looked (Some held) e =
      (e.0, subst (λ (l : LedgerModel). ShowsEnd told (view_shown l)) (sym e.0) (shows (subst (λ (l : LedgerModel). IsLedger l.ledger) e.0 e.1)))
