-- What a ledger publishes by an entry: nothing, or its block; and nothing where it has only seen more.
use Rattle.std.proofs.Common.{◌≡◌, ℕ, ◌<◌, List, [], ◌∷◌, ◌++◌, length, map, refl, sym, ap, ◌∙◌, subst, Some, None, option_map, unwrap_or, slice_get, inl, inr, ◌⊎◌, true, false, eqb, eqb-true}
use Rattle.std.specs.List.{AllByRecursion}
use Rattle.std.proofs.lemmas.Bool.{and_parts}
use Rattle.std.proofs.lemmas.List.{map-append}
use Rattle.std.proofs.lemmas.Option.{slice_get-map}
use Rattle.ibc_ids.specs.Publications.{published_by}
use Rattle.ibc_ids.specs.declared.publication.Publication.{Publication}
use Rattle.ibc_machine.specs.chain.Records.{MachineChain}
use Rattle.ibc_machine.specs.chain.Genesis.{GenesisState, start, starting_chain}
use Rattle.ibc_machine.specs.ledger.Replay.{LedgerState, StampedEntry, entry_answer, replay, met_states, starting_state, empty_chain}
use Rattle.ibc_machine.specs.ledger.Ledgers.{Ledger, IsLedger, IsOwnEntry, IsReading, published_as, chain_of, header_in, is_typed, is_block_reply, is_accepted_block}
use Rattle.ibc_refinement.proofs.ChangedPlaces.{get_there}
use Rattle.ibc_refinement.proofs.Typed.{IsTyped}
use Rattle.ibc_refinement.proofs.EntrySteps.{working, answer_commits, own_typed, replay_more}
use Rattle.ibc_refinement.proofs.EntryEnds.{answer_ends}
use Rattle.ibc_refinement.proofs.MergedRun.{typed_start}
use Rattle.ibc_refinement.proofs.SeenMore.{replay_stays}

abbrev pub seeing : Ledger → List Publication → Ledger
seeing ledger more = record ledger { seen = ledger.seen ++ more }

abbrev pub with_next : Ledger → StampedEntry → List Publication → Ledger
with_next ledger e more = record ledger { history = ledger.history ++ e ∷ []; seen = ledger.seen ++ more }

starts_typed : (genesis : GenesisState) (k : ℕ) → k < length genesis.chains → IsTyped (starting_state genesis k).chain.records.core
starts_typed genesis k low =
    let c = get_there genesis.chains k low in
    let first : slice_get (start genesis) k ≡ Some (starting_chain c.0) = slice_get-map starting_chain genesis.chains k ∙ ap (option_map starting_chain) c.1 in
    subst (λ (x : MachineChain). IsTyped x.records.core) (sym (ap (λ o. unwrap_or o empty_chain) first)) typed_start

-- the last entry met a typed state, and is the ledger's own there
last_met : (ledger : Ledger) (genesis : GenesisState) (k : ℕ) (seen : List Publication) (state : LedgerState) (history : List StampedEntry) (e : StampedEntry) → IsTyped state.chain.records.core
    → AllByRecursion (IsOwnEntry ledger) (met_states genesis k seen state (history ++ e ∷ []))
    → IsTyped (replay genesis k seen state history).chain.records.core × IsOwnEntry ledger (replay genesis k seen state history, e)
last_met ledger genesis k seen state [] e typed own = (typed, own.0)
last_met ledger genesis k seen state (x ∷ history) e typed own =
    last_met ledger genesis k seen (entry_answer genesis k seen state x).1 history e
    (answer_commits genesis k seen x.entry.reading state x.entry.event typed (own_typed ledger state x own.0)).typed own.1

module _ (ledger : Ledger) (more : List Publication) (is : IsLedger ledger) where
  -- the committed blocks before
  abbrev blocks : LedgerState → List Publication
  blocks state = map (published_as ledger.chain) state.chain.committed

  abbrev begin : LedgerState
  begin = starting_state ledger.genesis ledger.chain

  -- the state of the history, where more was seen
  abbrev met : LedgerState
  met = replay ledger.genesis ledger.chain (ledger.seen ++ more) begin ledger.history

  published_before : blocks met ≡ published_by ledger.chain ledger.seen
  published_before = ap blocks (replay_stays ledger ledger.chain more begin ledger.history is.entries) ∙ sym is.published

  -- a ledger that has only seen more has published nothing
  pub sees_only : IsLedger (seeing ledger more) → published_by ledger.chain (ledger.seen ++ more) ≡ published_by ledger.chain ledger.seen
  sees_only new = new.published ∙ published_before

  module _ (e : StampedEntry) (new : IsLedger (with_next ledger e more)) where
    -- the entry published nothing
    pub record IsPlain : Type 0 where
      pub published : published_by ledger.chain (ledger.seen ++ more) ≡ published_by ledger.chain ledger.seen
      pub plain : is_accepted_block e.entry ≡ false

    -- the entry published its block
    pub record IsEnded : Type 0 where
      pub block : Publication
      pub chain : block.chain ≡ ledger.chain
      pub published : published_by ledger.chain (ledger.seen ++ more) ≡ published_by ledger.chain ledger.seen ++ block ∷ []
      pub accepted : is_accepted_block e.entry ≡ true
      pub no_header : header_in e.entry.event ≡ None

    last : IsTyped met.chain.records.core × IsOwnEntry (with_next ledger e more) (met, e)
    last = last_met (with_next ledger e more) ledger.genesis ledger.chain (ledger.seen ++ more) begin ledger.history e (starts_typed ledger.genesis ledger.chain is.number) new.entries

    abbrev after : LedgerState
    after = (entry_answer ledger.genesis ledger.chain (ledger.seen ++ more) met e).1

    published_after : published_by ledger.chain (ledger.seen ++ more) ≡ blocks after
    published_after = new.published ∙ ap blocks (replay_more ledger.genesis ledger.chain (ledger.seen ++ more) begin ledger.history e)

    pub own_event : chain_of e.entry.event ≡ ledger.chain
    own_event = eqb-true (chain_of e.entry.event) ledger.chain (and_parts (eqb (chain_of e.entry.event) ledger.chain) (is_typed e.entry.event) last.1.event).0

    pub own_reading : IsReading ledger.genesis.window (ledger.seen ++ more) e
    own_reading = last.1.reading

    pub publishes : IsPlain ⊎ IsEnded
    publishes =
        elim (answer_ends ledger.genesis ledger.chain (ledger.seen ++ more) e.entry.reading met e.entry.event last.0 (own_typed (with_next ledger e more) met e last.1)) [
          | inl w ↦ inl (record {
            published = published_after ∙ ap (map (published_as ledger.chain)) w.2 ∙ published_before;
            plain = ap is_block_reply last.1.reply ∙ w.0;
          })
          | inr w ↦ inr (record {
            block = published_as ledger.chain (working met.chain);
            chain = refl;
            published = published_after ∙ ap (map (published_as ledger.chain)) w.committed ∙ map-append (published_as ledger.chain) met.chain.committed (working met.chain ∷ [])
                ∙ ap (λ xs. xs ++ published_as ledger.chain (working met.chain) ∷ []) published_before;
            accepted = ap is_block_reply (last.1.reply ∙ w.reply_is);
            no_header = ap header_in w.event_is;
          })
        ]
