-- What a chain answers to a message, and what that does to what it keeps.
use Rattle.std.specs.Prelude.{◌≡◌, true, false, is_some, Result, None, ⊤, IfOk, IfSome, Ok, Err}
use Rattle.ibc_ids.specs.Publications.{height_of as published_height}
use Rattle.ibc_ids.specs.declared.refusal.Refusal.{Refusal}
use Rattle.ibc_wire.specs.Fields.{are_typed}
use Rattle.ibc_wire.specs.Messages.{message_fields}
use Rattle.ibc_wire.specs.declared.messages.Message.{Message}
use Rattle.ibc_wire.specs.declared.messages.Message.TheVariants as message
use Rattle.ibc_wire.specs.declared.messages.UpdateClient.{UpdateClient}
use Rattle.ibc_machine.specs.declared.reply.Effect.TheVariants as effect
use Rattle.ibc_machine.specs.declared.reply.Reply.TheVariants as reply
use Rattle.ibc_machine.specs.ics02.Clients.{update_client}
use Rattle.ibc_machine.specs.chain.Handlers.{handle}
use Rattle.ibc_machine.specs.ledger.Ledgers.{is_block_reply, reading_fits, IsReadBetween}
use Rattle.ibc_machine.specs.ledger.Replay.{LedgerState, proof_evidence}
use Rattle.ibc_machine.specs.chain.Orderly.{IsOrderly}
use Rattle.ibc_records.specs.RecordsModel.{core_of}
use Rattle.ibc_records.specs.HandlerContract.{IsHandledWith, host_with}
use Rattle.ibc_root_table.specs.Passes.{Sight}
use Rattle.ibc_records.specs.ClientReplies.{IsUpdated}
use Rattle.ibc_records.specs.HeaderChecks.{is_reading_update}
use Rattle.ibc_transfer.specs.InFlight.{IsInFlight}
use Rattle.ibc_ledger.specs.declared.host_state.HostState.{HostState}
use Rattle.ibc_ledger.specs.declared.outcome.EffectTwice.{EffectTwice}
use Rattle.ibc_ledger.specs.declared.outcome.Outcome.{Outcome}
use Rattle.ibc_ledger.specs.ReplayedState.{abstract_apps}
use Rattle.ibc_machine.specs.declared.reply.Effect.{Effect}
use Rattle.ibc_machine.specs.declared.reply.Reply.{Reply}

-- the same effect twice
abbrev pub effect_twice : Effect → EffectTwice
effect_twice effect = record { told = effect; kept = effect }

-- what a result has to tell
abbrev pub result_effects : {A : Type 0} → (A → Effect) → Result A Refusal → Result EffectTwice Refusal
result_effects effect_of (Ok x) = Ok (effect_twice (effect_of x))
result_effects effect_of (Err refusal) = Err refusal

-- the reply to the caller, and the one in the history
abbrev pub caller_reply : Result EffectTwice Refusal → Reply
caller_reply (Ok effects) = reply.Ok effects.told
caller_reply (Err refusal) = reply.No refusal

abbrev pub history_reply : Result EffectTwice Refusal → Reply
history_reply (Ok effects) = reply.Ok effects.kept
history_reply (Err refusal) = reply.No refusal

-- The message is as its type promises, the channels are in order, and the bank knows what is burnt in flight.
pub record IsReady (m : Message) (node : HostState) : Type 0 where
  pub typed : are_typed (message_fields m) ≡ true
  pub orderly : IsOrderly (core_of node.records)
  pub flight : IsInFlight node.applications.transfers (core_of node.records)

-- A message that reads nothing is answered as the definitions handle it, by roots and proofs. Afterwards the bank knows
-- what is burnt in flight.
pub record IsAnswered (m : Message) (old : HostState) (result : Result EffectTwice Refusal) (new : HostState) : Type 0 where
  pub same : new ≡ record old { records = new.records; applications = new.applications }
  pub handled : IsHandledWith (λ (effects : EffectTwice). effects.told) (handle m) old.number old.chains old.records (abstract_apps old.applications)
      result new.records (abstract_apps new.applications)
  pub flight : IsInFlight new.applications.transfers (core_of new.records)
  pub kept : IfOk result (λ (effects : EffectTwice). effects.kept ≡ effects.told)
  pub no_block : IfOk result (λ (effects : EffectTwice). is_block_reply (reply.Ok effects.told) ≡ false)

-- An update of a client is answered by what was read. Something is read where the message looks; it fits what was seen of
-- the header's chain by the end of the call, and was so at some time of the call.
pub record IsUpdateAnswer (m : UpdateClient) (old : HostState) (before : Sight) (outcome : Outcome) (new : HostState) (after : Sight) : Type 0 where
  pub same : new ≡ record old { records = new.records }
  pub result : Result ⊤ Refusal
  pub told : outcome.result ≡ result_effects (λ _. effect.None) result
  pub updated : (state : LedgerState)
      → IsUpdated (update_client m (proof_evidence after.seen outcome.reading state) (host_with old.number old.chains old.records) (core_of old.records)) m
      old.records result new.records
  pub looks : is_some outcome.reading ≡ is_reading_update (core_of old.records) m
  pub fits : IfSome outcome.reading (λ r.
      reading_fits before.table.shape.window (published_height m.header.chain after.seen) m.header.height r ≡ true)
  pub was_so : IfSome outcome.reading (λ r. IsReadBetween before.seen after.seen m.header.chain r.published)

-- an update of a client reads, and every other message leaves the pass
abbrev pub IsAnswer : Message → HostState → Sight → Outcome → HostState → Sight → Type 0
IsAnswer (message.UpdateClient m) old before outcome new after = IsUpdateAnswer m old before outcome new after
IsAnswer m old before outcome new after =
    IsAnswered m old outcome.result new × (outcome.reading ≡ None) × (after ≡ before)
