-- What the step answers is what is due.
use Rattle.std.proofs.Common.{◌<◌, ◌≤◌, [], ◌∷◌, length, refl, sym, ◌∙◌, subst}
use Rattle.ibc_replay.specs.declared.replaying.Answered.{Answered}
use Rattle.ibc_replay.specs.Replays.{GoesOnAsStored, HasLastReading, entry_of}
use Rattle.ibc_replay.proofs.StoredSteps.{goes_on_by_due, keeps_nothing, past_all, taken, refused}
use Rattle.ibc_replay.proofs.replaying.step_as_stored.Goals as goal

pub returns-then-not-has_chain-clause-different : goal.returns-then-not-has_chain-clause-different
returns-then-not-has_chain-clause-different c =
    let chains = length c.args.world.now.ledgers in
    (refl, refl, refl, subst (λ k. chains ≤ k) c.chain_of-chain.ensures (past_all c.has_chain.result c.chain_of-chain.result chains c.has_chain.ensures c.if-not-has_chain.true))

pub returns-then-not-is_answered-clause-different : goal.returns-then-not-is_answered-clause-different
returns-then-not-is_answered-clause-different c =
    keeps_nothing c.args.world.now c.step-reply.new.self c.args.stored.event c.step-reply.result c.step-reply.ensures.runs (sym c.is_answered.ensures ∙ c.if-not-is_answered.true)

module _ (c : goal.After-compare) where
  abbrev due : Answered
  due = record { reply = c.step-reply.result; reading = c.last_reading-reading.result }

  abbrev stored : Answered
  stored = record { reply = c.args.stored.reply; reading = c.args.stored.reading }

  goes : GoesOnAsStored c.args.world.now (entry_of c.args.stored.event due ∷ []) c.step-reply.new.self
  goes =
      goes_on_by_due c.args.world.now c.step-reply.new.self c.args.stored.event due c.step-reply.ensures.runs c.step-reply.ensures.step
      (subst (λ k. k < length c.args.world.now.ledgers) c.chain_of-chain.ensures (c.has_chain.ensures.0 c.if-not-has_chain.false))
      (sym c.is_answered.ensures ∙ c.if-not-is_answered.false)
      (subst (λ k. HasLastReading c.step-reply.new.self k c.last_reading-reading.result) c.chain_of-chain.ensures c.last_reading-reading.ensures)

pub returns-clause-replayed : goal.returns-clause-replayed
returns-clause-replayed c = taken c.args.world.now c.step-reply.new.self c.args.stored.event (due c) (stored c) c.compare.result c.compare.ensures.same (goes c)

pub returns-clause-different : goal.returns-clause-different
returns-clause-different c = refused c.args.world.now c.step-reply.new.self c.args.place c.args.stored.event (due c) (stored c) c.compare.result c.compare.ensures.other (goes c)
