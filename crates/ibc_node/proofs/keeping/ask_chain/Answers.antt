-- Behind the step of the world, its last entry is that of the event.
use Rattle.std.proofs.Common.{inr, refl, sym, ◌∙◌, subst}
use Rattle.ibc_replay.proofs.StoredSteps.{keeps_nothing}
use Rattle.ibc_journal.specs.Entries.{item}
use Rattle.ibc_node.specs.Kept.{KeepsLast}
use Rattle.ibc_node.proofs.KeptEntries.{keeps_item}
use Rattle.ibc_node.proofs.keeping.ask_chain.Goals as goal

pub returns-then-not-is_answered-clause-asked : goal.returns-then-not-is_answered-clause-asked
returns-then-not-is_answered-clause-asked c =
    let unanswered = sym c.is_answered.ensures ∙ c.if-not-is_answered.true in (
      keeps_nothing c.args.world.now c.step-reply.new.self c.args.event c.step-reply.result c.step-reply.ensures.runs unanswered,
      tt,
      inr (c.step-reply.result, unanswered, (c.step-reply.new.self, c.step-reply.ensures.step, refl)),
    )

pub returns-in-Ok-clause-asked : goal.returns-in-Ok-clause-asked
returns-in-Ok-clause-asked c =
    keeps_item c.args.world.now c.step-reply.new.self c.args.event c.step-reply.result c.args.before.now (item c.in-Ok.entry) c.step-reply.ensures.runs c.step-reply.ensures.step c.requires
    (sym c.is_answered.ensures ∙ c.if-not-is_answered.false)
    (subst (λ k. KeepsLast c.step-reply.new.self k c.args.before.now (item c.in-Ok.entry)) c.chain_of-chain.ensures c.in-Ok.ensures.kept)

pub returns-in-Ok-clause-by : goal.returns-in-Ok-clause-by
returns-in-Ok-clause-by c = c.in-Ok.ensures.by

pub returns-in-Err-clause-faults : goal.returns-in-Err-clause-faults
returns-in-Err-clause-faults c = c.in-Err.ensures.faults
