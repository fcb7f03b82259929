-- What the ledger answers is what is due.
use Rattle.std.proofs.Common.{refl, sym, ◌∙◌, subst}
use Rattle.ibc_replay.specs.declared.replaying.Answered.{Answered}
use Rattle.ibc_chain_replay.specs.ChainReplays.{AreTooMany, heights_in}
use Rattle.ibc_chain_replay.proofs.ChainSteps.{taken, refused}
use Rattle.ibc_chain_replay.proofs.replaying.step_as_stored.Goals as goal

pub returns-then-asked-own-clause-different : goal.returns-then-asked-own-clause-different
returns-then-asked-own-clause-different c = (refl, refl, λ same. c.if-asked-own.true (c.chain_of-asked.ensures ∙ same ∙ sym c.chain-own.ensures))

pub returns-then-not-is_enough-clause-different : goal.returns-then-not-is_enough-clause-different
returns-then-not-is_enough-clause-different c =
    (refl, refl, subst (λ h. AreTooMany (heights_in c.args.published.now) h c.args.stored.reading) c.header_in-header.ensures (c.is_enough.ensures c.if-not-is_enough.true))

pub returns-in-Some-clause-replayed : goal.returns-in-Some-clause-replayed
returns-in-Some-clause-replayed c =
    let stored : Answered = record { reply = c.args.stored.reply; reading = c.args.stored.reading } in
    taken (heights_in c.args.published.now) c.args.ledger.now.ledger c.answer.new.ledger.ledger c.args.stored.event c.in-Some.due stored c.compare.result c.in-Some.ensures c.compare.ensures.same

pub returns-in-Some-clause-different : goal.returns-in-Some-clause-different
returns-in-Some-clause-different c =
    let stored : Answered = record { reply = c.args.stored.reply; reading = c.args.stored.reading } in
    refused (heights_in c.args.published.now) c.args.ledger.now.ledger c.answer.new.ledger.ledger c.args.stored.event c.in-Some.due stored c.compare.result c.in-Some.ensures c.args.place c.compare.ensures.other
