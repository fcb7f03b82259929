-- What the ledger answers is the last entry of its history.
use Rattle.std.proofs.Common.{sym, ◌∙◌}
use Rattle.ibc_replay.specs.declared.replaying.Answered.{Answered}
use Rattle.ibc_chain_replay.specs.ChainReplays.{heights_in}
use Rattle.ibc_chain_replay.proofs.ChainSteps.{adds_read, reads_published}
use Rattle.ibc_chain_replay.proofs.replaying.answer.Goals as goal

pub returns : goal.returns
returns c =
    let published = heights_in c.args.published.now in
    let due : Answered = record { reply = c.ask-reply.result; reading = c.last_in-reading.result } in
    adds_read published c.args.ledger.now.ledger c.ask-reply.new.ledger.ledger c.args.event due c.history.result.now c.ask-reply.ensures
    (sym c.is_answered.ensures ∙ c.if-not-is_answered.false) c.lemma_is_its_history.ensures.is c.history.ensures c.last_in-reading.ensures
    (reads_published published c.args.event due c.header_in-header.result c.header_in-header.ensures (c.is_published_reading.ensures c.if-not-is_published_reading.false))
