-- The ledger of the chain begins with no entries.
use Rattle.std.proofs.Common.{true, false, refl, sym, ◌∙◌}
use Rattle.std.proofs.lemmas.Bool.{false≢true}
use Rattle.ibc_machine.specs.chain.Genesis.{genesis_state}
use Rattle.ibc_chain_replay.specs.ChainReplays.{heights_in}
use Rattle.ibc_chain_replay.proofs.ChainSteps.{of_this, stops_of_this, is_replay, is_no_replay, begins_so}
use Rattle.ibc_chain_replay.proofs.replaying.replay_chain.Goals as goal

-- where the genesis isn't allowed, nothing else is told
pub returns-then-not-is_allowed-clause-different : goal.returns-then-not-is_allowed-clause-different
returns-then-not-is_allowed-clause-different c = λ other. other refl

pub returns-in-Ok-clause-replayed : goal.returns-in-Ok-clause-replayed
returns-in-Ok-clause-replayed c =
    let genesis = genesis_state c.args.genesis.now in
    let published = heights_in c.args.published.now in
    let list = c.args.entries.items in
    let begun = c.in-Ok.ensures.ok in
    is_replay genesis c.args.chain published list c.replay_from.result
    (of_this genesis c.args.chain published list c.in-Ok.begun.0.ledger.genesis c.in-Ok.begun.0.ledger.chain c.replay_from.result begun.of begun.number c.replay_from.ensures.replayed)

pub returns-in-Ok-clause-different : goal.returns-in-Ok-clause-different
returns-in-Ok-clause-different c =
    let genesis = genesis_state c.args.genesis.now in
    let published = heights_in c.args.published.now in
    let list = c.args.entries.items in
    let begun = c.in-Ok.ensures.ok in
    is_no_replay genesis c.args.chain published list c.replay_from.result
    (stops_of_this genesis c.args.chain published list c.in-Ok.begun.0.ledger.genesis c.in-Ok.begun.0.ledger.chain c.replay_from.result begun.of begun.number c.replay_from.ensures.different)

pub returns-in-Ok-clause-genesis : goal.returns-in-Ok-clause-genesis
returns-in-Ok-clause-genesis c =
    let ledger = c.in-Ok.begun.0.ledger in (
      λ is. absurd (begins_so ledger.genesis ledger.chain (heights_in c.args.published.now) c.args.entries.items c.replay_from.result c.replay_from.ensures.different is),
      λ denied. absurd (false≢true (sym denied ∙ (sym c.is_allowed.ensures ∙ c.if-not-is_allowed.false))),
    )
