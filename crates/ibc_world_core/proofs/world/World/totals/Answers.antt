-- What is so of the ledgers of the two ends is so of the world.
use Rattle.std.proofs.Common.{sym, ap, ◌∙◌, option_map, inr, Bor}
use Rattle.std.proofs.lemmas.Result.{IfOk-weaker, IfErr-weaker, err_from_is_err_and}
use Rattle.ibc_machine.specs.ledger.Ledgers.{machine_of}
use Rattle.ibc_ledger.specs.LedgerModel.{LedgerModel}
use Rattle.ibc_world_core.proofs.CountedTotals.{chain_there, chain_gone, no_chain, without_client, without_ledger, with_peer, or_memory}
use Rattle.ibc_world_core.proofs.world.World.totals.Goals as goal

pub returns-in_default-clause-refused : goal.returns-in_default-clause-refused
returns-in_default-clause-refused c =
    let ledgers = c.args.self.now.ledgers in
    inr (no_chain (machine_of ledgers) c.args.chain c.args.channel.now c.args.denom.now
    (chain_gone ledgers c.args.chain (sym c.ledger.ensures ∙ ap (option_map (λ (l : Bor LedgerModel). l.now.ledger)) c.in_default.is)))

pub returns-in_err-mine-clause-refused : goal.returns-in_err-mine-clause-refused
returns-in_err-mine-clause-refused c =
    let ledgers = c.args.self.now.ledgers in
    let of = chain_there ledgers c.args.chain c.in-Some.ledger.now.ledger (sym c.ledger.ensures ∙ ap (option_map (λ (l : Bor LedgerModel). l.now.ledger)) c.in-Some.is) in
    let p = err_from_is_err_and c.from_residual.result c.from_residual.ensures.1 in
    rw (p.1, p.2) (or_memory c.in_err-mine.field-0.0 (λ says. says (machine_of ledgers) c.args.chain of) c.in_err-mine.ensures.refused)

pub returns-in_default-tracked_chain-clause-refused : goal.returns-in_default-tracked_chain-clause-refused
returns-in_default-tracked_chain-clause-refused c =
    let ledgers = c.args.self.now.ledgers in
    let ledger = c.in-Some.ledger.now.ledger in
    let of = chain_there ledgers c.args.chain ledger (sym c.ledger.ensures ∙ ap (option_map (λ (l : Bor LedgerModel). l.now.ledger)) c.in-Some.is) in
    let mine = c.in_ok-mine.mine in
    inr (without_client ledger c.args.channel.now c.args.denom.now mine.ledger.now.ledger mine.name.now mine.end.now c.in_ok-mine.ensures.ok c.in_ok-mine.ensures.ledger c.in_ok-mine.ensures.name (machine_of ledgers) c.args.chain of (sym c.tracked_chain.ensures ∙ c.in_default-tracked_chain.is))

pub returns-in_default-ledger-clause-refused : goal.returns-in_default-ledger-clause-refused
returns-in_default-ledger-clause-refused c =
    let ledgers = c.args.self.now.ledgers in
    let ledger = c.in-Some.ledger.now.ledger in
    let of = chain_there ledgers c.args.chain ledger (sym c.ledger.ensures ∙ ap (option_map (λ (l : Bor LedgerModel). l.now.ledger)) c.in-Some.is) in
    let mine = c.in_ok-mine.mine in
    let k = c.in-Some-tracked_chain.tracked in
    inr (without_ledger ledger c.args.channel.now c.args.denom.now mine.ledger.now.ledger mine.name.now mine.end.now c.in_ok-mine.ensures.ok c.in_ok-mine.ensures.ledger c.in_ok-mine.ensures.name (machine_of ledgers) c.args.chain of k (sym c.tracked_chain.ensures ∙ c.in-Some-tracked_chain.is)
    (chain_gone ledgers k (sym c.ledger-2.ensures ∙ ap (option_map (λ (l : Bor LedgerModel). l.now.ledger)) c.in_default-ledger.is)))

pub returns-clause-ok : goal.returns-clause-ok
returns-clause-ok c =
    let ledgers = c.args.self.now.ledgers in
    let ledger = c.in-Some.ledger.now.ledger in
    let of = chain_there ledgers c.args.chain ledger (sym c.ledger.ensures ∙ ap (option_map (λ (l : Bor LedgerModel). l.now.ledger)) c.in-Some.is) in
    let mine = c.in_ok-mine.mine in
    let k = c.in-Some-tracked_chain.tracked in
    let peer = c.in-Some-ledger.peer.now.ledger in
    let there = chain_there ledgers k peer (sym c.ledger-2.ensures ∙ ap (option_map (λ (l : Bor LedgerModel). l.now.ledger)) c.in-Some-ledger.is) in
    IfOk-weaker c.totals_with.result _ _ (λ told says. with_peer ledger c.args.channel.now c.args.denom.now mine.ledger.now.ledger mine.name.now mine.end.now c.in_ok-mine.ensures.ok c.in_ok-mine.ensures.ledger c.in_ok-mine.ensures.name (machine_of ledgers) c.args.chain of k peer (sym c.tracked_chain.ensures ∙ c.in-Some-tracked_chain.is) there says) c.totals_with.ensures.ok

pub returns-clause-refused : goal.returns-clause-refused
returns-clause-refused c =
    let ledgers = c.args.self.now.ledgers in
    let ledger = c.in-Some.ledger.now.ledger in
    let of = chain_there ledgers c.args.chain ledger (sym c.ledger.ensures ∙ ap (option_map (λ (l : Bor LedgerModel). l.now.ledger)) c.in-Some.is) in
    let mine = c.in_ok-mine.mine in
    let k = c.in-Some-tracked_chain.tracked in
    let peer = c.in-Some-ledger.peer.now.ledger in
    let there = chain_there ledgers k peer (sym c.ledger-2.ensures ∙ ap (option_map (λ (l : Bor LedgerModel). l.now.ledger)) c.in-Some-ledger.is) in
    IfErr-weaker c.totals_with.result _ _ (λ refusal so. or_memory refusal (λ says. with_peer ledger c.args.channel.now c.args.denom.now mine.ledger.now.ledger mine.name.now mine.end.now c.in_ok-mine.ensures.ok c.in_ok-mine.ensures.ledger c.in_ok-mine.ensures.name (machine_of ledgers) c.args.chain of k peer (sym c.tracked_chain.ensures ∙ c.in-Some-tracked_chain.is) there says) so) c.totals_with.ensures.refused
