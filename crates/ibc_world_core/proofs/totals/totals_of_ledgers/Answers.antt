-- What is so of the end that was found is so of the ledger.
use Rattle.std.proofs.Common.{ℕ, refl, sym, ◌∙◌, ap, Some, inl, inr}
use Rattle.std.proofs.lemmas.Result.{IfOk-weaker, IfErr-weaker, err_from_is_err_and}
use Rattle.ibc_world_core.proofs.CountedTotals.{own_of, tracked_of, without_client, with_peer, or_last}
use Rattle.ibc_world_core.proofs.totals.totals_of_ledgers.Goals as goal

pub returns-in_err-mine-clause-err : goal.returns-in_err-mine-clause-err
returns-in_err-mine-clause-err c =
    let p = err_from_is_err_and c.from_residual.result c.from_residual.ensures.1 in
    rw (p.1, p.2) (or_last c.in_err-mine.field-0.0 (λ says world of there. says world c.args.ledger.now.ledger.chain of) c.in_err-mine.ensures.refused)

pub returns-in_default-clause-err : goal.returns-in_default-clause-err
returns-in_default-clause-err c =
    let mine = c.in_ok-mine.mine in
    let ledger = c.args.ledger.now.ledger in
    inr (inr (λ world of there. without_client ledger c.args.channel.now c.args.denom.now mine.ledger.now.ledger mine.name.now mine.end.now c.in_ok-mine.ensures.ok c.in_ok-mine.ensures.ledger c.in_ok-mine.ensures.name world ledger.chain of (sym c.tracked_chain.ensures ∙ c.in_default.is)))

pub returns-then-tracked-chain-clause-err : goal.returns-then-tracked-chain-clause-err
returns-then-tracked-chain-clause-err c =
    let mine = c.in_ok-mine.mine in
    let ledger = c.args.ledger.now.ledger in
    inr (inl (
      refl,
      record {
        mine = mine.end.now;
        own = own_of ledger c.args.channel.now c.args.denom.now mine.ledger.now.ledger mine.name.now mine.end.now c.in_ok-mine.ensures.ok c.in_ok-mine.ensures.ledger c.in_ok-mine.ensures.name;
        other = c.in-Some.tracked;
        tracked = tracked_of ledger c.args.channel.now c.args.denom.now mine.ledger.now.ledger mine.name.now mine.end.now c.in_ok-mine.ensures.ok c.in_ok-mine.ensures.ledger c.in_ok-mine.ensures.name (sym c.tracked_chain.ensures ∙ c.in-Some.is);
        is_other = λ e. c.if-tracked-chain.true (e ∙ sym c.chain.ensures);
      },
    ))

pub returns-clause-err : goal.returns-clause-err
returns-clause-err c =
    let mine = c.in_ok-mine.mine in
    let ledger = c.args.ledger.now.ledger in
    let peer = c.args.peer.now.ledger in
    let tracked = sym c.tracked_chain.ensures ∙ (c.in-Some.is ∙ ap (λ (n : ℕ). Some n) (c.if-tracked-chain.false ∙ c.chain.ensures)) in
    IfErr-weaker c.totals_with.result _ _ (λ refusal so. or_last refusal (λ says world of there. with_peer ledger c.args.channel.now c.args.denom.now mine.ledger.now.ledger mine.name.now mine.end.now c.in_ok-mine.ensures.ok c.in_ok-mine.ensures.ledger c.in_ok-mine.ensures.name world ledger.chain of peer.chain peer tracked there says) so) c.totals_with.ensures.refused

pub returns-clause-ok : goal.returns-clause-ok
returns-clause-ok c =
    let mine = c.in_ok-mine.mine in
    let ledger = c.args.ledger.now.ledger in
    let peer = c.args.peer.now.ledger in
    let tracked = sym c.tracked_chain.ensures ∙ (c.in-Some.is ∙ ap (λ (n : ℕ). Some n) (c.if-tracked-chain.false ∙ c.chain.ensures)) in
    IfOk-weaker c.totals_with.result _ _ (λ told says world of there. with_peer ledger c.args.channel.now c.args.denom.now mine.ledger.now.ledger mine.name.now mine.end.now c.in_ok-mine.ensures.ok c.in_ok-mine.ensures.ledger c.in_ok-mine.ensures.name world ledger.chain of peer.chain peer tracked there says) c.totals_with.ensures.ok

pub returns-clause-peer : goal.returns-clause-peer
returns-clause-peer c =
    let mine = c.in_ok-mine.mine in
    let ledger = c.args.ledger.now.ledger in
    let own = own_of ledger c.args.channel.now c.args.denom.now mine.ledger.now.ledger mine.name.now mine.end.now c.in_ok-mine.ensures.ok c.in_ok-mine.ensures.ledger c.in_ok-mine.ensures.name in
    let tracked = tracked_of ledger c.args.channel.now c.args.denom.now mine.ledger.now.ledger mine.name.now mine.end.now c.in_ok-mine.ensures.ok c.in_ok-mine.ensures.ledger c.in_ok-mine.ensures.name (sym c.tracked_chain.ensures ∙ (c.in-Some.is ∙ ap (λ (n : ℕ). Some n) (c.if-tracked-chain.false ∙ c.chain.ensures))) in
    IfOk-weaker c.totals_with.result _ _ (λ told says. record { mine = mine.end.now; end = own.end; tracked = tracked }) c.totals_with.ensures.ok
