-- Each check that fails is the one that refuses, and those that are passed are what is said of the end.
use Rattle.std.proofs.Common.{sym, ap, ◌∙◌, option_copied, inr}
use Rattle.ibc_machine.specs.chain.Records.{channel_at}
use Rattle.ibc_machine.specs.ledger.Ledgers.{state_of}
use Rattle.ibc_world_core.proofs.CountedTotals.{no_channel, not_established, its_own}
use Rattle.ibc_world_core.proofs.totals.own_end.Goals as goal

pub returns-in_default-clause-refused : goal.returns-in_default-clause-refused
returns-in_default-clause-refused c =
    let ledger = c.args.ledger.now.ledger in
    let found = ap (λ p. channel_at (state_of ledger).chain.records.core p c.args.channel.now) (sym c.in_ok-port.ensures.ok) ∙ sym c.in_ok-end.ensures.ok in
    inr (λ world k of. no_channel world k c.args.channel.now c.args.denom.now ledger of (found ∙ ap option_copied c.in_default.is))

pub returns-then-not-is_established-clause-refused : goal.returns-then-not-is_established-clause-refused
returns-then-not-is_established-clause-refused c =
    let ledger = c.args.ledger.now.ledger in
    let found = ap (λ p. channel_at (state_of ledger).chain.records.core p c.args.channel.now) (sym c.in_ok-port.ensures.ok) ∙ sym c.in_ok-end.ensures.ok in
    inr (λ world k of. not_established world k c.args.channel.now c.args.denom.now ledger of c.in-Some.end.now (found ∙ ap option_copied c.in-Some.is)
    (sym c.is_established.ensures ∙ c.if-not-is_established.true))

pub returns-then-branch-clause-refused : goal.returns-then-branch-clause-refused
returns-then-branch-clause-refused c =
    let ledger = c.args.ledger.now.ledger in
    let found = ap (λ p. channel_at (state_of ledger).chain.records.core p c.args.channel.now) (sym c.in_ok-port.ensures.ok) ∙ sym c.in_ok-end.ensures.ok in
    inr (λ world k of. its_own world k c.args.channel.now c.args.denom.now ledger of c.in-Some.end.now (found ∙ ap option_copied c.in-Some.is)
    (sym c.is_established.ensures ∙ c.if-not-is_established.false) (sym c.in_ok-came_over.ensures.ok ∙ c.if-branch.true))

pub returns-clause-ok : goal.returns-clause-ok
returns-clause-ok c =
    let ledger = c.args.ledger.now.ledger in
    let found = ap (λ p. channel_at (state_of ledger).chain.records.core p c.args.channel.now) (sym c.in_ok-port.ensures.ok) ∙ sym c.in_ok-end.ensures.ok in
    record {
      end = found ∙ ap option_copied c.in-Some.is;
      established = sym c.is_established.ensures ∙ c.if-not-is_established.false;
      not_its_own = sym c.in_ok-came_over.ensures.ok ∙ c.if-branch.false;
    }
