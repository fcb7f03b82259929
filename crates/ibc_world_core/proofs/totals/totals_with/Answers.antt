-- The sums are those of the two ends.
use Rattle.std.proofs.Common.{◌≡◌, ◌≤◌, sym, subst, Some, None, Err, ◌^◌, inr}
use Rattle.std.proofs.lemmas.Result.{err_from_is_err_and}
use Rattle.ibc_ids.specs.declared.refusal.Refusal.{Refusal}
use Rattle.ibc_machine.specs.ledger.Ledgers.{Ledger, state_of}
use Rattle.ibc_machine.specs.promises.Totals.{flight_between}
use Rattle.ibc_world_core.specs.Totals.{IsPeerEnd, AnswersWith, StandsAt, named_end, peer_amounts}
use Rattle.ibc_world_core.proofs.CountedTotals.{no_peer, none_named, too_much_out, too_much_back, too_large, answered, said, said_none}
use Rattle.ibc_world_core.proofs.totals.totals_with.Goals as goal

pub returns-in_default-clause-refused : goal.returns-in_default-clause-refused
returns-in_default-clause-refused c =
    let mine = c.args.mine in
    let ledger = mine.ledger.now.ledger in
    let peer = c.args.ledger.now.ledger in
    let gone = said_none (named_end peer mine.end.now ≡ None) (λ peer. (peer.ledger.now.ledger ≡ c.args.ledger.now.ledger) × IsPeerEnd mine.end.now c.args.ledger.now.ledger peer.name.now peer.end.now) _ c.in_default.is c.in_ok-peer.ensures.ok in
    inr (λ world k tracked of tracks there. no_peer world k mine.name.now c.args.denom.now ledger mine.end.now of c.requires
    (none_named world (state_of ledger).chain.records.core mine.end.now tracked peer tracks there gone))

pub returns-in_err-out-clause-refused : goal.returns-in_err-out-clause-refused
returns-in_err-out-clause-refused c =
    let mine = c.args.mine in
    let peer = c.in-Some.peer in
    let found = said (named_end c.args.ledger.now.ledger mine.end.now ≡ None) (λ peer. (peer.ledger.now.ledger ≡ c.args.ledger.now.ledger) × IsPeerEnd mine.end.now c.args.ledger.now.ledger peer.name.now peer.end.now) _ peer c.in-Some.is c.in_ok-peer.ensures.ok in
    let is = subst (λ (l : Ledger). IsPeerEnd mine.end.now l peer.name.now peer.end.now) (sym found.0) found.1 in
    let p = err_from_is_err_and c.from_residual-in_err-out.result c.from_residual-in_err-out.ensures.1 in
    rw (p.1, p.2) (too_large {P = 2 ^ 128 ≤ flight_between c.args.denom.now (Some mine.end.now) (Some peer.end.now)} (λ (x : Refusal). AnswersWith mine.ledger.now.ledger mine.end.now c.args.ledger.now.ledger mine.name.now c.args.denom.now (Err x)) c.in_err-out.field-0.0
    (λ past world k tracked of tracks there. too_much_out world k mine.name.now c.args.denom.now mine.ledger.now.ledger mine.end.now of c.requires tracked peer.ledger.now.ledger peer.name.now peer.end.now tracks (subst (λ (l : Ledger). StandsAt world tracked l) (sym found.0) there) is past) c.in_err-out.ensures.refused)

pub returns-in_err-vouchers-clause-refused : goal.returns-in_err-vouchers-clause-refused
returns-in_err-vouchers-clause-refused c =
    let mine = c.args.mine in
    let peer = c.in-Some.peer in
    let found = said (named_end c.args.ledger.now.ledger mine.end.now ≡ None) (λ peer. (peer.ledger.now.ledger ≡ c.args.ledger.now.ledger) × IsPeerEnd mine.end.now c.args.ledger.now.ledger peer.name.now peer.end.now) _ peer c.in-Some.is c.in_ok-peer.ensures.ok in
    let is = subst (λ (l : Ledger). IsPeerEnd mine.end.now l peer.name.now peer.end.now) (sym found.0) found.1 in
    let p = err_from_is_err_and c.from_residual-in_err-vouchers.result c.from_residual-in_err-vouchers.ensures.1 in
    rw (p.1, p.2) (too_large {P = 2 ^ 128 ≤ (peer_amounts (state_of peer.ledger.now.ledger).chain mine.end.now peer.name.now peer.end.now c.args.denom.now).1} (λ (x : Refusal). AnswersWith mine.ledger.now.ledger mine.end.now c.args.ledger.now.ledger mine.name.now c.args.denom.now (Err x)) c.in_err-vouchers.field-0.0
    (λ past world k tracked of tracks there. too_much_back world k mine.name.now c.args.denom.now mine.ledger.now.ledger mine.end.now of c.requires tracked peer.ledger.now.ledger peer.name.now peer.end.now tracks (subst (λ (l : Ledger). StandsAt world tracked l) (sym found.0) there) is past) c.in_err-vouchers.ensures.refused)

pub returns-clause-ok : goal.returns-clause-ok
returns-clause-ok c =
    let mine = c.args.mine in
    let peer = c.in-Some.peer in
    let found = said (named_end c.args.ledger.now.ledger mine.end.now ≡ None) (λ peer. (peer.ledger.now.ledger ≡ c.args.ledger.now.ledger) × IsPeerEnd mine.end.now c.args.ledger.now.ledger peer.name.now peer.end.now) _ peer c.in-Some.is c.in_ok-peer.ensures.ok in
    let is = subst (λ (l : Ledger). IsPeerEnd mine.end.now l peer.name.now peer.end.now) (sym found.0) found.1 in
    λ world k tracked of tracks there. answered world k mine.name.now c.args.denom.now mine.ledger.now.ledger mine.end.now of c.requires tracked peer.ledger.now.ledger peer.name.now peer.end.now tracks (subst (λ (l : Ledger). StandsAt world tracked l) (sym found.0) there) is
    (record { escrow = c.in_ok-escrow.escrow; vouchers = c.in_ok-vouchers.vouchers; out = c.in_ok-out.out; back = c.in_ok-vouchers.back })
    c.in_ok-escrow.ensures.small c.in_ok-vouchers.ensures.small.0 c.in_ok-out.ensures.small c.in_ok-vouchers.ensures.small.1
    c.in_ok-escrow.ensures.ok c.in_ok-vouchers.ensures.ok c.in_ok-out.ensures.ok
