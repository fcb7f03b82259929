-- The totals are those of the channel and the denomination of these names.
use Rattle.std.proofs.Common.{inl, inr, refl, sym, subst, IfOk, IfErr}
use Rattle.std.proofs.lemmas.Result.{IfOk-at_ok, IfErr-at_err}
use Rattle.ibc_ids.specs.Texts.{Text}
use Rattle.ibc_machine.specs.declared.totals.Totals.{Totals}
use Rattle.ibc_world_core.specs.Totals.{AreTotals, AreRefused, TracksPeer}
use Rattle.ibc_calls.proofs.channel_totals.tell_sums.Goals as goal

pub returns-in-Ok : goal.returns-in-Ok
returns-in-Ok c =
    let names = c.in_ok-channel.ensures.ok in
    let ledger = c.args.ledger.now.ledger in
    let peer = c.args.peer.now.ledger in
    let told = IfOk-at_ok (AreTotals ledger peer c.in_ok-channel.channel c.in_ok-channel.denom) c.in-Ok.is c.totals_of_ledgers.ensures.ok in
    let tracks = IfOk-at_ok (λ (t : Totals). TracksPeer ledger peer c.in_ok-channel.channel) c.in-Ok.is c.totals_of_ledgers.ensures.peer in
    inl (record {
      answered = refl;
      names = names.2;
      totals = subst (λ (x : (Text × Text) × Totals). AreTotals ledger peer x.0.0 x.0.1 x.1) (λ i. ((names.0 i, names.1 i), sym c.in_parts.ensures i)) told;
      tracks = subst (λ (n : Text). TracksPeer ledger peer n) names.0 tracks;
    })

pub returns : goal.returns
returns c =
    let names = c.in_ok-channel.ensures.ok in
    let ledger = c.args.ledger.now.ledger in
    let peer = c.args.peer.now.ledger in
    let refused = IfErr-at_err (AreRefused ledger peer c.in_ok-channel.channel c.in_ok-channel.denom) c.in-Err.is c.totals_of_ledgers.ensures.err in
    inr (
      refl,
      inr (inr (
        names.2,
        subst (λ (x : Text × Text). AreRefused ledger peer x.0 x.1 c.in-Err.refusal) (λ i. (names.0 i, names.1 i)) refused,
      )),
    )
