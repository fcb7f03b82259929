-- One entry after another is taken.
use Rattle.std.proofs.Common.{◌≡◌, ◌++◌, ◌∷◌, [], length, sym, ap, ◌∙◌, subst, arith, append_assoc}
use Rattle.std.proofs.lemmas.List.{length-append}
use Rattle.std.proofs.lemmas.Result.{err_from_is_err_and}
use Rattle.std.specs.Vec.Iter.{into_iter_items}
use Rattle.ibc_chain_replay.specs.ChainReplays.{HasHistory, heights_in}
use Rattle.ibc_replay.proofs.StoredSteps.{all_done, done_before}
use Rattle.ibc_chain_replay.proofs.ChainSteps.{goes_on, stops_at}
use Rattle.ibc_chain_replay.proofs.replaying.replay_entries.Goals as goal

pub loop-stored-init : goal.loop-stored-init
loop-stored-init c =
    let gives = c.into_iter-stored-iterator.ensures.into_iter_gives in
    record {
      so_far = c.requires;
      whole = gives.0;
      left = gives.1 ∙ c.args.entries.ok.0 ∙ ap length (sym gives.0);
      place = omega arith;
    }

pub returns-in_err-step_as_stored-clause-different : goal.returns-in_err-step_as_stored-clause-different
returns-in_err-step_as_stored-clause-different c =
    let at = c.loop-stored in
    let first = c.args.ledger.now.ledger in
    let rest = into_iter_items c.next.new.self in
    let whole : at.yielded ++ c.in-Some.stored ∷ rest ≡ c.args.entries.items = ap (λ l. at.yielded ++ l) (sym c.in-Some.ensures.steps.0) ∙ at.invariant.whole in
    let p = err_from_is_err_and c.from_residual.result c.from_residual.ensures.1 in
    rw (p.1, p.2) (stops_at first.genesis first.chain (heights_in c.args.published.now) at.ledger.ledger c.step_as_stored.new.ledger.ledger at.yielded rest c.args.entries.items c.in-Some.stored at.invariant.so_far whole at.place _ at.invariant.place c.in_err-step_as_stored.ensures.different)

pub overflow_add-place : goal.overflow_add-place
overflow_add-place c =
    let at = c.loop-stored in
    let rest = into_iter_items c.next.new.self in
    let whole : at.yielded ++ c.in-Some.stored ∷ rest ≡ c.args.entries.items = ap (λ l. at.yielded ++ l) (sym c.in-Some.ensures.steps.0) ∙ at.invariant.whole in
    let low = done_before at.yielded rest c.args.entries.items c.in-Some.stored whole in
    omega (arith, low, at.invariant.place, c.args.entries.ok.0, c.args.entries.ok.1, c.args.entries.small)

pub loop-stored-preserved : goal.loop-stored-preserved
loop-stored-preserved c =
    let at = c.loop-stored in
    let first = c.args.ledger.now.ledger in
    let steps = c.in-Some.ensures.steps in
    let rest = into_iter_items c.next.new.self in
    let whole : at.yielded ++ c.in-Some.stored ∷ rest ≡ c.args.entries.items = ap (λ l. at.yielded ++ l) (sym steps.0) ∙ at.invariant.whole in
    let long = ap length steps.0 in
    let was = at.invariant.left in
    let gone = steps.1 in
    let more = length-append at.yielded (c.in-Some.stored ∷ []) in
    record {
      so_far = goes_on first.genesis first.chain (heights_in c.args.published.now) at.yielded c.in-Some.stored at.ledger.ledger c.step_as_stored.new.ledger.ledger at.invariant.so_far c.in_ok-step_as_stored.ensures.replayed;
      whole = append_assoc at.yielded (c.in-Some.stored ∷ []) rest ∙ whole;
      left = omega (arith, long, was, gone);
      place = omega (arith, at.invariant.place, more);
    }

pub returns-clause-replayed : goal.returns-clause-replayed
returns-clause-replayed c =
    let at = c.loop-stored in
    let first = c.args.ledger.now.ledger in
    let done = all_done at.yielded (into_iter_items at.stored-iterator) c.args.entries.items at.invariant.whole (sym at.invariant.left ∙ c.in-None.ensures.steps.0) in
    subst (λ l. HasHistory first.genesis first.chain (heights_in c.args.published.now) l at.ledger.ledger) done at.invariant.so_far
