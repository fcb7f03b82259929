-- One ledger more begins with the next pass.
use Rattle.std.proofs.Common.{◌≡◌, ◌∙◌, true, length, sym, ap, subst, Some, Err, ⊎_elim, arith}
use Rattle.std.proofs.lemmas.Result.{err_from_is_err_and}
use Rattle.std.specs.Vec.Iter.{into_iter_items}
use Rattle.std.proofs.lemmas.List.{length-map}
use Rattle.ibc_machine.specs.chain.Genesis.{genesis_state, chain_state, is_allowed}
use Rattle.ibc_ids.specs.Publications.{published_by}
use Rattle.ibc_root_table.specs.Passes.{Sight}
use Rattle.ibc_ledger.proofs.Windows.{few_chains}
use Rattle.ibc_refinement.specs.World.{new_ledger}
use Rattle.ibc_world_core.proofs.Beginnings.{BegunSoFar, none_begun, one_is_left, next_pass, one_more_begun, all_begun}
use Rattle.ibc_world_core.proofs.world.begin.Goals as goal

pub loop-pass-init : goal.loop-pass-init
loop-pass-init c =
    let genesis = genesis_state c.args.genesis.now in
    let table = c.args.table.now.value in
    let gives = c.into_iter-pass-iterator.ensures.into_iter_gives in
    let long = length-map c.args.genesis.now.chains.items chain_state in
    let begun = none_begun genesis table (length c.args.genesis.now.chains.items) c.args.passes.items (sym long) c.requires.passes in
    record {
      so_far = subst (λ l. BegunSoFar genesis table l c.in_ok-ledgers.ledgers.items) (sym gives.0) (subst (BegunSoFar genesis table c.args.passes.items) (sym c.in_ok-ledgers.ensures.items) begun);
      left = gives.1 ∙ c.args.passes.ok.0 ∙ ap length (sym gives.0);
    }

pub overflow_cast-chain : goal.overflow_cast-chain
overflow_cast-chain c =
    let genesis = genesis_state c.args.genesis.now in
    let so_far = c.loop-pass.invariant.so_far in
    let low = one_is_left genesis c.args.table.now.value (into_iter_items c.loop-pass.pass-iterator) (into_iter_items c.next.new.self) c.in-Some.pass c.loop-pass.ledgers.items c.in-Some.ensures.steps.0 so_far in
    let few = few_chains genesis c.requires.allowed in
    omega (arith, low, few, c.len-chain.ensures, c.loop-pass.ledgers.ok.0)

pub new-requires-clause-chain : goal.new-requires-clause-chain
new-requires-clause-chain c =
    let genesis = genesis_state c.args.genesis.now in
    let so_far = c.loop-pass.invariant.so_far in
    let low = one_is_left genesis c.args.table.now.value (into_iter_items c.loop-pass.pass-iterator) (into_iter_items c.next.new.self) c.in-Some.pass c.loop-pass.ledgers.items c.in-Some.ensures.steps.0 so_far in
    let long = length-map c.args.genesis.now.chains.items chain_state in
    omega (arith, low, long, c.len-chain.ensures, c.loop-pass.ledgers.ok.0)

-- the pass is the next chain's own, and has seen nothing
pub new-requires-clause-pass : goal.new-requires-clause-pass
new-requires-clause-pass c =
    let genesis = genesis_state c.args.genesis.now in
    let next = next_pass genesis c.args.table.now.value (into_iter_items c.loop-pass.pass-iterator) (into_iter_items c.next.new.self) c.in-Some.pass c.loop-pass.ledgers.items c.in-Some.ensures.steps.0 c.loop-pass.invariant.so_far in
    let count = sym (c.len-chain.ensures ∙ c.loop-pass.ledgers.ok.0) in
    (ap (λ (s : Sight). s.table) next ∙ sym c.in_ok-table.ensures, ap (λ (s : Sight). s.own) next ∙ ap (λ n. Some n) count)

pub new-requires-clause-unpublished : goal.new-requires-clause-unpublished
new-requires-clause-unpublished c =
    let genesis = genesis_state c.args.genesis.now in
    let next = next_pass genesis c.args.table.now.value (into_iter_items c.loop-pass.pass-iterator) (into_iter_items c.next.new.self) c.in-Some.pass c.loop-pass.ledgers.items c.in-Some.ensures.steps.0 c.loop-pass.invariant.so_far in
    ap (λ (s : Sight). published_by c.len-chain.result s.seen) next

-- the genesis is allowed, so only memory can be wanting
pub returns-in_err-new-clause-err : goal.returns-in_err-new-clause-err
returns-in_err-new-clause-err c =
    let p = err_from_is_err_and c.from_residual-in_err-new.result c.from_residual-in_err-new.ensures.1 in
    let allowed : is_allowed (genesis_state c.args.genesis.now) ≡ true = c.requires.allowed in
    rw (p.1, p.2) (⊎_elim (λ bad. absurd (let refused = c.in_err-new.ensures.bad.0 (ap Err bad) in cc (allowed, refused))) (λ none. none) c.in_err-new.ensures.err)

pub loop-pass-preserved : goal.loop-pass-preserved
loop-pass-preserved c =
    let genesis = genesis_state c.args.genesis.now in
    let table = c.args.table.now.value in
    let at = c.loop-pass in
    let steps = c.in-Some.ensures.steps in
    let seen = ap (λ (s : Sight). s.seen) (next_pass genesis table (into_iter_items at.pass-iterator) (into_iter_items c.next.new.self) c.in-Some.pass at.ledgers.items steps.0 at.invariant.so_far) in
    let new = c.in_ok-new.ensures.ok ∙ ap (λ s. record { ledger = record (new_ledger genesis c.len-chain.result) { seen = s }; table = c.in_ok-table.table.value }) seen
    ∙ ap (λ t. record { ledger = new_ledger genesis c.len-chain.result; table = t }) c.in_ok-table.ensures
    in
    let more = one_more_begun genesis table (into_iter_items at.pass-iterator) (into_iter_items c.next.new.self) c.in-Some.pass at.ledgers.items steps.0 at.invariant.so_far c.len-chain.result c.in_ok-new.field-0 (c.len-chain.ensures ∙ at.ledgers.ok.0) new in
    record {
      so_far = subst (BegunSoFar genesis table (into_iter_items c.next.new.self)) (sym c.in_ok-push.ensures.items) more;
      left =
          let was = at.invariant.left in
          let gone = steps.1 in
          let short = ap length steps.0 in
          omega arith;
    }

pub returns-clause-ok : goal.returns-clause-ok
returns-clause-ok c =
    let at = c.loop-pass in
    all_begun (genesis_state c.args.genesis.now) c.args.table.now.value (into_iter_items at.pass-iterator) at.ledgers.items (sym at.invariant.left ∙ c.in-None.ensures.steps.0) at.invariant.so_far
