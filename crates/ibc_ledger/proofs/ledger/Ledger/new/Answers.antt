use Rattle.ibc_ledger.proofs.Common.{◌≡◌, ◌∙◌, ◌<◌, ◌⊎◌, true, refl, sym, ap, subst, inr, Some, Err, arith, length, length-map, slice_get-get_or, genesis_state, chain_state, is_allowed}
use Rattle.std.specs.Prelude.{slice_get, IfErr}
use Rattle.ibc_ids.specs.declared.refusal.Refusal.TheVariants.{BadMessage, NoMemory}
use Rattle.std.proofs.lemmas.Result.{err_from_is_err_and}
use Rattle.ibc_ledger.proofs.Windows.{few_chains}
use Rattle.ibc_ledger.proofs.Totals.{fair_start}
use Rattle.ibc_ledger.proofs.NewLedgers.{IsFresh, fresh_held}
use Rattle.ibc_ledger.proofs.ledger.Ledger.new.Goals as goal

pub overflow_cast-node : goal.overflow_cast-node
overflow_cast-node c =
    let allowed : is_allowed (genesis_state c.args.genesis.now) ≡ true = cc (c.is_allowed.ensures, c.if-not-is_allowed.false) in
    omega (arith, few_chains (genesis_state c.args.genesis.now) allowed, length-map c.args.genesis.now.chains.items chain_state, c.len.ensures)

pub new-requires-2 : goal.new-requires-2
new-requires-2 c =
    let allowed : is_allowed (genesis_state c.args.genesis.now) ≡ true = cc (c.is_allowed.ensures, c.if-not-is_allowed.false) in
    let items = c.args.genesis.now.chains.items in
    fair_start c.args.genesis.now allowed c.from.result c.index-start.result.now (subst (λ n. n < length items) (sym c.from.ensures) c.requires.chain) c.index-start.ensures

pub returns-in_err-new-2-clause-err : goal.returns-in_err-new-2-clause-err
returns-in_err-new-2-clause-err c =
    let passed = err_from_is_err_and _ c.from_residual-in_err-new-2.ensures.1 in
    subst (λ r. IfErr r (λ refusal. (refusal ≡ BadMessage) ⊎ (refusal ≡ NoMemory))) (sym (passed.1 ∙ ap Err passed.2)) (inr refl)

pub invariant_of-result : goal.invariant_of-result
invariant_of-result c =
    let allowed : is_allowed (genesis_state c.args.genesis.now) ≡ true = cc (c.is_allowed.ensures, c.if-not-is_allowed.false) in
    let items = c.args.genesis.now.chains.items in
    let start = c.index-start.result.now in
    let there : slice_get items c.args.chain ≡ Some start =
    ap (slice_get items) (sym c.from.ensures) ∙ slice_get-get_or items c.from.result start (subst (λ n. n < length items) (sym c.from.ensures) c.requires.chain) ∙ ap Some (sym c.index-start.ensures) in
    let chains : c.len.result ≡ length items = omega (arith, c.len.ensures) in
    fresh_held _ (subst (IsFresh _) (sym c.of.ensures) (record {
      start = start;
      allowed = allowed;
      inside = c.requires.chain;
      there = there;
      chains = chains;
      capacity = refl;
      shape = c.requires.table;
      table = c.requires.pass.0;
      own = c.requires.pass.1;
      unpublished = c.requires.unpublished;
      records = c.in_ok-new.ensures.ok;
      applications = c.in_ok-new-2.ensures;
      history = c.new-3.ensures.items;
      sent = c.new-4.ensures;
    }))
