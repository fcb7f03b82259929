use Rattle.std.proofs.Common.{◌∙◌, ◌++◌, ℕ, ap, arith, length, sym}
use Rattle.std.proofs.lemmas.List.{append-nil, nil_from_length}
use Rattle.std.specs.Vec.Iter.{into_iter_items}
use Rattle.ibc_ledger.specs.LedgerModel.{LedgerModel}
use Rattle.ibc_race.specs.SharedWorlds.{numbers_of}
use Rattle.ibc_race.proofs.Gathering.{gathered, one_more_taken}
use Rattle.ibc_race.proofs.ledgers_of.Goals as goal

pub loop-chain-preserved : goal.loop-chain-preserved
loop-chain-preserved g c =
    let at = c.loop-chain in
    let held = c.in_ok-ledger_of.field-0 in
    let number : LedgerModel → ℕ = λ h. h.ledger.chain in
    record {
      counted =
          let long = ap length c.in-Some.ensures.steps.0 in
          let one_less = c.in-Some.ensures.steps.1 in
          let counted = at.invariant.counted in
          omega arith;
      numbers = one_more_taken number at.ledgers.items c.push.new.self.items held (into_iter_items at.chain-iterator) (into_iter_items c.next.new.self) c.args.chains.items c.in-Some.chain
          c.in_ok-push.ensures.items c.in_ok-ledger_of.ensures.number c.in-Some.ensures.steps.0 at.invariant.numbers;
      gathered = gathered g.W.WorldBrand.table g.W.WorldBrand.genesis c.args.receipts.now c.args.readings.now
          at.ledgers.items c.push.new.self.items held c.in_ok-push.ensures.items
          at.invariant.gathered c.in_ok-ledger_of.ensures.world c.in_ok-ledger_of.ensures.answered c.in_ok-ledger_of.ensures.once;
    }

pub returns-clause-numbers : goal.returns-clause-numbers
returns-clause-numbers g c =
    let at = c.loop-chain in
    let none = nil_from_length (into_iter_items at.chain-iterator) (sym at.invariant.counted ∙ c.in-None.ensures.steps.0) in
    sym (append-nil (numbers_of at.ledgers.items)) ∙ ap (λ l. numbers_of at.ledgers.items ++ l) (sym none) ∙ at.invariant.numbers
