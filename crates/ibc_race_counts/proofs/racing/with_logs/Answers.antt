-- A log more is behind them.
use Rattle.std.proofs.Common.{◌∙◌, ◌++◌, List, ap, append-nil, append_assoc, arith, length, sym}
use Rattle.std.proofs.lemmas.List.{nil_from_length}
use Rattle.std.specs.List.{flat_map}
use Rattle.std.specs.Vec.Iter.{into_iter_items}
use Rattle.ibc_ledger_lock.specs.ReceiptsAndReadings.{ReceiptModel}
use Rattle.ibc_race_counts.proofs.racing.with_logs.Goals as goal

abbrev in_all : List (List ReceiptModel) → List ReceiptModel
in_all logs = flat_map (λ (told : List ReceiptModel). told) logs

pub loop-log-preserved : goal.loop-log-preserved
loop-log-preserved g c =
    let at = c.loop-log in
    let rest = into_iter_items c.next.new.self in
    record {
      counted =
          let long = ap length c.in-Some.ensures.steps.0 in
          let one_less = c.in-Some.ensures.steps.1 in
          let counted = at.invariant.counted in
          omega arith;
      held =
          ap (λ (l : List ReceiptModel). l ++ in_all rest) c.in_ok-append_log.ensures
          ∙ append_assoc at.all.items c.in-Some.log (in_all rest)
          ∙ ap (λ (l : List (List ReceiptModel)). at.all.items ++ in_all l) (sym c.in-Some.ensures.steps.0)
          ∙ at.invariant.held;
    }

pub returns : goal.returns
returns g c =
    let none = nil_from_length (into_iter_items c.loop-log.log-iterator) (sym c.loop-log.invariant.counted ∙ c.in-None.ensures.steps.0) in
    sym (append-nil c.loop-log.all.items)
    ∙ ap (λ (l : List (List ReceiptModel)). c.loop-log.all.items ++ in_all l) (sym none)
    ∙ c.loop-log.invariant.held
