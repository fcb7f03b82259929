use Rattle.std.proofs.lemmas.Result.{err_from_is_err_and}
use Rattle.ibc_wire.specs.Fronts.{many_at_front}
use Rattle.ibc_wire.proofs.ValueSequences.{goes_on, ends, is_done}
use Rattle.ibc_wire.proofs.wire.many.read_many.Goals as goal

pub returns-in_err-value : goal.returns-in_err-value
returns-in_err-value g c =
    let front = g.T.Wire.front in
    let p = err_from_is_err_and c.from_residual-in_err-value.result c.from_residual-in_err-value.ensures.1 in
    rw (p.1, p.2) (ends front c.in_err-value.field-0.0 c.loop.values.items c.args.count c.loop.counter c.loop.rest.now (many_at_front front c.args.count c.args.bytes.now) c.loop-test.true c.in_err-value.ensures c.loop.invariant)

pub loop-preserved : goal.loop-preserved
loop-preserved g c =
    let front = g.T.Wire.front in
    rw c.in_ok-push.ensures.items (goes_on front c.loop.values.items c.args.count c.loop.counter c.loop.rest.now c.in_ok-value.value c.in_ok-value.behind.now (many_at_front front c.args.count c.args.bytes.now) c.loop-test.true c.in_ok-value.ensures c.loop.invariant)

pub returns : goal.returns
returns g c =
    let front = g.T.Wire.front in
    is_done front c.loop.values.items c.args.count c.loop.counter c.loop.rest.now (many_at_front front c.args.count c.args.bytes.now) c.loop-test.false c.loop.invariant
