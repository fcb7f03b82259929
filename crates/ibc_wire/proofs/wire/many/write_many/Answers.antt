use Rattle.std.proofs.lemmas.Result.{err_from_is_err_and}
use Rattle.ibc_wire.proofs.ValueSequences.{more_written, one_fails, all_written}
use Rattle.ibc_wire.proofs.wire.many.write_many.Goals as goal

pub returns-in_err-write : goal.returns-in_err-write
returns-in_err-write g c =
    let p = err_from_is_err_and c.from_residual.result c.from_residual.ensures.1 in
    rw (p.1, p.2) (one_fails g.T.Wire.fields c.in_err-write.field-0.0 c.args.values.now c.loop-value.value-index c.value-item.result c.loop-value-test.true c.value-item.is c.in_err-write.ensures)

pub loop-value-preserved : goal.loop-value-preserved
loop-value-preserved g c =
    more_written g.T.Wire.fields c.args.values.now c.loop-value.value-index c.value-item.result c.args.out.now.items c.loop-value.out.items c.write.new.out.items c.loop-value-test.true c.value-item.is c.loop-value.invariant c.in_ok-write.ensures

pub returns : goal.returns
returns g c =
    all_written g.T.Wire.fields c.args.values.now c.loop-value.value-index c.args.out.now.items c.loop-value.out.items c.loop-value-test.false c.loop-value.invariant
