use Rattle.std.proofs.Common.{arith, below_more}
use Rattle.std.proofs.lemmas.Option.{get_or_from_slice_get, slice_get_within}
use Rattle.ibc_script.proofs.reading.step_reader.StepReader.chain_of.Goals as goal

pub loop-place-preserved : goal.loop-place-preserved
loop-place-preserved c =
    below_more _ _ c.loop-place.invariant
    (λ at. c.is_named.ensures.other c.if-is_named.false (get_or_from_slice_get c.args.self.now.names.now c.loop-place.place c.args.name.now _ at))

pub returns-clause-bad : goal.returns-clause-bad
returns-clause-bad c bad n at =
    let within = slice_get_within c.args.self.now.names.now n c.args.name.now at in
    c.loop-place.invariant n (omega (arith, within)) at
