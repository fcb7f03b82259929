use Rattle.std.proofs.Common.{arith, subst}
use Rattle.ibc_script_worlds.specs.EndedBlocks.{IsNarrowed, ends_of}
use Rattle.ibc_script_worlds.proofs.FoundBlocks.{all_inside, inside_part, nothing_inside}
use Rattle.ibc_script_worlds.proofs.blocks.ended_at.Goals as goal

pub parts-init : goal.parts-init
parts-init c = record {
  order = omega arith;
  most = omega arith;
  inside = λ counted. all_inside (ends_of c.args.history.now) c.args.limit c.args.height;
}

pub parts-preserved : goal.parts-preserved
parts-preserved c =
    let part = subst (IsNarrowed (ends_of c.args.history.now) c.args.height c.parts.low c.parts.high) c.in-Within.is c.narrowed.ensures in
    let to = part.2 in
    let most = c.parts.invariant.most in
    record {
      order = part.1;
      most = omega (arith, to, most);
      inside = λ counted. inside_part (ends_of c.args.history.now) c.args.limit c.args.height c.parts.low c.parts.high c.in-Within.from c.in-Within.to
          (c.parts.invariant.inside counted) (part.4 counted);
    }

pub parts-smaller : goal.parts-smaller
parts-smaller c =
    let part = subst (IsNarrowed (ends_of c.args.history.now) c.args.height c.parts.low c.parts.high) c.in-Within.is c.narrowed.ensures in
    let less = part.3 in
    let order = part.1 in
    omega (arith, less, order)

pub returns-clause-place : goal.returns-clause-place
returns-clause-place c counted =
    nothing_inside (ends_of c.args.history.now) c.args.limit c.args.height c.parts.low c.parts.high (omega (arith, c.parts-test.false)) (c.parts.invariant.inside counted)

pub returns-in-Found-clause-place : goal.returns-in-Found-clause-place
returns-in-Found-clause-place c counted =
    let part = subst (IsNarrowed (ends_of c.args.history.now) c.args.height c.parts.low c.parts.high) c.in-Found.is c.narrowed.ensures in
    (part.1, part.2)

pub returns-in-Found-clause-there : goal.returns-in-Found-clause-there
returns-in-Found-clause-there c =
    let part = subst (IsNarrowed (ends_of c.args.history.now) c.args.height c.parts.low c.parts.high) c.in-Found.is c.narrowed.ensures in
    let within = part.0 in
    let most = c.parts.invariant.most in
    omega (arith, within, most)
