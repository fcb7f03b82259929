use Rattle.std.proofs.Common.{◌-◌, ◌/◌, arith, subst}
use Rattle.ibc_script_worlds.specs.EndedBlocks.{IsLastIn, ends_of}
use Rattle.ibc_script_worlds.proofs.FoundBlocks.{none_before, too_high, too_low}
use Rattle.ibc_script_worlds.proofs.blocks.narrowed.Goals as goal

pub returns-in_default : goal.returns-in_default
returns-in_default c =
    let low = c.args.low in
    let high = c.args.high in
    let middle = high - (high - low) / 2 in
    let none = subst (IsLastIn (ends_of c.args.history.now) low middle) c.in_default.is c.last_ended.ensures in (
      omega (arith, c.requires.0),
      omega (arith, c.requires.0),
      omega arith,
      omega (arith, c.requires.0),
      none_before (ends_of c.args.history.now) c.args.height low high middle none,
    )

pub returns-then-block-height-2 : goal.returns-then-block-height-2
returns-then-block-height-2 c =
    let low = c.args.low in
    let high = c.args.high in
    let middle = high - (high - low) / 2 in
    let found = subst (IsLastIn (ends_of c.args.history.now) low middle) c.in-Some.is c.last_ended.ensures in (
      omega (arith, c.requires.0),
      omega (arith, c.requires.0),
      omega arith,
      omega (arith, c.requires.0),
      too_low (ends_of c.args.history.now) c.args.height low high middle c.in-Some.place c.in-Some.block found c.if-block-height-2.true,
    )

pub returns-else-block-height-2 : goal.returns-else-block-height-2
returns-else-block-height-2 c =
    let low = c.args.low in
    let high = c.args.high in
    let middle = high - (high - low) / 2 in
    let found = subst (IsLastIn (ends_of c.args.history.now) low middle) c.in-Some.is c.last_ended.ensures in
    let within = found.1 in (
      omega arith,
      found.0,
      omega (arith, within, c.requires.0),
      omega (arith, within, c.requires.0),
      too_high (ends_of c.args.history.now) c.args.height low high middle c.in-Some.place c.in-Some.block found (omega arith),
    )
