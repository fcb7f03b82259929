use Rattle.std.proofs.Common.{◌∙◌, ◌-◌, None, Some, arith, sym}
use Rattle.ibc_script_worlds.specs.EndedBlocks.{ends_of}
use Rattle.ibc_script_worlds.proofs.FoundBlocks.{entry_tells, last_there, none_more, none_there}
use Rattle.ibc_script_worlds.proofs.blocks.last_ended.Goals as goal

pub loop-behind-preserved : goal.loop-behind-preserved
loop-behind-preserved c =
    let place = c.args.high - 1 - c.loop-behind.behind in
    let here = entry_tells c.args.history.now place c.index-history-place.result None (omega (arith, c.loop-behind-test.true, c.requires.0, c.requires.1)) c.index-history-place.is
    (sym c.in_default.is ∙ c.ended_by.ensures) in
    none_more (ends_of c.args.history.now) c.args.high c.loop-behind.behind place (omega (arith, c.loop-behind-test.true, c.requires.0)) here c.loop-behind.invariant

pub returns-in-Some : goal.returns-in-Some
returns-in-Some c =
    let place = c.args.high - 1 - c.loop-behind.behind in
    let here = entry_tells c.args.history.now place c.index-history-place.result (Some c.in-Some.block) (omega (arith, c.loop-behind-test.true, c.requires.0, c.requires.1)) c.index-history-place.is
    (sym c.in-Some.is ∙ c.ended_by.ensures) in
    last_there (ends_of c.args.history.now) c.args.low c.args.high c.loop-behind.behind place c.in-Some.block (omega (arith, c.loop-behind-test.true, c.requires.0))
    (omega (arith, c.loop-behind-test.true)) here c.loop-behind.invariant

pub returns : goal.returns
returns c = none_there (ends_of c.args.history.now) c.args.low c.args.high c.loop-behind.behind c.loop-behind-test.false c.loop-behind.invariant
