use Rattle.std.proofs.Common.{subst, sym}
use Rattle.ibc_script_worlds.specs.EndedBlocks.{EndNoneIn, IsPlaceOf, ends_of}
use Rattle.ibc_script_worlds.proofs.FoundBlocks.{as_many, found_block, no_block}
use Rattle.ibc_script_worlds.proofs.blocks.block_at.Goals as goal

pub returns-in-Some : goal.returns-in-Some
returns-in-Some c counted behind =
    let ends = ends_of c.args.history.now in
    let found = subst (IsPlaceOf ends c.args.limit c.args.height) c.in-Some.is (c.ended_at.ensures.place counted) in
    found_block c.args.start c.args.height ends c.in-Some.place c.in-Some.block c.time_at.result counted found.0 found.1 c.time_at.ensures

pub returns-in-None : goal.returns-in-None
returns-in-None c counted behind =
    let ends = ends_of c.args.history.now in
    no_block c.args.start c.args.height c.args.limit ends counted (subst (IsPlaceOf ends c.args.limit c.args.height) c.in-None.is (c.ended_at.ensures.place counted))
    (subst (EndNoneIn ends c.args.limit) (sym (as_many c.args.history.now)) behind)
