use Rattle.std.proofs.Common.{subst}
use Rattle.ibc_script_worlds.specs.EndedBlocks.{IsLastIn, ends_of}
use Rattle.ibc_script_worlds.proofs.FoundBlocks.{time_of_last, time_of_none}
use Rattle.ibc_script_worlds.proofs.blocks.time_at.Goals as goal

pub returns-in-Some : goal.returns-in-Some
returns-in-Some c =
    time_of_last c.args.start c.args.place (ends_of c.args.history.now) c.in-Some.before _
    (subst (IsLastIn (ends_of c.args.history.now) 0 c.args.place) c.in-Some.is c.last_ended.ensures)

pub returns-in-None : goal.returns-in-None
returns-in-None c =
    time_of_none c.args.start c.args.place (ends_of c.args.history.now)
    (subst (IsLastIn (ends_of c.args.history.now) 0 c.args.place) c.in-None.is c.last_ended.ensures)
