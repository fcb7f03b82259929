-- The levels above, and one more.
use Rattle.std.proofs.Common.{rules}
use Rattle.ibc_forest.proofs.Climbing.{next_levels, first_is, climbs_on}
use Rattle.ibc_forest.proofs.ascent.+climb.Goals as goal

pub climb-requires : goal.climb-requires
climb-requires t c =
    let w = next_levels c.args.arena.now.trees c.parent_at.new.arena.trees c.args.rows.now c.split_at.result.1.now c.args.index c.requires.levels c.requires.place c.if-rows-gt1.true c.split_at.ensures.back c.in_ok-parent.ensures.grows in
    (search rules, (w.0, (w.1, c.in_ok-parent.ensures.there)))

pub returns-in_ok-climb-clause-climbs : goal.returns-in_ok-climb-clause-climbs
returns-in_ok-climb-clause-climbs t c =
    let first = first_is c.args.rows.now c.split_at.result.0.now c.index-first-0.result c.as_slice.result.now c.if-rows-gt1.true c.split_at.ensures.front c.index-first-0.is c.as_slice.ensures.value in
    climbs_on c.args.arena.now.trees c.parent_at.new.arena.trees c.climb.new.arena.trees c.args.rows.now c.split_at.result.1.now c.args.index c.args.node c.in_ok-parent.parent
    c.as_slice.result.now c.args.path.now.items c.push.new.self.items c.climb.new.path.items
    c.requires.levels c.requires.place c.if-rows-gt1.true c.split_at.ensures.back first c.requires.node c.in_ok-parent.ensures.grows c.in_ok-climb.ensures.grows c.in_ok-parent.ensures.there
    c.in_ok-parent.ensures.pair c.in_ok-push.ensures.items c.in_ok-climb.ensures.climbs
