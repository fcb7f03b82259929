-- The last row has the root alone.
use Rattle.std.proofs.Common.{◌≡◌, length, arith}
use Rattle.ibc_forest.proofs.Workings.{top}
use Rattle.ibc_forest.proofs.working.root_of.Goals as goal

pub index-requires : goal.index-requires
index-requires c =
    let last = c.index-rows-rows.result in
    let w = top c.args.arena.now.trees c.args.rows.now last c.requires c.index-rows-rows.is in
    let one : length last.items ≡ 1 = w.0 in
    let counted : last.len ≡ length last.items = last.ok.0 in
    omega arith

pub returns-clause-over : goal.returns-clause-over
returns-clause-over c =
    let w = top c.args.arena.now.trees c.args.rows.now c.index-rows-rows.result c.requires c.index-rows-rows.is in
    (w.1 c.index.result.now c.index.ensures).1

pub returns-clause-there : goal.returns-clause-there
returns-clause-there c =
    let w = top c.args.arena.now.trees c.args.rows.now c.index-rows-rows.result c.requires c.index-rows-rows.is in
    (w.1 c.index.result.now c.index.ensures).0
