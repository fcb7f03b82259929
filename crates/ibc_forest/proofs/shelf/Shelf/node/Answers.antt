-- In a full chunk, or in the open one.
use Rattle.std.proofs.Common.{get_or, length, sym, ap, ◌∙◌, arith}
use Rattle.ibc_forest.proofs.InChunks.{in_full_chunk, in_open_chunk}
use Rattle.ibc_forest.proofs.shelf.Shelf.node.Goals as goal

pub index-requires : goal.index-requires
index-requires c =
    let held = ap length c.self.view_is in
    let its = in_open_chunk c.self.inside.full c.self.inside.begun.items c.args.number c.self.invariant.0 c.self.invariant.1 (sym c.in-None.ensures) (omega arith) in
    let there = its.0 in
    omega arith

pub returns-in-Some : goal.returns-in-Some
returns-in-Some c =
    let node = c.index-chunk-number.result in
    let its = in_full_chunk c.self.inside.full c.self.inside.begun.items c.in-Some.chunk.now c.args.number c.self.invariant.0 (sym c.in-Some.ensures) in
    c.index-chunk-number.is ∙ its.1 node ∙ ap (λ nodes. get_or nodes c.args.number node) c.self.view_is

pub returns-in-None : goal.returns-in-None
returns-in-None c =
    let node = c.index.result.now in
    let held = ap length c.self.view_is in
    let its = in_open_chunk c.self.inside.full c.self.inside.begun.items c.args.number c.self.invariant.0 c.self.invariant.1 (sym c.in-None.ensures) (omega arith) in
    c.index.ensures ∙ its.1 node ∙ ap (λ nodes. get_or nodes c.args.number node) c.self.view_is
