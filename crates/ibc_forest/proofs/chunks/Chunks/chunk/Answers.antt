-- In a full group, or in the open one.
use Rattle.std.proofs.Common.{◌≡◌, ◌-◌, ◌*◌, ◌/◌, ◌<◌, ◌≤◌, ◌%◌, get_or, length, ap, ◌∙◌, arith, Vec, Some}
use Rattle.std.specs.List.{slice_get}
use Rattle.std.specs.declared.alloc.Global.{Global}
use Rattle.std.specs.declared.sync.Arc.{Arc}
use Rattle.ibc_forest.specs.declared.node.ArenaNode.{ArenaNode}
use Rattle.ibc_forest.specs.Shelves.{chunk_items}
use Rattle.ibc_forest.proofs.InChunks.{whole_group, in_full_group, open_chunk, no_chunk}
use Rattle.ibc_forest.proofs.chunks.Chunks.chunk.Goals as goal

pub index-requires-then-group-len : goal.index-requires-then-group-len
index-requires-then-group-len c =
    let groups = c.self.inside.groups.items in
    let l : c.args.index / 128 < length groups = let h : c.self.inside.groups.len ≡ length groups = c.self.inside.groups.ok.0 in let k = c.len.ensures in let yes = c.if-group-len.true in omega arith in
    let whole = whole_group groups (c.args.index / 128) c.index.result.now c.self.invariant l c.index.ensures in
    let same = ap (λ (v : Vec (Arc (Vec ArenaNode Global) Global) Global). length v.items) c.deref.ensures in
    omega arith

pub returns-then-group-len : goal.returns-then-group-len
returns-then-group-len c =
    let groups = c.self.inside.groups.items in
    let chunk = c.index-then-group-len.result.now in
    let l : c.args.index / 128 < length groups = let h : c.self.inside.groups.len ≡ length groups = c.self.inside.groups.ok.0 in let k = c.len.ensures in let yes = c.if-group-len.true in omega arith in
    ap Some (c.as_slice.ensures.value ∙ ap (λ (v : Vec ArenaNode Global). v.items) c.deref-then-group-len.ensures)
    ∙ in_full_group groups (chunk_items c.self.inside.begun.items) c.args.index c.index.result.now chunk c.self.invariant l c.index.ensures
    (c.index-then-group-len.ensures ∙ ap (λ (v : Vec (Arc (Vec ArenaNode Global) Global) Global). get_or v.items (c.args.index % 128) chunk) c.deref.ensures)
    ∙ ap (λ chunks. slice_get chunks c.args.index) c.self.view_is

pub returns-then-place-len : goal.returns-then-place-len
returns-then-place-len c =
    let groups = c.self.inside.groups.items in
    let begun = c.self.inside.begun.items in
    let index = c.args.index in
    let chunk = c.index-then-place-len.result.now in
    let a : c.len.result ≡ length groups = c.len.ensures ∙ c.self.inside.groups.ok.0 in
    let b : c.len-2.result ≡ length groups = c.len-2.ensures ∙ c.self.inside.groups.ok.0 in
    let e : c.len-3.result ≡ length begun = c.len-3.ensures ∙ c.self.inside.begun.ok.0 in
    let l : length groups ≤ index / 128 = let no = c.if-group-len.false in omega arith in
    let there : index - 128 * length groups < length begun = let yes = c.if-place-len.true in omega arith in
    ap Some (c.as_slice-then-place-len.ensures.value ∙ ap (λ (v : Vec ArenaNode Global). v.items) c.deref-then-place-len.ensures)
    ∙ open_chunk groups begun index chunk c.self.invariant l there (c.index-then-place-len.ensures ∙ ap (λ n. get_or begun (index - 128 * n) chunk) b)
    ∙ ap (λ chunks. slice_get chunks index) c.self.view_is

pub returns : goal.returns
returns c =
    let groups = c.self.inside.groups.items in
    let begun = c.self.inside.begun.items in
    let index = c.args.index in
    let a : c.len.result ≡ length groups = c.len.ensures ∙ c.self.inside.groups.ok.0 in
    let b : c.len-2.result ≡ length groups = c.len-2.ensures ∙ c.self.inside.groups.ok.0 in
    let e : c.len-3.result ≡ length begun = c.len-3.ensures ∙ c.self.inside.begun.ok.0 in
    let l : length groups ≤ index / 128 = let no = c.if-group-len.false in omega arith in
    let past : length begun ≤ index - 128 * length groups = let no = c.if-place-len.false in omega arith in
    no_chunk groups begun index c.self.invariant l past ∙ ap (λ chunks. slice_get chunks index) c.self.view_is
