-- The chunk of the key is without it, and goes where it was its last.
use Rattle.std.proofs.Common.{◌<◌, length, sym, ap, ◌∙◌, subst, arith}
use Rattle.std.specs.Arc.{arc_value}
use Rattle.std.specs.FinMap.{is_sorted}
use Rattle.std.specs.List.{AllByRecursion}
use Rattle.ibc_ids.specs.Maps.{without}
use Rattle.ibc_maps.specs.Chunks.{joined_chunks, HasPairs}
use Rattle.ibc_maps.proofs.PairsInChunks.{if_err, same_when_set, whole-removed, joined-emptied, counted_there}
use Rattle.ibc_maps.proofs.KeysAmongChunks.{place_at, without-place, sorted-without, row_when, row_same}
use Rattle.ibc_maps.proofs.row.remove_among.Goals as goal

-- ---- refused

pub returns-in_err-remove_in-clause-row : goal.returns-in_err-remove_in-clause-row
returns-in_err-remove_in-clause-row g c =
    let its = c.place_of-place.ensures in
    let chunks = c.args.chunks.now.items in
    let key = c.args.key.now in
    let i = c.place_of-place.result in
    let chunk = c.index_mut.result.now in
    let after = c.remove_in.new.chunk in
    let total = g.met.K.Ord.total in
    let p = place_at total chunks c.deref.result.now key i chunk c.deref.ensures.value its.within its.below its.above c.index_mut.ensures.value in
    row_same total chunks i chunk after c.requires.row p.within p.is c.in_err-remove_in.ensures.err

pub returns-in_err-remove_in-clause-err : goal.returns-in_err-remove_in-clause-err
returns-in_err-remove_in-clause-err g c =
    let its = c.place_of-place.ensures in
    let chunks = c.args.chunks.now.items in
    let key = c.args.key.now in
    let i = c.place_of-place.result in
    let chunk = c.index_mut.result.now in
    let after = c.remove_in.new.chunk in
    let total = g.met.K.Ord.total in
    let p = place_at total chunks c.deref.result.now key i chunk c.deref.ensures.value its.within its.below its.above c.index_mut.ensures.value in
    if_err c.from_residual.result (same_when_set chunks i chunk after p.within p.is c.in_err-remove_in.ensures.err)

-- ---- removed

pub returns-else-len-eq0-clause-ok : goal.returns-else-len-eq0-clause-ok
returns-else-len-eq0-clause-ok g c =
    let its = c.place_of-place.ensures in
    let chunks = c.args.chunks.now.items in
    let key = c.args.key.now in
    let i = c.place_of-place.result in
    let chunk = c.index_mut.result.now in
    let after = c.remove_in.new.chunk in
    let total = g.met.K.Ord.total in
    let p = place_at total chunks c.deref.result.now key i chunk c.deref.ensures.value its.within its.below its.above c.index_mut.ensures.value in
    without-place total chunks key i chunk p after c.in_ok-remove_in.ensures.ok

pub returns-else-len-eq0-clause-row : goal.returns-else-len-eq0-clause-row
returns-else-len-eq0-clause-row g c =
    let its = c.place_of-place.ensures in
    let chunks = c.args.chunks.now.items in
    let key = c.args.key.now in
    let i = c.place_of-place.result in
    let chunk = c.index_mut.result.now in
    let after = c.remove_in.new.chunk in
    let total = g.met.K.Ord.total in
    let p = place_at total chunks c.deref.result.now key i chunk c.deref.ensures.value its.within its.below its.above c.index_mut.ensures.value in
    let n = counted_there chunks i after c.index.result.now c.deref-2.result.now c.len.result p.within c.index.ensures c.deref-2.ensures c.len.ensures in
    let no = c.if-len-eq0.false in
    row_when total chunks i after (without g.K.Ord.cmp key (joined_chunks chunks)) c.requires.row.whole (without-place total chunks key i chunk p after c.in_ok-remove_in.ensures.ok)
    (sorted-without total key (joined_chunks chunks) c.requires.row.sorted)
    (let some : 0 < length (arc_value after).pairs = omega arith in some)

-- ---- the last

pub returns-then-len-eq0-clause-ok : goal.returns-then-len-eq0-clause-ok
returns-then-len-eq0-clause-ok g c =
    let its = c.place_of-place.ensures in
    let chunks = c.args.chunks.now.items in
    let key = c.args.key.now in
    let i = c.place_of-place.result in
    let chunk = c.index_mut.result.now in
    let after = c.remove_in.new.chunk in
    let total = g.met.K.Ord.total in
    let p = place_at total chunks c.deref.result.now key i chunk c.deref.ensures.value its.within its.below its.above c.index_mut.ensures.value in
    let n = counted_there chunks i after c.index.result.now c.deref-2.result.now c.len.result p.within c.index.ensures c.deref-2.ensures c.len.ensures in
    ap joined_chunks c.remove.ensures.items
    ∙ joined-emptied chunks i after p.within (sym n ∙ c.if-len-eq0.true)
    ∙ without-place total chunks key i chunk p after c.in_ok-remove_in.ensures.ok

pub returns-then-len-eq0-clause-row : goal.returns-then-len-eq0-clause-row
returns-then-len-eq0-clause-row g c =
    let its = c.place_of-place.ensures in
    let chunks = c.args.chunks.now.items in
    let key = c.args.key.now in
    let i = c.place_of-place.result in
    let chunk = c.index_mut.result.now in
    let after = c.remove_in.new.chunk in
    let total = g.met.K.Ord.total in
    let p = place_at total chunks c.deref.result.now key i chunk c.deref.ensures.value its.within its.below its.above c.index_mut.ensures.value in
    let n = counted_there chunks i after c.index.result.now c.deref-2.result.now c.len.result p.within c.index.ensures c.deref-2.ensures c.len.ensures in
    record {
      sorted =
          ap (λ cs. is_sorted g.K.Ord.cmp (joined_chunks cs)) c.remove.ensures.items
          ∙ ap (is_sorted g.K.Ord.cmp) (joined-emptied chunks i after p.within (sym n ∙ c.if-len-eq0.true) ∙ without-place total chunks key i chunk p after c.in_ok-remove_in.ensures.ok)
          ∙ sorted-without total key (joined_chunks chunks) c.requires.row.sorted;
      whole = subst (AllByRecursion HasPairs) (sym c.remove.ensures.items) (whole-removed chunks i after c.requires.row.whole);
    }
