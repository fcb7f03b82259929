-- The chunk of the key has the value.
use Rattle.std.proofs.Common.{ap, ◌∙◌}
use Rattle.ibc_ids.specs.Maps.{with}
use Rattle.ibc_maps.proofs.PairsInChunks.{on_ok, on_err, either, same_when_set}
use Rattle.ibc_maps.proofs.KeysAmongChunks.{IsPlace, place_at, with-place, row_same, row_with}
use Rattle.ibc_maps.proofs.row.set_among.Given.{Over}
use Rattle.ibc_maps.proofs.row.set_among.Goals as goal

place : (g : Over) (c : goal.After-chunks-1 g) → IsPlace g.met.K.Ord.total c.divide.new.chunks.items c.args.key c.place_of-place.result c.index_mut.result.now
place g c =
    let its = c.place_of-place.ensures in
    place_at g.met.K.Ord.total c.divide.new.chunks.items c.deref-2.result.now c.args.key c.place_of-place.result c.index_mut.result.now c.deref-2.ensures.value its.within its.below its.above c.index_mut.ensures.value

pub returns-clause-row : goal.returns-clause-row
returns-clause-row g c =
    let chunks = c.divide.new.chunks.items in
    let i = c.place_of-place.result in
    let chunk = c.index_mut.result.now in
    let after = c.set_in.new.chunk in
    let row = c.divide.ensures.row in
    let p = place g c in
    either c.set_in.result c.set_in.ensures.ok c.set_in.ensures.err
    (row_with g.met.K.Ord.total chunks c.args.key i chunk after c.args.value row p)
    (row_same g.met.K.Ord.total chunks i chunk after row p.within p.is)

pub returns-clause-ok : goal.returns-clause-ok
returns-clause-ok g c =
    on_ok c.set_in.result c.set_in.ensures.ok
    (λ is.
    with-place g.met.K.Ord.total c.divide.new.chunks.items c.args.key c.place_of-place.result c.index_mut.result.now (place g c) c.args.value c.set_in.new.chunk is
    ∙ ap (with g.K.Ord.cmp c.args.key c.args.value) c.divide.ensures.same)

pub returns-clause-err : goal.returns-clause-err
returns-clause-err g c =
    let p = place g c in
    on_err c.set_in.result c.set_in.ensures.err
    (λ is. same_when_set c.divide.new.chunks.items c.place_of-place.result c.index_mut.result.now c.set_in.new.chunk p.within p.is is ∙ c.divide.ensures.same)
