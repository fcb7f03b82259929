-- What the chunk of the key has.
use Rattle.std.proofs.Common.{ap, ◌∙◌}
use Rattle.ibc_ids.specs.Maps.{at}
use Rattle.ibc_maps.proofs.KeysAmongChunks.{place_at, at-place}
use Rattle.ibc_maps.proofs.row.ChunkedMap.get.Goals as goal

pub returns : goal.returns
returns g c =
    let total = g.met.K.Ord.total in
    let key = c.args.key.now in
    let chunks = c.self.inside.chunks.items in
    let chunk = c.index.result.now in
    let place = c.place_of-place.result in
    let its = c.place_of-place.ensures in
    c.get.ensures
    ∙ ap (λ m. at g.K.Ord.cmp key m.pairs) c.deref-2.ensures
    ∙ at-place total chunks key place chunk (place_at total chunks c.deref.result.now key place chunk c.deref.ensures.value its.within its.below its.above c.index.ensures)
    ∙ ap (at g.K.Ord.cmp key) c.self.view_is
