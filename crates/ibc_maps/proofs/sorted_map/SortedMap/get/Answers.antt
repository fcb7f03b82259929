-- What stands at the place of the key.
use Rattle.std.proofs.Common.{◌≡◌, true, get_or, ap, ◌∙◌, sym}
use Rattle.std.specs.FinMap.{is_sorted}
use Rattle.ibc_maps.proofs.SearchedKeys.{found-at, gap-at}
use Rattle.ibc_maps.proofs.sorted_map.SortedMap.get.Goals as goal

pub returns-in-Ok : goal.returns-in-Ok
returns-in-Ok g c =
    let pairs = c.args.self.now.pairs in
    let entry = c.index.result.now in
    let same : c.self.inside.entries.items ≡ pairs = ap (λ map. map.pairs) c.self.view_is in
    let sorted : is_sorted g.K.Ord.cmp pairs ≡ true = ap (is_sorted g.K.Ord.cmp) (sym same) ∙ c.self.invariant in
    let stands : entry ≡ get_or pairs c.in-Ok.index entry = c.index.ensures ∙ ap (λ es. get_or es c.in-Ok.index entry) same in
    found-at g.met.K.Ord.total pairs c.args.key.now c.in-Ok.index entry sorted c.in-Ok.ensures.found stands (c.in-Ok.ensures.here entry)

pub returns-in-Err : goal.returns-in-Err
returns-in-Err g c = gap-at g.met.K.Ord.total c.args.self.now.pairs c.args.key.now c.in-Err.field-0 c.in-Err.ensures.within c.in-Err.ensures.gap
