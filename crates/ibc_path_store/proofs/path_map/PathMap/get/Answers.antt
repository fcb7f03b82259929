-- What stands in the row of the path.
use Rattle.std.proofs.Common.{◌≡◌, sym, ap, ◌∙◌, get_or, Some}
use Rattle.ibc_ids.specs.Texts.{Text, text_cmp}
use Rattle.ibc_ids.specs.Maps.{at}
use Rattle.ibc_merkle.specs.Tree.{Pairs}
use Rattle.ibc_path_store.specs.StoreModel.{PathMapModel}
use Rattle.ibc_path_store.specs.Waiting.{settled_pairs}
use Rattle.ibc_path_store.proofs.path_map.PathMap.get.Goals as goal

pub returns-in-Ok : goal.returns-in-Ok
returns-in-Ok c =
    let settled = c.self.inside.settled in
    let items : Pairs = c.self.inside.entries.items in
    let same : settled_pairs settled items ≡ c.args.self.now.pairs = ap (λ (map : PathMapModel). map.pairs) c.self.view_is in
    let row : c.as_slice.result.now ≡ items = c.as_slice.ensures.value in
    let stands : at text_cmp c.as_bytes.result.now (settled_pairs settled c.as_slice.result.now) ≡ Some (get_or c.as_slice.result.now c.in-Ok.place.row c.index.result.now).1 =
    c.in-Ok.ensures.here.found c.index.result.now
    in
    ap Some (c.value.ensures ∙ ap (λ (pair : Text × Text). pair.1) c.index.ensures)
    ∙ sym (ap (λ (es : Pairs). Some (get_or es c.in-Ok.place.row c.index.result.now).1) row)
    ∙ sym stands
    ∙ ap (λ (es : Pairs). at text_cmp c.as_bytes.result.now (settled_pairs settled es)) row
    ∙ ap (at text_cmp c.as_bytes.result.now) same
    ∙ ap (λ path. at text_cmp path c.args.self.now.pairs) c.as_bytes.ensures.value
