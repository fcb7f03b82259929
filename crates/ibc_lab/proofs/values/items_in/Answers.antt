use Rattle.std.proofs.Common.{ap, sym, map, Some, option_map, ◌∙◌}
use Rattle.serde_json.specs.View.{view}
use Rattle.ibc_lab.specs.Values.{list_of}
use Rattle.ibc_lab.proofs.Lists.{list_of-items_of}
use Rattle.ibc_lab.proofs.values.items_in.Goals as goal

pub returns-in-Some : goal.returns-in-Some
returns-in-Some c =
    let slice = ap (map view) c.as_slice.ensures.value in
    let same = sym (list_of-items_of (map view c.in-Some.items.now.items)) in
    ap Some (slice ∙ same) ∙ ap (option_map list_of) c.in-Some.ensures
