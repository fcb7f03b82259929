use Rattle.std.proofs.Common.{◌∙◌, Bor, ap, option_map, sym}
use Rattle.std.specs.Global.{Vec}
use Rattle.serde_json.specs.View.{items_view}
use Rattle.serde_json.specs.declared.value.Value.{Value}
use Rattle.ibc_script.proofs.Values.{are_items}
use Rattle.ibc_script.proofs.members.item_list.Goals as goal

pub returns-in-Some-clause-items : goal.returns-in-Some-clause-items
returns-in-Some-clause-items c =
    let there = sym (ap (option_map (λ (v : Bor (Vec Value)). items_view v.now.items)) c.in-Some.is) ∙ c.as_array.ensures in
    are_items c.args.item.now c.in-Some.items.now.items c.as_slice.result.now there c.as_slice.ensures.value
