use Rattle.std.proofs.Common.{◌∙◌, Bor, IfOk, Option, ap, map, option_map, subst, sym}
use Rattle.serde_json.specs.Data.{Data}
use Rattle.serde_json.specs.View.{view}
use Rattle.serde_json.specs.declared.value.Value.{Value}
use Rattle.ibc_script.specs.ScriptValues.{AreItems}
use Rattle.ibc_script.proofs.members.list.Goals as goal

pub returns-in-Some-clause-items : goal.returns-in-Some-clause-items
returns-in-Some-clause-items c =
    let there = sym (ap (option_map (λ (v : Bor Value). view v.now)) c.in-Some.is) ∙ c.get.ensures in
    subst (λ (o : Option Data). IfOk c.item_list.result (λ items. AreItems (map view items.now) o)) there c.item_list.ensures.items
