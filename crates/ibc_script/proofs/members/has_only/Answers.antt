use Rattle.std.proofs.Common.{◌∙◌, Bor, IfOk, IsErrOf, IsTrue, Option, false, ap, map, option_map, subst, sym}
use Rattle.std.specs.BTreeMap.{BTreeMap}
use Rattle.std.specs.Option.{option_map_or}
use Rattle.std.proofs.Common.{String, Global}
use Rattle.serde_json.specs.Data.{Members}
use Rattle.serde_json.specs.View.{members_view}
use Rattle.serde_json.specs.declared.value.Value.{Value}
use Rattle.ibc_script.specs.ScriptValues.{are_among}
use Rattle.ibc_script.specs.declared.fault.Fault.TheVariants.{BadScript}
use Rattle.ibc_script.proofs.members.has_only.Goals as goal

pub returns-in-Some-clause-only : goal.returns-in-Some-clause-only
returns-in-Some-clause-only c =
    let there = sym (ap (option_map (λ (m : Bor (BTreeMap (String Global) Value)). members_view m.now.entries)) c.in-Some.is) ∙ c.as_object.ensures in
    subst (λ (o : Option Members). IfOk c.are_among.result (λ _. IsTrue (option_map_or (are_among (map (λ name. name.now) c.args.names.now)) o false))) there c.are_among.ensures.among

pub returns-in-Some-clause-bad : goal.returns-in-Some-clause-bad
returns-in-Some-clause-bad c =
    let there = sym (ap (option_map (λ (m : Bor (BTreeMap (String Global) Value)). members_view m.now.entries)) c.in-Some.is) ∙ c.as_object.ensures in
    subst (λ (o : Option Members). IsErrOf c.are_among.result BadScript → ¬ IsTrue (option_map_or (are_among (map (λ name. name.now) c.args.names.now)) o false)) there c.are_among.ensures.bad
