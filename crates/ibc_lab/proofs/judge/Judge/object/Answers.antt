-- What an object may not have is told first, and then what it owes.
use Rattle.std.proofs.Common.{◌∙◌, Bor, Global, String, ap, map, option_map, sym}
use Rattle.std.specs.BTreeMap.{BTreeMap}
use Rattle.serde_json.specs.View.{members_view, view}
use Rattle.serde_json.specs.declared.value.Value.{Value}
use Rattle.ibc_lab.proofs.Objects.{object_told}
use Rattle.ibc_lab.proofs.judge.Judge.object.Goals as goal

pub returns-in_ok-unknown-in-Some : goal.returns-in_ok-unknown-in-Some
returns-in_ok-unknown-in-Some c =
    let there = sym (ap (option_map (λ (m : Bor (BTreeMap (String Global) Value)). members_view m.now.entries)) c.in-Some.is) ∙ c.as_object.ensures in
    object_told (map view c.args.self.now.chains.now) c.args.place c.args.owed.now (view c.args.object.now) c.in-Some.members.now.entries c.members.result
    c.args.found.now.items c.unknown.new.found.items c.members.new.found.items there c.in_ok-unknown-in-Some.ensures c.members.ensures
