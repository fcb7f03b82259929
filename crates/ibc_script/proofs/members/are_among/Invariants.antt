use Rattle.std.proofs.Common.{◌≡◌, map}
use Rattle.std.specs.List.{list_all}
use Rattle.serde_json.specs.View.{members_view}
use Rattle.ibc_script.specs.ScriptValues.{are_among}
use Rattle.ibc_script.proofs.Values.{is_known}
use Rattle.ibc_script.proofs.members.are_among.Given as goal

-- all are known exactly where those that are left are
abbrev pub invariant-loop-member : goal.invariant-loop-member
invariant-loop-member l =
    list_all (is_known l.names) l.member-iterator ≡ are_among (map (λ name. name.now) l.names) (members_view l.members.entries)
