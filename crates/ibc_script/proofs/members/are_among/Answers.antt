use Rattle.std.proofs.Common.{◌≡◌, ◌∙◌, ◌&&◌, Bool, Bor, bytes_eq, ap, false, map, sym, true}
use Rattle.std.specs.List.{list_all, list_any}
use Rattle.std.proofs.lemmas.Bool.{false≢true}
use Rattle.serde_json.specs.View.{members_view}
use Rattle.ibc_ids.specs.Texts.{Text}
use Rattle.ibc_script.specs.ScriptValues.{are_among}
use Rattle.std.specs.Map.Iter.{deref}
use Rattle.std.proofs.lemmas.Map.Iter.{rest_all, rest_more}
use Rattle.ibc_script.proofs.Values.{is_known, known_members}
use Rattle.ibc_script.proofs.members.are_among.Goals as goal

pub loop-member-init : goal.loop-member-init
loop-member-init c =
    ap (list_all (is_known c.args.names.now)) (c.into_iter-member-iterator.ensures.into_iter_gives ∙ c.keys-member-items.ensures.rest)
    ∙ sym (known_members c.args.names.now c.args.members.now.entries)

pub loop-member-preserved : goal.loop-member-preserved
loop-member-preserved c =
    let rest = rest_more deref c.loop-member.member-iterator c.next.new.self c.next.result c.in-Some.member c.in-Some.is c.next.ensures.steps in
    let here : is_known c.args.names.now c.in-Some.member.now ≡ true =
    ap (λ (t : Text). list_any (λ (name : Bor Text). bytes_eq t name.now) c.args.names.now) (sym c.as_str.ensures.value) ∙ sym c.is_one_of.ensures ∙ c.if-not-is_one_of.false in
    ap (λ (b : Bool). b && list_all (is_known c.args.names.now) c.next.new.self) (sym here)
    ∙ sym (ap (list_all (is_known c.args.names.now)) rest) ∙ c.loop-member.invariant

pub returns-then-not-is_one_of-clause-bad : goal.returns-then-not-is_one_of-clause-bad
returns-then-not-is_one_of-clause-bad c bad all =
    let rest = rest_more deref c.loop-member.member-iterator c.next.new.self c.next.result c.in-Some.member c.in-Some.is c.next.ensures.steps in
    let here : is_known c.args.names.now c.in-Some.member.now ≡ false =
    ap (λ (t : Text). list_any (λ (name : Bor Text). bytes_eq t name.now) c.args.names.now) (sym c.as_str.ensures.value) ∙ sym c.is_one_of.ensures ∙ c.if-not-is_one_of.true in
    let none : are_among (map (λ (name : Bor Text). name.now) c.args.names.now) (members_view c.args.members.now.entries) ≡ false =
    sym c.loop-member.invariant ∙ ap (list_all (is_known c.args.names.now)) rest
    ∙ ap (λ (b : Bool). b && list_all (is_known c.args.names.now) c.next.new.self) here in
    false≢true (sym none ∙ all)

pub returns-clause-among : goal.returns-clause-among
returns-clause-among c =
    let none = rest_all deref c.loop-member.member-iterator c.next.new.self c.next.result c.in-None.is c.next.ensures.steps in
    sym c.loop-member.invariant ∙ ap (list_all (is_known c.args.names.now)) none
