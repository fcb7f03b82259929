-- The client of the end is used too.
use Rattle.std.proofs.Common.{rules, ◌≡◌, ◌∙◌, ◌||◌, ◌&&◌, true, is_some, sym, ap}
use Rattle.ibc_ids.specs.Texts.{Text, text_cmp, same_text}
use Rattle.ibc_ids.specs.Maps.{Map, at, with}
use Rattle.ibc_relayer.proofs.PlannedMessages.{used_more}
use Rattle.ibc_relayer.proofs.planning.plan_end.Goals as goal

pub returns-clause-used : goal.returns-clause-used
returns-clause-used c =
    let client = c.args.ends.now.client.now in
    let old = c.args.used.now.entries in
    let cloned : c.in_ok-clone.field-0 ≡ client = search rules in
    let any : c.in_ok-has_messages.field-0 ≡ true = search rules in
    λ id. ap (λ (m : Map Text (Unit {0})). is_some (at text_cmp id m)) (c.in_ok-insert.ensures.entries ∙ ap (λ (t : Text). with text_cmp t tt old) cloned)
    ∙ used_more client id old
    ∙ ap (λ b. (b && same_text client id) || is_some (at text_cmp id old)) (sym any)
    ∙ ap (λ b. b || is_some (at text_cmp id old)) (sym (c.in_ok-has_messages.ensures.over id))
